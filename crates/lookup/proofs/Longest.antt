-- The longest of the first n FECs that pass a test, by one FEC more. Assumes nothing.
use Rattle.std.proofs.Common.{◌≡◌, ℕ, zero, suc, ◌+◌, ◌<◌, ◌≤◌, Bool, true, false, cond, ltb, List, length, IfSome, Some, None, Option, sym, refl, ap, ◌∙◌, subst, add-one, arith, below_more}
use Rattle.std.proofs.lemmas.Bool.Decides.{nat_tests}
use Rattle.lookup.specs.declared.fec.Fec.{Fec}
use Rattle.lookup.specs.Fecs.{length_of}
use Rattle.lookup.specs.Matches.{fec_at, better, longest_to, longest_of, Longest, BestTo, Best}

upto : (P : ℕ → Type 0) (n : ℕ) → ((k : ℕ) → k < n → P k) → P n → (k : ℕ) → k < suc n → P k
upto P n low here k h = below_more P n low here k (omega arith)

module _ (test : Fec → Bool) (fs : List Fec) where
  abbrev size : ℕ → ℕ
  size k = length_of (fec_at fs k)

  -- the FEC at n passes, and b is the best before it
  pub pick : (n b : ℕ) (w : Bool) → ltb (size b) (size n) ≡ w → test (fec_at fs n) ≡ true → Longest test fs n b
      → BestTo test fs (suc n) (cond w (Some n) (Some b))
  pick n b true e t o = record {
    low = omega arith;
    passes = t;
    longest = upto (λ k. test (fec_at fs k) ≡ true → size k ≤ size n) n
        (λ k h p. let q = o.longest k h p in grind (arith, nat_tests)) (λ _. omega arith);
  }
  pick n b false e t o = record {
    low = omega (arith, o.low);
    passes = o.passes;
    longest = upto (λ k. test (fec_at fs k) ≡ true → size k ≤ size b) n o.longest (λ _. grind (arith, nat_tests));
  }

  pub step : (n : ℕ) (t : Bool) (o : Option ℕ) → test (fec_at fs n) ≡ t → BestTo test fs n o
      → BestTo test fs (suc n) (better t fs n o)
  step n true None e b = record {
    low = omega arith;
    passes = e;
    longest = upto (λ k. test (fec_at fs k) ≡ true → size k ≤ size n) n (λ k h p. cc (b k h)) (λ _. omega arith);
  }
  step n true (Some i) e b = pick n i (ltb (size i) (size n)) refl e b
  step n false None e b = upto (λ k. test (fec_at fs k) ≡ false) n b e
  step n false (Some i) e b = record {
    low = omega (arith, b.low);
    passes = b.passes;
    longest = upto (λ k. test (fec_at fs k) ≡ true → size k ≤ size i) n b.longest (λ p. (cc));
  }

  pub best_to : (n : ℕ) → BestTo test fs n (longest_to test fs n)
  best_to zero = λ k h. absurd (omega arith)
  best_to (suc n) = step n (test (fec_at fs n)) (longest_to test fs n) refl (best_to n)

  pub best_so_far : (n : ℕ) (o : Option ℕ) → o ≡ longest_to test fs n → BestTo test fs n o
  best_so_far n o e = subst (BestTo test fs n) (sym e) (best_to n)

  within : (n : ℕ) (o : Option ℕ) → n ≤ length fs → BestTo test fs n o → IfSome o (λ b. b < length fs)
  within n None h b = tt
  within n (Some i) h b = omega (arith, b.low)

  pub low_to : (n : ℕ) (o : Option ℕ) → o ≡ longest_to test fs n → n ≤ length fs → IfSome o (λ b. b < length fs)
  low_to n o e h = within n o h (best_so_far n o e)

  -- the best of all FECs
  pub best_all : (n : ℕ) (o : Option ℕ) → o ≡ longest_to test fs n → n ≡ length fs
      → (o ≡ longest_of test fs) × Best test fs o
  best_all n o e h =
      let q : o ≡ longest_of test fs = e ∙ ap (longest_to test fs) h in
      (q, best_so_far (length fs) o q)

  -- one FEC more is seen
  pub one_more : (n : ℕ) (o r : Option ℕ) (t : Bool) → o ≡ longest_to test fs n → t ≡ test (fec_at fs n) → r ≡ better t fs n o
      → r ≡ longest_to test fs (n + 1)
  one_more n o r t e q f = f ∙ ap (λ b. better b fs n o) q ∙ ap (better (test (fec_at fs n)) fs n) e
      ∙ sym (ap (longest_to test fs) (add-one n))
