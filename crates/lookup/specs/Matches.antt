-- Longest match. Assumes nothing.
use Rattle.std.specs.Prelude.{◌≡◌, ℕ, zero, suc, ◌<◌, ◌≤◌, Bool, true, false, cond, ◌&&◌, List, length, Some, None, Option, MatchOption, ◌≢◌, nat_lt, slice_index_or}
use Rattle.lookup.specs.declared.fec.Fec.{Fec}
use Rattle.lookup.specs.declared.address.Address.{Address}
use Rattle.lookup.specs.Fecs.{length_of, no_fec, covers}

-- the FEC at a place of a table
abbrev pub fec_at : List Fec → ℕ → Fec
fec_at fs k = slice_index_or fs k no_fec

-- the FEC of a number, if there is one
abbrev pub fec_numbered : List Fec → ℕ → Option Fec
fec_numbered fs k = cond (nat_lt k (length fs)) (Some (fec_at fs k)) None

-- the best place so far, with the FEC at n seen too, which passes the test or not; the earlier one where two are as long
abbrev pub better : Bool → List Fec → ℕ → Option ℕ → Option ℕ
better t fs n None = cond t (Some n) None
better t fs n (Some b) = cond (t && nat_lt (length_of (fec_at fs b)) (length_of (fec_at fs n))) (Some n) (Some b)

-- of the first n FECs, the place of the longest that passes a test, the first of them
abbrev pub longest_to : (Fec → Bool) → List Fec → ℕ → Option ℕ
longest_to test fs zero = None
longest_to test fs (suc n) = better (test (fec_at fs n)) fs n (longest_to test fs n)

-- the same of all FECs of a table
abbrev pub longest_of : (Fec → Bool) → List Fec → Option ℕ
longest_of test fs = longest_to test fs (length fs)

-- of the first n FECs, the one at i passes the test, and none that passes it is longer
pub record Longest (test : Fec → Bool) (fs : List Fec) (n i : ℕ) : Type 0 where
  pub low : i < n
  pub passes : test (fec_at fs i) ≡ true
  pub longest : (k : ℕ) → k < n → test (fec_at fs k) ≡ true → length_of (fec_at fs k) ≤ length_of (fec_at fs i)

-- of the first n FECs, None if none passes the test, else the place of a longest that does
abbrev pub BestTo : (Fec → Bool) → List Fec → ℕ → Option ℕ → Type 0
BestTo test fs n r = MatchOption r ((k : ℕ) → k < n → test (fec_at fs k) ≡ false) (λ i. Longest test fs n i)

-- the same of all FECs of a table
abbrev pub Best : (Fec → Bool) → List Fec → Option ℕ → Type 0
Best test fs r = BestTo test fs (length fs) r

-- longest match: the number of the longest FEC of a table that covers an address, the first of them
abbrev pub best_match : List Fec → Address → Option ℕ
best_match fs x = longest_of (λ f. covers f x) fs

-- None if no FEC covers the address, else the number of one that does, and none that does is longer
abbrev pub BestMatch : List Fec → Address → Option ℕ → Type 0
BestMatch fs x r = Best (λ f. covers f x) fs r

-- every other FEC that covers the address is shorter than the one found
abbrev pub OnlyMatch : List Fec → Address → Option ℕ → Type 0
OnlyMatch fs x r =
    MatchOption r (Unit {0}) (λ i. (k : ℕ) → k < length fs → (k ≢ i)
    → covers (fec_at fs k) x ≡ true → length_of (fec_at fs k) < length_of (fec_at fs i))
