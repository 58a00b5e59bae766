-- At most one FEC of a table whose FECs are apart has the greatest covering length. Assumes nothing.
use Rattle.std.proofs.Common.{◌≡◌, ℕ, ◌<◌, ◌≤◌, min, true, leb, List, length, Some, None, Option, sym, ⊎_elim, arith}
use Rattle.std.proofs.lemmas.Bool.Decides.{nat_tests, leb_tells}
use Rattle.lookup.specs.declared.address.Address.{Address}
use Rattle.lookup.specs.declared.address.Address.TheVariants.{V4 as addr4, V6 as addr6}
use Rattle.lookup.specs.declared.fec.Fec.{Fec}
use Rattle.lookup.specs.declared.fec.Fec.TheVariants.{V4 as fec4, V6 as fec6}
use Rattle.lookup.specs.Fecs.{length_of, covers}
use Rattle.lookup.specs.Agreement.{agree4, agree6}
use Rattle.lookup.specs.Matches.{fec_at, BestMatch, OnlyMatch}
use Rattle.lookup.specs.Tables.{clash, Apart}
use Rattle.lookup.specs.Agree.{symmetric4, between4, symmetric6, between6}

-- two prefixes of one length that cover one address: the one covers the other's start
meet : {T : Type 0} (agrees : T → T → ℕ) → ((a b : T) → agrees a b ≡ agrees b a)
    → ((a b c : T) → min (agrees a b) (agrees b c) ≤ agrees a c)
    → (p q x : T) (n m : ℕ) → leb n (agrees p x) ≡ true → leb m (agrees q x) ≡ true → n ≡ m → leb n (agrees p q) ≡ true
meet agrees sm bt p q x n m a b e =
    let s = sm q x in
    let t = bt p x q in
    grind (arith, nat_tests)

both_cover : (f g : Fec) (x : Address) → covers f x ≡ true → covers g x ≡ true → length_of f ≡ length_of g → clash f g ≡ true
both_cover (fec4 p) (fec4 q) (addr4 x) a b e =
    let m = meet agree4 symmetric4 between4 p.start q.start x p.len q.len a b e in grind (arith, nat_tests)
both_cover (fec6 p) (fec6 q) (addr6 x) a b e =
    let m = meet agree6 symmetric6 between6 p.start q.start x p.len q.len a b e in grind (arith, nat_tests)
both_cover (fec4 p) (fec4 q) (addr6 x) a b e = cc
both_cover (fec4 p) (fec6 q) (addr4 x) a b e = cc
both_cover (fec4 p) (fec6 q) (addr6 x) a b e = cc
both_cover (fec6 p) (fec4 q) (addr4 x) a b e = cc
both_cover (fec6 p) (fec4 q) (addr6 x) a b e = cc
both_cover (fec6 p) (fec6 q) (addr4 x) a b e = cc

module _ (fs : List Fec) (x : Address) (s : Apart fs) where
  abbrev size : ℕ → ℕ
  size k = length_of (fec_at fs k)

  unlike : (i k : ℕ) → i < length fs → k < length fs → (k ≡ i → ⊥)
      → covers (fec_at fs i) x ≡ true → covers (fec_at fs k) x ≡ true → size k ≡ size i → ⊥
  unlike i k a b ne p q e =
      ⊎_elim
      (λ l. let m : i < k = omega (arith, l.1, ne) in cc (s i k (m, b), both_cover (fec_at fs i) (fec_at fs k) x p q (sym e)))
      (λ l. cc (s k i (l.1, a), both_cover (fec_at fs k) (fec_at fs i) x q p e)) (leb_tells i k)

  pub only_match : (r : Option ℕ) → BestMatch fs x r → OnlyMatch fs x r
  only_match None b = tt
  only_match (Some i) b = λ k h ne p. let u = unlike i k b.low h ne b.passes p in let l = b.longest k h p in omega (arith, u, l)
