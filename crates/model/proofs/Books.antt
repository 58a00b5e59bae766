-- The book: what a new record and an end change. Assumes nothing.
use Rattle.std.proofs.Common.{◌≡◌, ℕ, zero, suc, ◌+◌, List, [], ◌∷◌, ◌++◌, length, Some, None, Option, refl, ap, arith}
use Rattle.std.proofs.lemmas.Grind.{common_steps}
use Rattle.std.proofs.lemmas.Option.{gets}
use Rattle.model.specs.declared.fate.Fate.{Fate}
use Rattle.model.specs.declared.fate.Fate.TheVariants.{Waiting, Delivered, Dropped}
use Rattle.model.specs.Tables.{the}
use Rattle.model.specs.Packets.{Record, End, at, revise, close, settle, is_fate, is_waiting}
use Rattle.model.specs.Promises.{one, count}

module _ {X : Type 0} where
  pub at_last : (xs : List X) (x : X) → at (xs ++ x ∷ []) (length xs) ≡ Some x
  at_last xs x = grind (arith, common_steps, gets)

  pub at_other : (xs : List X) (x : X) (p : ℕ) → (p ≡ length xs → ⊥) → at (xs ++ x ∷ []) p ≡ at xs p
  at_other xs x p n = grind (arith, common_steps, gets)

  pub revise_here : (g : X → X) (p : ℕ) (xs : List X) (x : X) → at xs p ≡ Some x → at (revise g p xs) p ≡ Some (g x)
  revise_here g p [] x e = cc
  revise_here g zero (y ∷ xs) x e = cc
  revise_here g (suc p) (y ∷ xs) x e = revise_here g p xs x e

  pub revise_other : (g : X → X) (p : ℕ) (xs : List X) (i : ℕ) → (i ≡ p → ⊥) → at (revise g p xs) i ≡ at xs i
  revise_other g p [] i n = refl
  revise_other g zero (y ∷ xs) zero n = absurd (n refl)
  revise_other g zero (y ∷ xs) (suc i) n = refl
  revise_other g (suc p) (y ∷ xs) zero n = refl
  revise_other g (suc p) (y ∷ xs) (suc i) n = revise_other g p xs i (λ e. n (ap suc e))

  pub length-revise : (g : X → X) (p : ℕ) (xs : List X) → length (revise g p xs) ≡ length xs
  length-revise g p [] = refl
  length-revise g zero (y ∷ xs) = refl
  length-revise g (suc p) (y ∷ xs) = ap suc (length-revise g p xs)

fate_counts : (o : Fate) → one (is_fate Delivered o) + one (is_fate Dropped o) + one (is_fate Waiting o) ≡ 1
fate_counts o = grind arith

module _ {A : Type 0} where
  -- 1 if there is such a packet and it waits
  abbrev pub alive : Option (Record A) → ℕ
  alive x = one (is_waiting x)

  abbrev pub fec_in : Option (Record A) → ℕ
  fec_in None = 0
  fec_in (Some x) = the x.fec

  -- the FEC of each packet
  abbrev pub fec_by : List (Record A) → ℕ → ℕ
  fec_by b p = fec_in (at b p)

  close_fec : (d : End) (p : ℕ) (b : List (Record A)) (i : ℕ) → fec_by (revise (close d) p b) i ≡ fec_by b i
  close_fec d p [] i = refl
  close_fec d zero (y ∷ b) zero = refl
  close_fec d zero (y ∷ b) (suc i) = refl
  close_fec d (suc p) (y ∷ b) zero = refl
  close_fec d (suc p) (y ∷ b) (suc i) = close_fec d p b i

  -- an end leaves each packet its FEC
  pub settle_fec : (d : Option End) (b : List (Record A)) → fec_by (settle d b) ≡ fec_by b
  settle_fec None b = refl
  settle_fec (Some d) b = λ i p. close_fec d d.packet b p i

  pub length-settle : (d : Option End) (b : List (Record A)) → length (settle d b) ≡ length b
  length-settle None b = refl
  length-settle (Some d) b = length-revise (close d) d.packet b

  pub counts : (b : List (Record A)) → length b ≡ count Delivered b + count Dropped b + count Waiting b
  counts [] = refl
  counts (x ∷ b) = omega (arith, counts b, fate_counts x.fate)
