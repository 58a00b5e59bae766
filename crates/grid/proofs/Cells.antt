-- A flat list filled, and one of its places written, as a table. Assumes nothing.
use Rattle.std.proofs.Common.{◌≡◌, ℕ, zero, suc, ◌+◌, ◌-◌, ◌*◌, ◌<◌, ◌≤◌, Bool, true, false, cond, ◌&&◌, ltb, leb, ◌≢◌, ◌⊎◌, List, length, get_or, set, replicate, refl, sym, ap, ◌∙◌, inl, inr, arith, get_or-set_other, get_or-set_same}
use Rattle.std.proofs.lemmas.Bool.{cases_Bool, cond-true, cond-false, and_from, and_parts, lt-ltb, le-leb, ltb-true, leb-true}
use Rattle.std.proofs.lemmas.Nat.{same_from_place}
use Rattle.model.specs.Tables.{put2}
use Rattle.grid.specs.Grids.{grid_at}
use Rattle.grid.proofs.Puts.{places, put2_here, put2_there}

-- a list of equal elements has that element at each place, and past its end
pub get_or_blank : {X : Type 0} (k i : ℕ) (d : X) → get_or (replicate k d) i d ≡ d
get_or_blank zero i d = refl
get_or_blank (suc k) zero d = refl
get_or_blank (suc k) (suc i) d = get_or_blank k i d

either_same : {X : Type 0} (b : Bool) (y x : X) → y ≡ x → cond b y x ≡ x
either_same true y x e = e
either_same false y x e = refl

pub grid_at-filled : {X : Type 0} (rows first end n : ℕ) (x : X) → grid_at rows first end x (replicate n x) ≡ (λ _ _. x)
grid_at-filled rows first end n x = λ j a b.
    either_same (ltb a rows && (leb first b && ltb b end)) (get_or (replicate n x) (a * (end - first) + (b - first)) x) x
    (get_or_blank n (a * (end - first) + (b - first)) x) j

module _ {X : Type 0} (rows first end : ℕ) (d : X) (xs : List X) (i k : ℕ) (x : X)
    (row : i < rows) (least : first ≤ k) (most : k < end) (room : i * (end - first) + (k - first) < length xs) where
  abbrev width : ℕ
  width = end - first

  abbrev inside : ℕ → ℕ → Bool
  inside a b = ltb a rows && (leb first b && ltb b end)

  abbrev written : List X
  written = set xs (i * (end - first) + (k - first)) x

  here : (a b : ℕ) → a ≡ i → b ≡ k → grid_at rows first end d written a b ≡ x
  here a b e f =
      let one = and_from (leb first b) (ltb b end) (le-leb first b (omega arith)) (lt-ltb b end (omega arith)) in
      let in-it = and_from (ltb a rows) (leb first b && ltb b end) (lt-ltb a rows (omega arith)) one in
      cond-true (inside a b) (get_or written (a * width + (b - first)) d) d in-it
      ∙ ap (λ u. get_or written (u * width + (b - first)) d) e
      ∙ ap (λ v. get_or written (i * width + (v - first)) d) f
      ∙ get_or-set_same xs (i * width + (k - first)) x d room

  there : (a b : ℕ) → (a ≡ i → ⊥) ⊎ (b ≡ k → ⊥) → grid_at rows first end d written a b ≡ grid_at rows first end d xs a b
  there a b u = elim (cases_Bool (inside a b)) [
    | inl h ↦
        let p = and_parts (ltb a rows) (leb first b && ltb b end) h in
        let q = and_parts (leb first b) (ltb b end) p.1 in
        let low : first ≤ b = leb-true first b q.0 in
        let high : b < end = ltb-true b end q.1 in
        let apart : (a * width + (b - first)) ≢ (i * width + (k - first)) = λ e.
        let same = same_from_place a (b - first) i (k - first) width (omega arith) (omega arith) e in
        omega (arith, u, same) in
        ap (λ z. cond (inside a b) z d) (get_or-set_other xs (i * width + (k - first)) (a * width + (b - first)) x d apart)
    | inr h ↦ cond-false (inside a b) (get_or written (a * width + (b - first)) d) d h
        ∙ sym (cond-false (inside a b) (get_or xs (a * width + (b - first)) d) d h)
  ]

  either : (a b : ℕ) → grid_at rows first end d written a b ≡ put2 (grid_at rows first end d xs) i k x a b
  either a b = elim (places i k a b) [
    | inl s ↦ here a b s.0 s.1 ∙ sym (put2_here (grid_at rows first end d xs) i k x a b s.0 s.1)
    | inr u ↦ there a b u ∙ sym (put2_there (grid_at rows first end d xs) i k x a b u)
  ]

  pub grid_at-put : grid_at rows first end d written ≡ put2 (grid_at rows first end d xs) i k x
  grid_at-put = λ j a b. either a b j
