-- A loop over the lines that changes one label's stage on some. Assumes nothing.
use Rattle.std.proofs.Common.{◌≡◌, ℕ, ◌+◌, Bool, true, false, cond, ◌&&◌, ltb, ap, ◌∙◌, inl, inr, arith}
use Rattle.std.proofs.lemmas.Bool.Decides.{nat_tests}
use Rattle.model.specs.Tables.{put, put2}
use Rattle.grid.proofs.Puts.{places, put2_here, put2_there}

-- the rows below i that pass are changed
abbrev pub below : (ℕ → Bool) → ℕ → (ℕ → ℕ) → (ℕ → ℕ → ℕ) → ℕ → ℕ → ℕ → ℕ
below into j c g i e = cond (ltb e i && into e) (put (g e) j (c (g e j))) (g e)

module _ (into : ℕ → Bool) (j : ℕ) (c : ℕ → ℕ) (g h : ℕ → ℕ → ℕ) (i : ℕ) (t : (e k : ℕ) → h e k ≡ below into j c g i e k) where
  pub below_changed : (h' : ℕ → ℕ → ℕ) → into i ≡ true → h' ≡ put2 h i j (c (h i j)) → (e k : ℕ) → h' e k ≡ below into j c g (i + 1) e k
  below_changed h' y p e k =
      let v : h i j ≡ g i j = t i j ∙ grind (arith, nat_tests) in
      ap (λ z. z e k) p ∙ (elim (places i j e k) [
        | inl u ↦ put2_here h i j (c (h i j)) e k u.0 u.1 ∙ ap c v ∙ grind (arith, nat_tests, u.0, u.1)
        | inr u ↦ put2_there h i j (c (h i j)) e k u ∙ t e k ∙ grind (arith, nat_tests, u)
      ])

  pub below_left : into i ≡ false → (e k : ℕ) → h e k ≡ below into j c g (i + 1) e k
  below_left y e k = t e k ∙ grind (arith, nat_tests)
