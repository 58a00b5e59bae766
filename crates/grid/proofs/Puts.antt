-- A table changed at one place. Assumes nothing.
use Rattle.std.proofs.Common.{◌≡◌, ℕ, eqb, ◌⊎◌, sym, ap, ◌∙◌, inl, inr, subst}
use Rattle.std.proofs.lemmas.Bool.{cases_eq, cond-true, cond-false, eq-eqb, ne_eqb}
use Rattle.model.specs.Tables.{put, put2}

-- the place itself, or another
pub places : (i k a b : ℕ) → ((a ≡ i) × (b ≡ k)) ⊎ ((a ≡ i → ⊥) ⊎ (b ≡ k → ⊥))
places i k a b = elim (cases_eq a i) [
  | inl e ↦ elim (cases_eq b k) [ inl f ↦ inl (e, f) | inr d ↦ inr (inr d) ]
  | inr d ↦ inr (inl d)
]

module _ {X : Type 0} (g : ℕ → ℕ → X) (i k : ℕ) (x : X) (a b : ℕ) where
  row_here : a ≡ i → put2 g i k x a b ≡ put (g i) k x b
  row_here e = ap (λ h. h b) (cond-true (eqb a i) (put (g i) k x) (g a) (eq-eqb a i e))

  pub put2_here : a ≡ i → b ≡ k → put2 g i k x a b ≡ x
  put2_here e f = row_here e ∙ cond-true (eqb b k) x (g i b) (eq-eqb b k f)

  pub put2_there : (a ≡ i → ⊥) ⊎ (b ≡ k → ⊥) → put2 g i k x a b ≡ g a b
  put2_there (inl d) = ap (λ h. h b) (cond-false (eqb a i) (put (g i) k x) (g a) (ne_eqb a i d))
  put2_there (inr d) = elim (cases_eq a i) [
    | inl e ↦ row_here e ∙ cond-false (eqb b k) x (g i b) (ne_eqb b k d) ∙ ap (λ r. g r b) (sym e)
    | inr n ↦ ap (λ h. h b) (cond-false (eqb a i) (put (g i) k x) (g a) (ne_eqb a i n))
  ]

-- the later change counts
pub put2_over : {X : Type 0} (g : ℕ → ℕ → X) (i k : ℕ) (x y : X) → put2 (put2 g i k x) i k y ≡ put2 g i k y
put2_over {X} g i k x y = λ j a b. at a b j where
  at : (a b : ℕ) → put2 (put2 g i k x) i k y a b ≡ put2 g i k y a b
  at a b = elim (places i k a b) [
    | inl s ↦ put2_here (put2 g i k x) i k y a b s.0 s.1 ∙ sym (put2_here g i k y a b s.0 s.1)
    | inr d ↦ put2_there (put2 g i k x) i k y a b d ∙ put2_there g i k x a b d ∙ sym (put2_there g i k y a b d)
  ]

-- a change read through a function
pub put2_through : {X Y : Type 0} (h : X → Y) (g : ℕ → ℕ → X) (i k : ℕ) (x : X)
    → (λ a b. h (put2 g i k x a b)) ≡ put2 (λ a b. h (g a b)) i k (h x)
put2_through {X} {Y} h g i k x = λ j a b. at a b j where
  at : (a b : ℕ) → h (put2 g i k x a b) ≡ put2 (λ a b. h (g a b)) i k (h x) a b
  at a b = elim (places i k a b) [
    | inl s ↦ ap h (put2_here g i k x a b s.0 s.1) ∙ sym (put2_here (λ c d. h (g c d)) i k (h x) a b s.0 s.1)
    | inr d ↦ ap h (put2_there g i k x a b d) ∙ sym (put2_there (λ c d. h (g c d)) i k (h x) a b d)
  ]

-- what every place of a table passes, it passes still once one place is changed to what passes
pub all_put2 : {X : Type 0} (P : X → Type 0) (g h : ℕ → ℕ → X) (i k : ℕ) (x : X) → h ≡ put2 g i k x → ((a b : ℕ) → P (g a b)) → P x
    → (a b : ℕ) → P (h a b)
all_put2 P g h i k x e all one a b = elim (places i k a b) [
  | inl s ↦ subst P (sym (ap (λ z. z a b) e ∙ put2_here g i k x a b s.0 s.1)) one
  | inr d ↦ subst P (sym (ap (λ z. z a b) e ∙ put2_there g i k x a b d)) (all a b)
]

-- the same of a table that has one value everywhere
pub all_filled : {X : Type 0} (P : X → Type 0) (h : ℕ → ℕ → X) (x : X) → h ≡ (λ _ _. x) → P x → (a b : ℕ) → P (h a b)
all_filled P h x e one a b = subst P (sym (ap (λ z. z a b) e)) one
