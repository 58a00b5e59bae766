-- Lists weighed, numbers compared, functions changed at one place. Assumes nothing.
use Rattle.std.proofs.Common.{◌≡◌, ℕ, zero, suc, ◌+◌, cond, eqb, ◌⊎◌, List, [], ◌∷◌, ◌++◌, refl, inl, inr, arith}
use Rattle.std.proofs.lemmas.Bool.Decides.{nat_tests}

-- a list weighed by its elements, the first one added first, so that a match on the list shows the sum
abbrev pub weigh : {A : Type 0} → (A → ℕ) → List A → ℕ
weigh w [] = 0
weigh w (x ∷ xs) = w x + weigh w xs

pub weigh_push : {A : Type 0} (w : A → ℕ) (xs : List A) (x : A) → weigh w (xs ++ x ∷ []) ≡ weigh w xs + w x
weigh_push w [] x = omega arith
weigh_push w (y ∷ ys) x = omega (arith, weigh_push w ys x)

-- 1 at equal numbers, else 0
abbrev pub hit : ℕ → ℕ → ℕ
hit a b = cond (eqb a b) 1 0

abbrev pub hit2 : ℕ → ℕ → ℕ → ℕ → ℕ
hit2 a b c d = cond (eqb a b) (hit c d) 0

pub hit_tells : (a b : ℕ) → ((a ≡ b) × (hit a b ≡ 1)) ⊎ ((a ≡ b → ⊥) × (hit a b ≡ 0))
hit_tells a b = grind (arith, nat_tests)

pub hit2_tells : (a b c d : ℕ) → ((a ≡ b) × (c ≡ d) × (hit2 a b c d ≡ 1)) ⊎ (((a ≡ b → ⊥) ⊎ (c ≡ d → ⊥)) × (hit2 a b c d ≡ 0))
hit2_tells a b c d = grind (arith, nat_tests)

-- a function changed at one place
abbrev pub Put : (ℕ → ℕ) → (ℕ → ℕ) → ℕ → ℕ → Type 0
Put g h k x = (j : ℕ) → ((j ≡ k) × (h j ≡ x)) ⊎ ((j ≡ k → ⊥) × (h j ≡ g j))

pub none_or : (n : ℕ) → (n ≡ 0) ⊎ ((m : ℕ) × (n ≡ suc m))
none_or zero = inl refl
none_or (suc m) = inr (m, refl)
