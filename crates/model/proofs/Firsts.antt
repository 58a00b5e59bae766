-- The smallest that passes: what it tells, and how a loop finds it. Assumes nothing.
use Rattle.std.proofs.Common.{◌≡◌, ℕ, zero, suc, ◌+◌, ◌<◌, ◌≤◌, Bool, true, false, cond, Some, None, refl, ap, ap₂, inl, inr, arith}
use Rattle.std.proofs.lemmas.Bool.{cases_eq}
use Rattle.model.specs.Tables.{first, first_label}

pub never : ◌≡◌ {A = ℕ} 0 1 → ⊥
never e = omega arith

pub first_some : (p : ℕ → Bool) (a n l : ℕ) → first p a n ≡ Some l → (p l ≡ true) × (a ≤ l) × (l < a + n)
first_some p a zero l e = absurd (cc)
first_some p a (suc n) l e = grind (arith, first_some p (suc a) n l)

pub first_none : (p : ℕ → Bool) (a n : ℕ) → first p a n ≡ None → (l : ℕ) → a ≤ l → l < a + n → p l ≡ false
first_none p a zero e l u v = absurd (omega arith)
first_none p a (suc n) e l u v = grind (arith, first_none p (suc a) n)

pub first_found : (p : ℕ → Bool) (a n l : ℕ) → a ≤ l → l < a + n → p l ≡ true → ((j : ℕ) → a ≤ j → j < l → p j ≡ false) → first p a n ≡ Some l
first_found p a zero l u v y none = absurd (omega arith)
first_found p a (suc n) l u v y none = elim (cases_eq a l) [
  | inl e ↦ grind (arith, ap p e)
  | inr d ↦
      let r = first_found p (suc a) n l (omega arith) (omega arith) y (λ j b c. none j (omega arith) c) in
      grind (arith, r, none a (omega arith) (omega arith))
]

pub first_missing : (p : ℕ → Bool) (a n : ℕ) → ((j : ℕ) → a ≤ j → j < a + n → p j ≡ false) → first p a n ≡ None
first_missing p a zero none = refl
first_missing p a (suc n) none =
    let r = first_missing p (suc a) n (λ j b c. none j (omega arith) (omega arith)) in grind (arith, none a (omega arith) (omega arith))

pub first_same : (p q : ℕ → Bool) (a n : ℕ) → ((j : ℕ) → a ≤ j → j < a + n → p j ≡ q j) → first p a n ≡ first q a n
first_same p q a zero e = refl
first_same p q a (suc n) e =
    ap₂ (λ b o. cond b (Some a) o) (e a (omega arith) (omega arith)) (first_same p q (suc a) n (λ j u v. e j (omega arith) (omega arith)))

-- the same of labels
pub label_some : (p : ℕ → Bool) (l : ℕ) → first_label p ≡ Some l → (p l ≡ true) × (16 ≤ l) × (l < 80)
unfolding first_label
label_some p l e = first_some p 16 64 l e

pub label_none : (p : ℕ → Bool) → first_label p ≡ None → (l : ℕ) → 16 ≤ l → l < 80 → p l ≡ false
unfolding first_label
label_none p e l = first_none p 16 64 e l

pub label_found : (p : ℕ → Bool) (l : ℕ) → 16 ≤ l → l < 80 → p l ≡ true → ((j : ℕ) → 16 ≤ j → j < l → p j ≡ false) → first_label p ≡ Some l
unfolding first_label
label_found p l = first_found p 16 64 l

pub label_missing : (p : ℕ → Bool) → ((j : ℕ) → 16 ≤ j → j < 80 → p j ≡ false) → first_label p ≡ None
unfolding first_label
label_missing p = first_missing p 16 64

pub label_same : (p q : ℕ → Bool) → ((j : ℕ) → p j ≡ q j) → first_label p ≡ first_label q
label_same p q e = ap first_label (λ i j. e j i)
