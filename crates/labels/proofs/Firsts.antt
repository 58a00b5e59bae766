-- The smallest that passes, and a search over a range. Assumes nothing.
use Rattle.std.proofs.Common.{◌≡◌, ℕ, zero, suc, ◌+◌, ◌<◌, ◌≤◌, Bool, true, false, cond, ◌||◌, Some, refl, ap, ◌∙◌, ap₂, add-one, arith}
use Rattle.std.specs.List.{list_any, range_with_len}
use Rattle.model.specs.Tables.{first, first_label, is_some}

pub first_same : (p q : ℕ → Bool) (a n : ℕ) → ((j : ℕ) → a ≤ j → j < a + n → p j ≡ q j) → first p a n ≡ first q a n
first_same p q a zero e = refl
first_same p q a (suc n) e =
    ap₂ (λ b o. cond b (Some a) o) (e a (omega arith) (omega arith)) (first_same p q (suc a) n (λ j u v. e j (omega arith) (omega arith)))

-- the same of labels
pub label_same : (p q : ℕ → Bool) → ((j : ℕ) → p j ≡ q j) → first_label p ≡ first_label q
label_same p q e = ap first_label (λ i j. e j i)

-- one of a range passes where there is a first that passes
pub any_first : (p : ℕ → Bool) (a n : ℕ) → list_any p (range_with_len a n) ≡ is_some (first p a n)
any_first p a zero = refl
any_first p a (suc n) =
    elim (p a) as (λ b. (b || list_any p (range_with_len (a + 1) n)) ≡ is_some (cond b (Some a) (first p (suc a) n))) [
      | true ↦ refl
      | false ↦ ap (λ k. list_any p (range_with_len k n)) (add-one a) ∙ any_first p (suc a) n
    ]
