-- Partner lines. Assumes the laws of a plant's lines.
use Rattle.std.proofs.Common.{◌≡◌, ℕ, ◌+◌, ◌*◌, ◌/◌, ◌%◌, ◌<◌, ◌⊎◌, sym, ap, ◌∙◌, inl, inr, arith}
use Rattle.std.proofs.lemmas.Bool.{cases_eq}
use Rattle.std.proofs.lemmas.Bool.Decides.{nat_tests}
use Rattle.plant.specs.Plants.{Shape, ShapeLaws, partner}

-- e is even and its partner is the next, or it is odd and its partner is the one before
pub partner_tells : (e : ℕ) → ((k : ℕ) × (e ≡ 2 * k) × (partner e ≡ 2 * k + 1)) ⊎ ((k : ℕ) × (e ≡ 2 * k + 1) × (partner e ≡ 2 * k))
partner_tells e = elim (cases_eq (e % 2) 0) [
  | inl z ↦ inl (e / 2, omega arith, grind (arith, nat_tests))
  | inr n ↦ inr (e / 2, omega arith, grind (arith, nat_tests))
]

pub back : (e : ℕ) → partner (partner e) ≡ e
back e = grind (arith, partner_tells e, partner_tells (partner e))

module _ {S : Shape} (law : ShapeLaws S) where
  pub stands : (e : ℕ) → e < S.lines → partner e < S.lines
  stands e le = grind (arith, partner_tells e, law.even)

  pub begins : (e : ℕ) → e < S.lines → (S.line (partner e)).from ≡ (S.line e).to
  begins e le = elim (partner_tells e) [
    | inl a ↦ ap (λ i. (S.line i).from) a.2 ∙ sym (law.partners a.0 (omega (arith, law.even))).1 ∙ ap (λ i. (S.line i).to) (sym a.1)
    | inr a ↦ ap (λ i. (S.line i).from) a.2 ∙ (law.partners a.0 (omega arith)).0 ∙ ap (λ i. (S.line i).to) (sym a.1)
  ]

  pub begins_at : (e : ℕ) → e < S.lines → (S.line e).from ≡ (S.line (partner e)).to
  begins_at e le = ap (λ i. (S.line i).from) (sym (back e)) ∙ begins (partner e) (stands e le)
