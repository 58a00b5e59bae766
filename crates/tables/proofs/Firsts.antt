-- The smallest label for which there is something, with it. Assumes nothing.
use Rattle.std.proofs.Common.{◌≡◌, ℕ, true, Some, None, Option, sym, refl, ap, ◌∙◌}
use Rattle.std.specs.Option.{option_map}
use Rattle.std.proofs.lemmas.Bool.{true≢false}
use Rattle.model.specs.Tables.{first_label, is_some, the}
use Rattle.model.proofs.Firsts.{label_some}
use Rattle.tables.specs.Grids.{with_it, first_due}

there : (l : ℕ) (o : Option ℕ) → is_some o ≡ true → option_map {U = ℕ × ℕ} (λ f. (l, f)) o ≡ Some (l, the o)
there l None e = absurd (true≢false (sym e))
there l (Some f) e = refl

pub with_first : (g : ℕ → Option ℕ) (l : ℕ) → Some l ≡ first_label (λ k. is_some (g k)) → option_map {U = ℕ × ℕ} (λ f. (l, f)) (g l) ≡ first_due g
with_first g l e = there l (g l) (label_some (λ k. is_some (g k)) l (sym e)).0 ∙ ap (with_it g) e
