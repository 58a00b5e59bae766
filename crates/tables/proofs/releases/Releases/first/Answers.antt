use Rattle.std.proofs.Common.{◌≡◌, ℕ, Some, Option, ◌∙◌, rules}
use Rattle.std.specs.Option.{option_map}
use Rattle.model.specs.Tables.{first_label, is_some}
use Rattle.tables.specs.Grids.{dues_of}
use Rattle.tables.proofs.Firsts.{with_first}
use Rattle.tables.proofs.releases.Releases.first.Goals as goal

pub returns : goal.returns
returns c =
    let g : ℕ → Option ℕ = dues_of c.args.self.now c.args.line in
    let l = c.in_ok-label.label in
    let found : c.smallest.result ≡ first_label (λ k. is_some (g k)) = c.smallest.ensures (λ k. is_some (g k)) (λ l a b r post. search rules) in
    let is : Some l ≡ c.smallest.result = search rules in
    let mapped : c.map.result ≡ option_map {U = ℕ × ℕ} (λ f. (l, f)) (g l) = search rules in
    mapped ∙ with_first g l (is ∙ found)
