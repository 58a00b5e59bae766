use Rattle.std.proofs.Common.{◌≡◌, ℕ, ◌-◌, List, length, refl, ap, ◌∙◌, subst}
use Rattle.std.specs.Prelude.{IfOk}
use Rattle.plant.specs.Plants.{Shape}
use Rattle.tunnel.specs.declared.path.Path.{Path}
use Rattle.tunnel.specs.Rules.{padded, path_over, rule_broken}
use Rattle.tunnel.proofs.Judges.{made_value, made_future}
use Rattle.tunnel.proofs.Made.{made_kept}
use Rattle.tunnel.proofs.tunnel.Tunnel.new.Goals as goal

path_made : (s : Shape) (xs ls : List ℕ) (w n b k : ℕ) → ls ≡ padded 8 xs → n ≡ s.lines → k ≡ s.kept → b ≡ k - length xs
    → ◌≡◌ {A = Path} (record { lines = ls; len = length xs; window = w; below = n; base = b }) (path_over s xs w)
path_made s xs ls w n b k lines below kept base = cc

pub invariant_of-result : goal.invariant_of-result
invariant_of-result g c =
    let v = g.P.Plant.value c.args.below in
    let xs = c.args.path.now in
    let w = c.args.window in
    let is = path_made v.shape xs c.first_eight.result w c.lines.result c.saturating_sub-base.result c.kept.result c.first_eight.ensures c.lines.ensures c.kept.ensures c.saturating_sub-base.ensures in
    let path = subst (λ (z : Path). IfOk c.judge-route.result (λ p. p ≡ z)) is c.judge-route.ensures.path in
    record { kept = made_kept v (g.met.P.Plant.lawful c.args.below) xs w c.judge-route.result path (c.judge-route.ensures.refused ∙ ap (rule_broken v) is) }

pub returns : goal.returns
returns g c =
    let v = g.P.Plant.value c.args.below in
    let xs = c.args.path.now in
    let w = c.args.window in
    let r = c.judge-route.result in
    let is = path_made v.shape xs c.first_eight.result w c.lines.result c.saturating_sub-base.result c.kept.result c.first_eight.ensures c.lines.ensures c.kept.ensures c.saturating_sub-base.ensures in
    let path = subst (λ (z : Path). IfOk r (λ p. p ≡ z)) is c.judge-route.ensures.path in
    let told = c.judge-route.ensures.refused ∙ ap (rule_broken v) is in
    record {
      told = told;
      below = refl;
      path = path;
      value = made_value v xs w r path told;
      future = made_future v xs w (g.P.Plant.future c.args.below) (g.met.P.Plant.shows c.args.below) r path told;
    }
