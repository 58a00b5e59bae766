use Rattle.std.proofs.Common.{◌≡◌, ℕ, true, false, arith, rules, tests}
use Rattle.std.proofs.lemmas.Iterator.{cases_from_any, YieldsList-from_range}
use Rattle.model.specs.History.{is_outside}
use Rattle.network.specs.Networks.{plan_of}
use Rattle.network.proofs.Starts.{some_first, none_first, any_below}
use Rattle.network.proofs.starting.leads_out.Goals as goal

pub returns : goal.returns
returns g c =
    let v = g.P.Plant.value c.args.plant.now in
    let out = is_outside (plan_of c.args.plan.now) v.shape in
    let Yes : ℕ → Type 0 = λ e. out e ≡ true in
    let No : ℕ → Type 0 = λ e. out e ≡ false in
    any_below v.shape.lines Yes No c.any.result _
    (cases_from_any _ _ c.any.result Yes No c.any.ensures.ran (YieldsList-from_range 0 c.lines.result v.shape.lines (cc) (omega (arith, c.lines.ensures))) (λ x q k. search (rules, tests)) (λ x q k. search (rules, tests)))
    (some_first out v.shape.lines) (none_first out v.shape.lines)
