use Rattle.std.proofs.Common.{◌≡◌, Some, sym, ap, ◌∙◌, subst, rules, tests}
use Rattle.labels.specs.Wirings.{end_of}
use Rattle.network.specs.Steadiness.{is_independent}
use Rattle.network.proofs.Starts.{inside}
use Rattle.network.proofs.starting.routers_of.Goals as goal

pub invariant_of-result : goal.invariant_of-result
invariant_of-result g c =
    let new = c.new-tables.ensures in
    let same : c.eq-independent.result ≡ is_independent c.policy.result = search (rules, tests) in
    record {
      steady = record {
        policy = new.policy ∙ same ∙ ap is_independent c.policy.ensures;
        lines = new.lines ∙ sym (ap (λ w. w.lines) new.wiring);
        inside = λ q e r d. inside c.args.plan (g.P.Plant.value c.args.plant.now) c.wiring_of.result c.wiring_of.ensures (sym c.is_still-still.ensures ∙ q) e r
            (subst (λ w. end_of w e ≡ Some r) new.wiring d);
      };
    }
