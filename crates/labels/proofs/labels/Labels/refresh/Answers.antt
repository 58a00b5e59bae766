use Rattle.std.proofs.Common.{◌≡◌, Some, sym, ap, ◌∙◌}
use Rattle.std.proofs.lemmas.Bool.{cond-false}
use Rattle.model.specs.Tables.{label_of, free_label, may_bind, grant, let_go}
use Rattle.labels.specs.Reading.{labelled}
use Rattle.labels.proofs.labels.Labels.refresh.Goals as goal

pub returns-in-false-Some-clause-refreshed : goal.returns-in-false-Some-clause-refreshed
returns-in-false-Some-clause-refreshed c independent S t w may =
    let r = c.args.router in
    let f = c.args.fec in
    let u = labelled c.args.self.now t in
    let found : Some c.in-false-Some.label ≡ label_of r f u =
    sym c.in-false-Some.is-1 ∙ c.bound_label.ensures t ∙ ap (λ k. label_of k f u) c.number.ensures.same in
    c.unbind.ensures.unbound S t w
    ∙ ap (λ o. let_go S r f o u) found
    ∙ sym (cond-false (may_bind independent r f u) (grant S r f (label_of r f u) (free_label r u) u)
    (let_go S r f (label_of r f u) u) (may ∙ c.in-false-Some.is-0))
