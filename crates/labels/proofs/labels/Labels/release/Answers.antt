use Rattle.std.proofs.Common.{sym, ap, ◌∙◌, ap₂}
use Rattle.model.specs.Tables.{with_labels, tidy}
use Rattle.labels.specs.Pools.{statuses_of}
use Rattle.labels.specs.Wirings.{end_of}
use Rattle.labels.proofs.Shapes.{end_same}
use Rattle.labels.proofs.labels.Labels.release.Goals as goal

pub returns-clause-released : goal.returns-clause-released
returns-clause-released c S t w =
    let s = c.args.self.now in
    c.tidy.ensures.tidied S t w
    ∙ ap₂ (λ r sg. tidy S r c.args.label (with_labels (statuses_of s.pool) sg t))
    (end_same s.wiring S w c.args.line _ c.requires (sym (c.to.ensures ∙ ap (end_of s.wiring) c.number.ensures.same) ∙ c.unwrap-router.ensures)) c.untell.ensures
