use Rattle.std.proofs.Common.{refl, ◌∙◌, ap₂, rules}
use Rattle.model.specs.Tables.{with_labels, tidy, fall}
use Rattle.labels.specs.declared.status.Status.TheVariants.{Leaving}
use Rattle.labels.proofs.Settling.{settled_put, statuses_put}
use Rattle.labels.proofs.labels.Labels.unbind.Goals as goal

pub invariant_of-self : goal.invariant_of-self
invariant_of-self c =
    let s = c.args.self.now in
    let x = Leaving c.args.fec in
    record { settled = settled_put s.pool c.leave.new.self c.args.router c.args.label x c.leave.ensures s.settled refl }

pub returns : goal.returns
returns c =
    let s = c.args.self.now in
    let r = c.args.router in
    let l = c.args.label in
    let x = Leaving c.args.fec in
    record {
      unbound = λ S t w. c.tidy.ensures.tidied S t w
          ∙ ap₂ (λ k s. tidy S k l s) c.number.ensures.same (ap₂ (λ st sg. with_labels st sg t)
          (statuses_put s.pool c.leave.new.self r l x c.leave.ensures) (c.tell.ensures S fall w (λ x y r. search rules)));
      kept = c.tidy.ensures.kept;
    }
