use Rattle.std.proofs.Common.{None, sym, refl, ap, ◌∙◌, ap₂, rules}
use Rattle.model.specs.Tables.{with_labels, on_lines_into, mapping_due, grant}
use Rattle.labels.specs.declared.status.Status.TheVariants.{Bound}
use Rattle.labels.specs.Stagings.{stages_of}
use Rattle.labels.specs.Reading.{labelled}
use Rattle.labels.proofs.Settling.{settled_put, statuses_put, taken_put, open_is_free}
use Rattle.labels.proofs.labels.Labels.bind_first.Goals as goal

pub invariant_of-self : goal.invariant_of-self
invariant_of-self c =
    let s = c.args.self.now in
    let g = c.in-Some.granted in
    let r = c.args.router in
    let x = Bound c.args.fec in
    let q = c.bind.new.self in
    let took = c.in-Some.ensures.takes in
    let is = taken_put s.pool c.take.new.self q r g.router g.label x took.0 took.2 c.bind.ensures in
    record { settled = settled_put s.pool q r g.label x is s.settled refl }

pub returns-in-Some : goal.returns-in-Some
returns-in-Some c =
    let s = c.args.self.now in
    let g = c.in-Some.granted in
    let r = c.args.router in
    let f = c.args.fec in
    let q = c.bind.new.self in
    let took = c.in-Some.ensures.takes in
    let is = taken_put s.pool c.take.new.self q r g.router g.label (Bound f) took.0 took.2 c.bind.ensures in
    record {
      bound = λ S t w.
          ap₂ (λ st sg. with_labels st sg t)
          (statuses_put s.pool q r g.label (Bound f) is)
          (c.tell.ensures S (λ _. mapping_due) w (λ x y r. search rules) ∙ ap (λ l. on_lines_into S r l (λ _. mapping_due) (stages_of s.stages)) c.label-label.ensures)
          ∙ ap (λ o. grant S r f None o (labelled s t)) (sym took.1 ∙ open_is_free s.pool r s.settled);
      kept = refl;
    }
