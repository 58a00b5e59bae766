use Rattle.std.proofs.Common.{◌≡◌, sym, refl, ap, ◌∙◌}
use Rattle.model.specs.Tables.{with_labels, put2}
use Rattle.labels.specs.declared.status.Status.TheVariants.{Free}
use Rattle.labels.specs.Pools.{slots}
use Rattle.labels.specs.Reading.{labelled}
use Rattle.labels.specs.Stagings.{stages_of}
use Rattle.labels.proofs.Settling.{made, settled_put, statuses_put}
use Rattle.labels.proofs.Shapes.{tidy_frees, tidy_rests}
use Rattle.labels.proofs.labels.Labels.tidy.Goals as goal

pub invariant_of-self : goal.invariant_of-self
invariant_of-self c =
    let s = c.args.self.now in
    record { settled = settled_put s.pool c.free.new.self c.unwrap.result c.args.label Free c.free.ensures s.settled refl }

pub returns-then-is_done : goal.returns-then-is_done
returns-then-is_done c =
    let s = c.args.self.now in
    let r = c.args.router in
    let l = c.args.label in
    let q = c.free.new.self in
    let freed : slots q ≡ put2 (slots s.pool) r l Free =
    c.free.ensures ∙ ap (λ k. put2 (slots s.pool) k l Free) (made _ _ _ (sym c.new.ensures ∙ c.unwrap.ensures)) in
    record {
      tidied = λ S t w.
          ap (λ st. with_labels st (stages_of s.stages) t) (statuses_put s.pool q r l Free freed)
          ∙ tidy_frees s.wiring S w r l (labelled s t) (sym c.is_done.ensures ∙ c.if-is_done.true);
      kept = refl;
    }

pub returns-else-is_done : goal.returns-else-is_done
returns-else-is_done c =
    let s = c.args.self.now in
    record {
      tidied = λ S t w.
          tidy_rests s.wiring S w c.args.router c.args.label (labelled s t) (sym c.is_done.ensures ∙ c.if-is_done.false);
      kept = refl;
    }
