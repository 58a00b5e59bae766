use Rattle.std.proofs.Common.{◌≡◌, refl, ap, ◌∙◌, rules}
use Rattle.plant.specs.Plants.{partner}
use Rattle.model.specs.Tables.{with_labels, put2}
use Rattle.labels.specs.Numbers.{stage_number}
use Rattle.tables.specs.Reading.{tables_of, unlabelled}
use Rattle.tables.proofs.tables.Tables.told.Goals as goal

pub returns : goal.returns
returns c =
    let s = c.args.self.now in
    let t = tables_of s in
    let back : c.unwrap-back.result ≡ partner c.args.line = search rules in
    record {
      tables = c.set_stage.ensures.put (unlabelled s)
          ∙ ap (λ e. with_labels t.status (put2 t.stage e c.args.label (stage_number c.args.stage)) t) back;
      stays = record { policy = refl; wiring = c.set_stage.ensures.kept; lines = refl };
    }
