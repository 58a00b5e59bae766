use Rattle.std.proofs.Common.{refl, ◌∙◌}
use Rattle.model.specs.Tables.{Tables, blank}
use Rattle.tables.specs.Grids.{owners_of, hops_of, remotes_of, dues_of}
use Rattle.tables.proofs.tables.Tables.new.Goals as goal

pub returns : goal.returns
returns c =
    let bare : Tables = record {
      owner = owners_of c.new.result;
      hop = hops_of c.new.result;
      remote = remotes_of c.new-2.result;
      status = blank.status;
      stage = blank.stage;
      due = dues_of c.new-3.result;
    } in
    record {
      tables = c.new-4.ensures.empty bare ∙ (λ i. record {
        owner = c.new.ensures.owners i;
        hop = c.new.ensures.hops i;
        remote = c.new-2.ensures i;
        status = blank.status;
        stage = blank.stage;
        due = c.new-3.ensures i;
      });
      wiring = c.new-4.ensures.wired;
      policy = refl;
      lines = c.new.ensures.lines ∙ c.lines.ensures;
    }
