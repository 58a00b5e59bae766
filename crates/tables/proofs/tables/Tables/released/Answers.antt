use Rattle.std.proofs.Common.{refl}
use Rattle.tables.specs.Reading.{unlabelled}
use Rattle.tables.proofs.tables.Tables.released.Goals as goal

pub returns : goal.returns
returns c =
    let s = c.args.self.now in
    record {
      tables = λ S w. c.release.ensures.released S (unlabelled s) w;
      stays = record { policy = refl; wiring = c.release.ensures.kept; lines = refl };
    }
