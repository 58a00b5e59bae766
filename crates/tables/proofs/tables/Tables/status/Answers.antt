use Rattle.tables.specs.Reading.{unlabelled}
use Rattle.tables.proofs.tables.Tables.status.Goals as goal

pub returns : goal.returns
returns c = c.status.ensures (unlabelled c.args.self.now)
