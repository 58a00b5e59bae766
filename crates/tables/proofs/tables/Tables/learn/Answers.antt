use Rattle.tables.proofs.Changes.{then_became}
use Rattle.tables.proofs.tables.Tables.learn.Goals as goal

pub returns : goal.returns
returns c = then_became c.note.ensures c.refresh.ensures
