use Rattle.tables.proofs.Changes.{turned_then, then_became}
use Rattle.tables.proofs.tables.Tables.unlearn.Goals as goal

pub returns : goal.returns
returns c = then_became (turned_then c.note.ensures c.owe.ensures) c.refresh.ensures
