use Rattle.tables.proofs.Changes.{then_became}
use Rattle.tables.proofs.tables.Tables.own.Goals as goal

pub returns : goal.returns
returns c = then_became c.mark.ensures c.refresh.ensures
