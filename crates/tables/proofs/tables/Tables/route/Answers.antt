use Rattle.tables.proofs.Changes.{then_became}
use Rattle.tables.proofs.tables.Tables.route.Goals as goal

pub returns : goal.returns
returns c = then_became c.point.ensures c.refresh.ensures
