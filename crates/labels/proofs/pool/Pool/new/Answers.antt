use Rattle.std.proofs.Common.{ap}
use Rattle.labels.proofs.pool.Pool.new.Goals as goal

pub returns : goal.returns
returns c router label = ap (λ g. g router label) c.filled.ensures
