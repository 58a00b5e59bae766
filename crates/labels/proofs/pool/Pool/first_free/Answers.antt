use Rattle.std.proofs.Common.{rules}
use Rattle.labels.specs.Pools.{is_open}
use Rattle.labels.proofs.pool.Pool.first_free.Goals as goal

pub returns : goal.returns
returns c = c.first.ensures is_open (λ x b r. search rules)
