use Rattle.labels.specs.declared.status.Status.TheVariants.{Free}
use Rattle.labels.proofs.pool.Pool.put.Goals as goal

pub returns : goal.returns
returns c = c.set.ensures Free
