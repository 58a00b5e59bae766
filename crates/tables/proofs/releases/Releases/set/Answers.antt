use Rattle.std.proofs.Common.{None}
use Rattle.tables.proofs.releases.Releases.set.Goals as goal

pub returns : goal.returns
returns c = c.set.ensures None
