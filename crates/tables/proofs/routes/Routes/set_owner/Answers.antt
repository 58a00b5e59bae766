use Rattle.std.proofs.Common.{false}
use Rattle.tables.proofs.routes.Routes.set_owner.Goals as goal

pub returns-clause-owners : goal.returns-clause-owners
returns-clause-owners c = c.set.ensures false
