use Rattle.model.proofs.network_is_safe.Goals as goal
use Rattle.model.proofs.Runs.{network_safe}

pub returns : goal.returns
returns g c = network_safe _
