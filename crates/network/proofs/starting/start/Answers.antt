use Rattle.model.proofs.Runs.{network_safe}
use Rattle.network.specs.Networks.{plan_of}
use Rattle.network.proofs.starting.start.Goals as goal

pub returns-in_err-book-clause-promise : goal.returns-in_err-book-clause-promise
returns-in_err-book-clause-promise g c = network_safe _ (plan_of c.args.plan) (g.P.Plant.value c.args.plant) (g.met.P.Plant.lawful c.args.plant)

pub returns-clause-promise : goal.returns-clause-promise
returns-clause-promise g c = network_safe _ (plan_of c.args.plan) (g.P.Plant.value c.args.plant) (g.met.P.Plant.lawful c.args.plant)
