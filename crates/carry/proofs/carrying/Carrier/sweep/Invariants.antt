use Rattle.carry.specs.Sweeps.{Passing}
use Rattle.carry.proofs.carrying.Carrier.sweep.Given as goal

abbrev pub invariant-loop-port : goal.invariant-loop-port
invariant-loop-port g l = Passing (g.P.Plant.value l.initial.self.plant) l.port l.some (g.P.Plant.value l.self.plant)
