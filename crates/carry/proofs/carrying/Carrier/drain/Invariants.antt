use Rattle.carry.proofs.carrying.Carrier.drain.Given as goal

abbrev pub decreases-loop : goal.decreases-loop
decreases-loop g l = (g.P.Plant.value l.self.plant).hops
