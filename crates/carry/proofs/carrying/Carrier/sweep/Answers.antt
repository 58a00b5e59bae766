use Rattle.std.proofs.Common.{arith}
use Rattle.carry.proofs.Passes.{all_passed}
use Rattle.carry.proofs.carrying.Carrier.sweep.Goals as goal

pub returns : goal.returns
returns g c = all_passed _ _ c.loop-port.port c.loop-port.some (g.met.P.Plant.lawful c.args.self.now.plant) (omega (arith, c.ports-port-end.ensures)) c.loop-port.invariant
