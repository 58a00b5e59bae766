use Rattle.std.proofs.Common.{length, ap, arith}
use Rattle.plant.specs.Plants.{PlantValue}
use Rattle.tunnel.specs.Tunnels.{meaning}
use Rattle.tunnel.proofs.Reading.{line_none, line_some}
use Rattle.tunnel.proofs.tunnel.TunnelPlant.waits.Goals as goal

pub returns-in-Ok : goal.returns-in-Ok
returns-in-Ok g c =
    let t = c.args.self.now in
    let o = c.in-Ok.open in
    line_some t.route o.path.now (g.P.Plant.value o.below.now) (g.P.Plant.value t.below) c.args.line (ap g.P.Plant.value c.in-Ok.ensures.0) c.in-Ok.ensures.1 (omega arith)
    (λ (v : PlantValue). length (v.waiting c.args.line)) c.waits.result c.waits.ensures

pub returns-in-Ok-2 : goal.returns-in-Ok-2
returns-in-Ok-2 g c =
    let t = c.args.self.now in
    let o = c.in-Ok.open in
    let m = meaning t.route (g.P.Plant.value t.below) in
    line_none t.route o.path.now (g.P.Plant.value o.below.now) (g.P.Plant.value t.below) c.args.line (ap g.P.Plant.value c.in-Ok.ensures.0) c.in-Ok.ensures.1 (omega arith) (length (m.waiting c.args.line))
