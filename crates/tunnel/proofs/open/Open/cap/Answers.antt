use Rattle.std.proofs.Common.{◌<◌, sym, arith}
use Rattle.plant.specs.Plants.{Line}
use Rattle.tunnel.proofs.Reading.{OwnLine, way_line, is_told}
use Rattle.tunnel.proofs.open.Open.cap.Goals as goal

pub returns-then-line-self : goal.returns-then-line-self
returns-then-line-self g c =
    let t = c.args.self.now in
    let p = t.path.now in
    let v = g.P.Plant.value t.below.now in
    let at : OwnLine p v c.args.line = record { law = g.met.P.Plant.lawful t.below.now; ok = t.ok; own_line = c.if-line-self.true; exists = c.requires } in
    sym (way_line at (λ (n : Line). n.cap))

pub unwrap-cap-requires : goal.unwrap-cap-requires
unwrap-cap-requires g c =
    let t = c.args.self.now in
    let p = t.path.now in
    let v = g.P.Plant.value t.below.now in
    let lt : c.args.line < v.shape.lines = omega (arith, t.ok.path.below) in
    is_told v.shape c.args.line (v.shape.line c.args.line).cap c.cap.result lt c.cap.ensures
