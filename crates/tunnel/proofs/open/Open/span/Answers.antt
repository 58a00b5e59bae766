use Rattle.std.proofs.Common.{◌<◌, ltb, sym, ap, ◌∙◌, ap₂, arith}
use Rattle.plant.specs.Plants.{Line}
use Rattle.tunnel.specs.Tunnels.{spans, way_of}
use Rattle.tunnel.proofs.Answers.{line_low}
use Rattle.tunnel.proofs.Reading.{OwnLine, way_line, is_told, told_is}
use Rattle.tunnel.proofs.open.Open.span.Goals as goal

pub unwrap-requires : goal.unwrap-requires
unwrap-requires g c =
    let t = c.args.self.now in
    let p = t.path.now in
    let v = g.P.Plant.value t.below.now in
    let lt : c.args.line < v.shape.lines = omega (arith, t.ok.path.below) in
    is_told v.shape c.args.line (v.shape.line c.args.line).span c.span.result lt c.span.ensures

pub returns-then-line-self : goal.returns-then-line-self
returns-then-line-self g c =
    let t = c.args.self.now in
    let p = t.path.now in
    let v = g.P.Plant.value t.below.now in
    let lt : c.args.line < v.shape.lines = omega (arith, t.ok.path.below) in
    told_is v.shape c.args.line (v.shape.line c.args.line).span c.span.result lt c.span.ensures c.unwrap.result c.unwrap.ensures
    ∙ sym (ap (λ (n : Line). n.span) (line_low p v.shape c.args.line lt))

pub returns : goal.returns
returns g c =
    let t = c.args.self.now in
    let p = t.path.now in
    let v = g.P.Plant.value t.below.now in
    let at : OwnLine p v c.args.line = record { law = g.met.P.Plant.lawful t.below.now; ok = t.ok; own_line = c.if-line-self.false; exists = c.requires } in
    c.travelled.ensures ∙ ap₂ (λ b q. spans (g.P.Plant.value b).shape (way_of (ltb p.below c.args.line) q)) c.laid.ensures.below c.laid.ensures.path
    ∙ sym (way_line at (λ (n : Line). n.span))
