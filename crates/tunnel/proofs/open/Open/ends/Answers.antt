use Rattle.std.proofs.Common.{ℕ, ◌<◌, sym, ap, ◌∙◌, arith}
use Rattle.plant.specs.Plants.{Line}
use Rattle.tunnel.proofs.Reading.{OwnLine, way_line, is_told, told_is}
use Rattle.tunnel.proofs.open.Open.ends.Goals as goal

pub unwrap-requires : goal.unwrap-requires
unwrap-requires g c =
    let t = c.args.self.now in
    let p = t.path.now in
    let v = g.P.Plant.value t.below.now in
    let lt : c.args.line < v.shape.lines = omega (arith, t.ok.path.below) in
    is_told v.shape c.args.line ((v.shape.line c.args.line).from, (v.shape.line c.args.line).to) c.ends.result lt c.ends.ensures

pub unwrap-requires-2 : goal.unwrap-requires-2
unwrap-requires-2 g c =
    let t = c.args.self.now in
    let p = t.path.now in
    let v = g.P.Plant.value t.below.now in
    let l = c.at-first.result in
    is_told v.shape l ((v.shape.line l).from, (v.shape.line l).to) c.ends-2.result c.at-first.ensures.exists c.ends-2.ensures

pub unwrap-requires-3 : goal.unwrap-requires-3
unwrap-requires-3 g c =
    let t = c.args.self.now in
    let p = t.path.now in
    let v = g.P.Plant.value t.below.now in
    let l = c.at-last.result in
    is_told v.shape l ((v.shape.line l).from, (v.shape.line l).to) c.ends-3.result c.at-last.ensures.exists c.ends-3.ensures

pub returns : goal.returns
returns g c =
    let t = c.args.self.now in
    let p = t.path.now in
    let v = g.P.Plant.value t.below.now in
    let at : OwnLine p v c.args.line = record { law = g.met.P.Plant.lawful t.below.now; ok = t.ok; own_line = c.if-line-self.false; exists = c.requires } in
    let a = c.at-first.result in
    let b = c.at-last.result in
    record {
      from = ap (λ (e : ℕ × ℕ). e.0) (told_is v.shape a ((v.shape.line a).from, (v.shape.line a).to) c.ends-2.result c.at-first.ensures.exists c.ends-2.ensures c.unwrap-2.result c.unwrap-2.ensures)
          ∙ ap (λ l. (v.shape.line l).from) c.at-first.ensures.is ∙ sym (way_line at (λ (n : Line). n.from));
      to = ap (λ (e : ℕ × ℕ). e.1) (told_is v.shape b ((v.shape.line b).from, (v.shape.line b).to) c.ends-3.result c.at-last.ensures.exists c.ends-3.ensures c.unwrap-3.result c.unwrap-3.ensures)
          ∙ ap (λ l. (v.shape.line l).to) c.at-last.ensures.is ∙ sym (way_line at (λ (n : Line). n.to));
    }
