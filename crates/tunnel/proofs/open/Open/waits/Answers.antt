use Rattle.std.proofs.Common.{None, ◌<◌, ltb, length, sym, ap, ◌∙◌, rules, arith}
use borrow.Author.Tests.{tests}
use Rattle.std.proofs.lemmas.Iterator.{YieldsList-from_range, YieldsList-from_map, serves_from_Range}
use Rattle.std.proofs.lemmas.Iterator.Consumers.{sum_from_yields_List, fits_from_yields_list}
use Rattle.tunnel.specs.Tunnels.{hop_frames, way_of}
use Rattle.tunnel.specs.Paths.{marked}
use Rattle.tunnel.proofs.Counts.{sum_first}
use Rattle.tunnel.proofs.Rooms.{gather_length}
use Rattle.tunnel.proofs.Reading.{OwnLine, hop_waits, free_list, front_small, way_list, is_told, told_is}
use Rattle.tunnel.proofs.open.Open.waits.Goals as goal

pub unwrap-all-requires : goal.unwrap-all-requires
unwrap-all-requires g c =
    let t = c.args.self.now in
    let p = t.path.now in
    let v = g.P.Plant.value t.below.now in
    let lt : c.args.line < v.shape.lines = omega (arith, t.ok.path.below) in
    is_told v.shape c.args.line (length (v.waiting c.args.line)) c.waits.result lt c.waits.ensures

pub overflow_sub-result : goal.overflow_sub-result
overflow_sub-result g c =
    let t = c.args.self.now in
    let p = t.path.now in
    let v = g.P.Plant.value t.below.now in
    let lt : c.args.line < v.shape.lines = omega (arith, t.ok.path.below) in
    let a = hop_waits p v t.ok.path.links c.args.line c.in-Some.hop lt c.in-Some.ensures in
    let b = told_is v.shape c.args.line (length (v.waiting c.args.line)) c.waits.result lt c.waits.ensures c.unwrap-all.result c.unwrap-all.ensures in
    omega (arith, a, b, c.carried.ensures)

pub returns-in-Some : goal.returns-in-Some
returns-in-Some g c =
    let t = c.args.self.now in
    let p = t.path.now in
    let v = g.P.Plant.value t.below.now in
    let lt : c.args.line < v.shape.lines = omega (arith, t.ok.path.below) in
    let a = hop_waits p v t.ok.path.links c.args.line c.in-Some.hop lt c.in-Some.ensures in
    let b = told_is v.shape c.args.line (length (v.waiting c.args.line)) c.waits.result lt c.waits.ensures c.unwrap-all.result c.unwrap-all.ensures in
    omega (arith, a, b, c.carried.ensures)

pub returns-in-None : goal.returns-in-None
returns-in-None g c =
    let t = c.args.self.now in
    let p = t.path.now in
    let v = g.P.Plant.value t.below.now in
    let lt : c.args.line < v.shape.lines = omega (arith, t.ok.path.below) in
    told_is v.shape c.args.line (length (v.waiting c.args.line)) c.waits.result lt c.waits.ensures c.unwrap-all.result c.unwrap-all.ensures
    ∙ ap length (sym (free_list p v c.args.line lt (marked p t.ok.path.links c.args.line None c.in-None.ensures).1))

pub sum-requires-clause-fits : goal.sum-requires-clause-fits
sum-requires-clause-fits g c =
    let t = c.args.self.now in
    let p = t.path.now in
    let v = g.P.Plant.value t.below.now in
    let at : OwnLine p v c.args.line = record { law = g.met.P.Plant.lawful t.below.now; ok = t.ok; own_line = c.if-line-self.false; exists = c.requires } in
    let f = hop_frames v.waiting (way_of (ltb p.below c.args.line) p) in
    let all = sum_first (λ i. length (f i)) p.len in
    let some = gather_length f p.len in
    let small = front_small at p.len (omega arith) in
    fits_from_yields_list c.map.result _
    (YieldsList-from_map _ (λ i. length (f i)) (YieldsList-from_range 0 p.len p.len (cc) (omega arith)) c.map.ensures.closure (λ x r q k. search (rules, tests)))
    (omega (arith, all, some, small))

pub returns : goal.returns
returns g c =
    let t = c.args.self.now in
    let p = t.path.now in
    let v = g.P.Plant.value t.below.now in
    let at : OwnLine p v c.args.line = record { law = g.met.P.Plant.lawful t.below.now; ok = t.ok; own_line = c.if-line-self.false; exists = c.requires } in
    let f = hop_frames v.waiting (way_of (ltb p.below c.args.line) p) in
    sum_from_yields_List c.map.result c.sum.result c.sum.ensures.ran
    (YieldsList-from_map _ (λ i. length (f i)) (YieldsList-from_range 0 p.len p.len (cc) (omega arith)) c.map.ensures.closure (λ x r q k. search (rules, tests)))
    ∙ sum_first (λ i. length (f i)) p.len ∙ sym (gather_length f p.len) ∙ ap length (way_list at)

pub sum-requires-clause-can : goal.sum-requires-clause-can
sum-requires-clause-can g c = (tt, serves_from_Range (λ x q k. search (rules, tests)) (λ x low high. search rules))
