use Rattle.std.proofs.Common.{sym, ap, ◌∙◌, rules, arith}
use borrow.Author.Tests.{tests}
use Rattle.std.proofs.lemmas.Iterator.{YieldsList-from_range, YieldsList-from_map}
use Rattle.std.proofs.lemmas.Iterator.Consumers.{sum_from_yields_List, fits_from_yields_list}
use Rattle.plant.specs.Plants.{sum_to}
use Rattle.tunnel.specs.Tunnels.{hop_span, way_of}
use Rattle.tunnel.proofs.Counts.{sum_first, sum_most}
use Rattle.tunnel.proofs.Reading.{way_len, hop_span_most}
use Rattle.tunnel.proofs.laid.Laid.travelled.Goals as goal

pub sum-requires-clause-fits : goal.sum-requires-clause-fits
sum-requires-clause-fits g c =
    let t = c.args.self.now in
    let p = t.path.now in
    let v = g.P.Plant.value t.below.now in
    let h = hop_span v.shape (way_of c.args.back p) in
    let all = sum_first h p.len in
    let most = sum_most h 2097152 p.len (hop_span_most p v (g.met.P.Plant.lawful t.below.now) t.exist c.args.back) in
    let few = t.few in
    fits_from_yields_list c.map.result _
    (YieldsList-from_map _ h (YieldsList-from_range 0 p.len p.len (cc) (omega arith)) c.map.ensures.closure (λ x r q k. search (rules, tests)))
    (omega (arith, all, most, few))

pub returns : goal.returns
returns g c =
    let t = c.args.self.now in
    let p = t.path.now in
    let v = g.P.Plant.value t.below.now in
    let h = hop_span v.shape (way_of c.args.back p) in
    sum_from_yields_List c.map.result c.sum.result c.sum.ensures.ran
    (YieldsList-from_map _ h (YieldsList-from_range 0 p.len p.len (cc) (omega arith)) c.map.ensures.closure (λ x r q k. search (rules, tests)))
    ∙ sum_first h p.len ∙ ap (λ n. sum_to n h) (sym (way_len c.args.back p))
