use Rattle.std.proofs.Common.{length, sym, ap, ap₂, ◌∙◌, rules, arith}
use borrow.Author.Tests.{tests}
use lib.ListN.{length-map}
use Rattle.std.proofs.lemmas.Iterator.{YieldsList-from_range}
use Rattle.std.proofs.lemmas.Iterator.Consumers.{count_from_yields_List, YieldsList-from_filter}
use Rattle.std.specs.List.{range_with_len}
use Rattle.plant.specs.Questions.{no_frame}
use Rattle.tunnel.specs.Inner.{told_at}
use Rattle.tunnel.specs.Tunnels.{keep, top_is, popped, way_of}
use Rattle.tunnel.proofs.Counts.{places_count, filter_like}
use Rattle.tunnel.proofs.Reading.{is_told, told_is, told_here}
use Rattle.tunnel.proofs.open.Open.carried.Goals as goal

pub unwrap-all-requires : goal.unwrap-all-requires
unwrap-all-requires g c =
    let v = g.P.Plant.value c.args.self.now.below.now in
    is_told v.shape c.at-line.result (length (v.waiting c.at-line.result)) c.waits.result c.at-line.ensures.exists c.waits.ensures

pub returns : goal.returns
returns g c =
    let t = c.args.self.now in
    let p = t.path.now in
    let v = g.P.Plant.value t.below.now in
    let x = way_of c.args.hop.back p in
    let l = c.at-line.result in
    let xs = v.waiting l in
    let end = told_is v.shape l (length xs) c.waits.result c.at-line.ensures.exists c.waits.ensures c.unwrap-all.result c.unwrap-all.ensures in
    count_from_yields_List c.filter.result c.count.result c.count.ensures.ran
    (YieldsList-from_filter _ (λ i. top_is c.label-label.result (told_at v l i)) (YieldsList-from_range 0 c.unwrap-all.result (length xs) (cc) (omega (arith, end))) c.filter.ensures.closure (λ y r q k. search (rules, tests)))
    ∙ ap length (filter_like _ _ (λ i. ap (top_is c.label-label.result) (told_here v l i c.at-line.ensures.exists)) (range_with_len 0 (length xs)))
    ∙ places_count (top_is c.label-label.result) xs no_frame
    ∙ ap₂ (λ n k. length (keep (top_is k) (v.waiting n))) c.at-line.ensures.is c.label-label.ensures
    ∙ sym (length-map (keep (top_is (x.label c.args.hop.index)) (v.waiting (x.at c.args.hop.index))) popped)
