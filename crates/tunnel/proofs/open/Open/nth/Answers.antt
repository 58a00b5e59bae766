use Rattle.std.proofs.Common.{◌≡◌, ◌<◌, ℕ, Bool, List, length, get_or, sym, ap, ap₂, ◌∙◌, subst, rules, arith}
use borrow.Author.Tests.{tests}
use mathlib.Core.Bool.{beq}
use Rattle.std.proofs.lemmas.Iterator.{YieldsList-from_range, YieldsList-from_map_by}
use Rattle.std.proofs.lemmas.Iterator.Consumers.{nth_from_yields_List, YieldsList-from_filter}
use Rattle.std.specs.Iterator.Adapters.{map_callee}
use Rattle.std.specs.List.{slice_get}
use Rattle.std.specs.Option.{option_map}
use Rattle.frame.specs.Frames.{FrameValue, frame_value}
use Rattle.plant.specs.Questions.{no_frame}
use Rattle.tunnel.specs.Tunnels.{keep}
use Rattle.tunnel.specs.Inner.{picks, told_get, tops_told}
use Rattle.tunnel.proofs.Reading.{is_told, told_is, picked_list, at_some, at_value}
use Rattle.tunnel.proofs.open.Open.nth.Goals as goal

-- there are more frames to pick from than come before the one that is asked for
more : (own : Bool) (q : ℕ → List FrameValue) (at k l label n : ℕ) → l ≡ at → k ≡ label → n < length (keep (picks own label) (q at)) → n < length (keep (picks own k) (q l))
more own q at k l label n a b lt = subst (λ m. n < m) (sym (ap₂ (λ i j. length (keep (picks own j) (q i))) a b)) lt

pub unwrap-all-requires : goal.unwrap-all-requires
unwrap-all-requires g c =
    let v = g.P.Plant.value c.args.self.now.below.now in
    is_told v.shape c.at-line.result (length (v.waiting c.at-line.result)) c.waits.result c.at-line.ensures.exists c.waits.ensures

pub unwrap-requires : goal.unwrap-requires
unwrap-requires g c =
    let v = g.P.Plant.value c.args.self.now.below.now in
    let l = c.at-line.result in
    let k = c.label-label.result in
    let lt = more c.args.own v.waiting _ k l _ c.args.at c.at-line.ensures.is c.label-label.ensures c.requires.at in
    let end = told_is v.shape l (length (v.waiting l)) c.waits.result c.at-line.ensures.exists c.waits.ensures c.unwrap-all.result c.unwrap-all.ensures in
    at_some (keep (picks c.args.own k) (v.waiting l)) c.args.at lt c.nth.result
    (nth_from_yields_List c.nth.result c.nth.new.self c.args.at c.nth.ensures.ran
    (YieldsList-from_filter _ (λ o. beq (tops_told k o) c.args.own)
    (YieldsList-from_map_by _ (option_map frame_value) (told_get v l) (YieldsList-from_range 0 c.unwrap-all.result (length (v.waiting l)) (cc) (omega (arith, end))) (ap map_callee c.filter.ensures.source ∙ c.map.ensures.closure) (λ x r q h. search (rules, tests)))
    c.filter.ensures.closure (λ y r q h. search (rules, tests)))
    ∙ ap (λ ys. slice_get ys c.args.at) (picked_list v l k c.args.own c.at-line.ensures.exists))
    c.flatten.result c.flatten.ensures

pub returns : goal.returns
returns g c =
    let v = g.P.Plant.value c.args.self.now.below.now in
    let l = c.at-line.result in
    let k = c.label-label.result in
    let lt = more c.args.own v.waiting _ k l _ c.args.at c.at-line.ensures.is c.label-label.ensures c.requires.at in
    let end = told_is v.shape l (length (v.waiting l)) c.waits.result c.at-line.ensures.exists c.waits.ensures c.unwrap-all.result c.unwrap-all.ensures in
    at_value (keep (picks c.args.own k) (v.waiting l)) c.args.at lt c.nth.result
    (nth_from_yields_List c.nth.result c.nth.new.self c.args.at c.nth.ensures.ran
    (YieldsList-from_filter _ (λ o. beq (tops_told k o) c.args.own)
    (YieldsList-from_map_by _ (option_map frame_value) (told_get v l) (YieldsList-from_range 0 c.unwrap-all.result (length (v.waiting l)) (cc) (omega (arith, end))) (ap map_callee c.filter.ensures.source ∙ c.map.ensures.closure) (λ x r q h. search (rules, tests)))
    c.filter.ensures.closure (λ y r q h. search (rules, tests)))
    ∙ ap (λ ys. slice_get ys c.args.at) (picked_list v l k c.args.own c.at-line.ensures.exists))
    c.flatten.result c.flatten.ensures c.unwrap.result c.unwrap.ensures
    ∙ ap₂ (λ n k. get_or (keep (picks c.args.own k) (v.waiting n)) c.args.at no_frame) c.at-line.ensures.is c.label-label.ensures
