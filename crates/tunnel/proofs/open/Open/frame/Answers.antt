use Rattle.std.proofs.Common.{None, ◌≡◌, ◌+◌, ◌-◌, ◌<◌, ◌≤◌, ltb, length, get_or, sym, ap, ◌∙◌, subst, arith}
use lib.ListN.{length-map}
use Rattle.std.proofs.lemmas.List.{get_or-map}
use Rattle.frame.specs.Frames.{frame_value}
use Rattle.plant.specs.Questions.{no_frame}
use Rattle.tunnel.specs.Tunnels.{keep, top_is, popped, gather, hop_frames, way_of}
use Rattle.tunnel.specs.Paths.{marked}
use Rattle.tunnel.proofs.Reading.{OwnLine, hop_plain, free_list, way_list, hop_hit, hop_skip, waits_there, waits_is}
use Rattle.tunnel.proofs.open.Open.frame.Goals as goal

pub nth-requires : goal.nth-requires
nth-requires g c =
    let t = c.args.self.now in
    let p = t.path.now in
    let v = g.P.Plant.value t.below.now in
    let lt : c.args.line < v.shape.lines = omega (arith, t.ok.path.below) in
    record { hop = c.in-Some.ensures.0; at = subst (λ xs. c.args.place < length xs) (hop_plain p v t.ok.path.links c.args.line c.in-Some.hop lt c.in-Some.ensures) c.requires.place }

pub returns-in-Some : goal.returns-in-Some
returns-in-Some g c =
    let t = c.args.self.now in
    let p = t.path.now in
    let v = g.P.Plant.value t.below.now in
    let lt : c.args.line < v.shape.lines = omega (arith, t.ok.path.below) in
    c.nth.ensures ∙ ap (λ xs. get_or xs c.args.place no_frame) (sym (hop_plain p v t.ok.path.links c.args.line c.in-Some.hop lt c.in-Some.ensures))

pub unwrap-requires : goal.unwrap-requires
unwrap-requires g c =
    let t = c.args.self.now in
    let p = t.path.now in
    let v = g.P.Plant.value t.below.now in
    let lt : c.args.line < v.shape.lines = omega (arith, t.ok.path.below) in
    let e = free_list p v c.args.line lt (marked p t.ok.path.links c.args.line None c.in-None.ensures).1 in
    waits_there v c.args.line c.args.place c.waiting.result c.waiting.ensures lt (subst (λ xs. c.args.place < length xs) e c.requires.place)

pub returns-in-None : goal.returns-in-None
returns-in-None g c =
    let t = c.args.self.now in
    let p = t.path.now in
    let v = g.P.Plant.value t.below.now in
    let lt : c.args.line < v.shape.lines = omega (arith, t.ok.path.below) in
    let e = free_list p v c.args.line lt (marked p t.ok.path.links c.args.line None c.in-None.ensures).1 in
    waits_is v c.args.line c.args.place c.waiting.result c.waiting.ensures c.unwrap.result c.unwrap.ensures ∙ ap (λ xs. get_or xs c.args.place no_frame) (sym e)

pub loop-k-init : goal.loop-k-init
loop-k-init g c =
    let t = c.args.self.now in
    let p = t.path.now in
    let v = g.P.Plant.value t.below.now in
    let at : OwnLine p v c.args.line = record { law = g.met.P.Plant.lawful t.below.now; ok = t.ok; own_line = c.if-line-self.false; exists = c.requires.line } in
    let f = hop_frames v.waiting (way_of (ltb p.below c.args.line) p) in
    let z : p.len ≡ p.len - 0 = omega arith in
    let e = way_list at in
    (ap (λ n. get_or (gather f n) c.args.place no_frame) z, subst (λ n. c.args.place < length (gather f n)) z (subst (λ xs. c.args.place < length xs) (sym e) c.requires.place))

pub nth-frame-requires : goal.nth-frame-requires
nth-frame-requires g c =
    let t = c.args.self.now in
    let p = t.path.now in
    let v = g.P.Plant.value t.below.now in
    let x = way_of (ltb p.below c.args.line) p in
    let i = p.len - 1 - c.loop-k.k in
    let long = length-map (keep (top_is (x.label i)) (v.waiting (x.at i))) popped in
    let count = c.carried-here.ensures in
    record { hop = omega arith; at = omega (arith, long, count, c.if-left-here.true) }

pub returns-then-left-here : goal.returns-then-left-here
returns-then-left-here g c =
    let t = c.args.self.now in
    let p = t.path.now in
    let v = g.P.Plant.value t.below.now in
    let at : OwnLine p v c.args.line = record { law = g.met.P.Plant.lawful t.below.now; ok = t.ok; own_line = c.if-line-self.false; exists = c.requires.line } in
    let x = way_of (ltb p.below c.args.line) p in
    let f = hop_frames v.waiting x in
    let k = c.loop-k.k in
    let left = c.loop-k.left in
    let i = p.len - 1 - k in
    let ys = keep (top_is (x.label i)) (v.waiting (x.at i)) in
    let got = c.nth-frame.result in
    let count : c.carried-here.result ≡ length (f i) = c.carried-here.ensures in
    let long = length-map ys popped in
    let inside : left < length ys = omega (arith, count, long, c.if-left-here.true) in
    let inside' : left < length (f i) = omega (arith, inside, long) in
    let value : frame_value got ≡ get_or ys left no_frame = c.nth-frame.ensures in
    ap (λ es. record { kind = got.kind; stack = es; a = got.a; b = got.b }) c.pop.ensures.rest
    ∙ ap popped value ∙ sym (get_or-map popped ys left no_frame no_frame inside)
    ∙ sym (hop_hit f p.len k left c.loop-k-test.true inside') ∙ sym c.loop-k.invariant.0 ∙ ap (λ xs. get_or xs c.args.place no_frame) (way_list at)

pub loop-k-preserved : goal.loop-k-preserved
loop-k-preserved g c =
    let t = c.args.self.now in
    let p = t.path.now in
    let v = g.P.Plant.value t.below.now in
    let f = hop_frames v.waiting (way_of (ltb p.below c.args.line) p) in
    let k = c.loop-k.k in
    let count : c.carried-here.result ≡ length (f (p.len - 1 - k)) = c.carried-here.ensures in
    let s = hop_skip f p.len k c.loop-k.left c.loop-k-test.true (subst (λ n. n ≤ c.loop-k.left) count c.if-left-here.false) c.loop-k.invariant.1 in
    (c.loop-k.invariant.0 ∙ s.0 ∙ ap (λ n. get_or (gather f (p.len - (k + 1))) (c.loop-k.left - n) no_frame) (sym count), subst (λ n. c.loop-k.left - n < length (gather f (p.len - (k + 1)))) (sym count) s.1)

pub unreachable-requires : goal.unreachable-requires
unreachable-requires g c =
    let t = c.args.self.now in
    let p = t.path.now in
    let v = g.P.Plant.value t.below.now in
    let f = hop_frames v.waiting (way_of (ltb p.below c.args.line) p) in
    let z : p.len - c.loop-k.k ≡ 0 = omega arith in
    let a : c.loop-k.left < length (gather f 0) = subst (λ n. c.loop-k.left < length (gather f n)) z c.loop-k.invariant.1 in
    omega (arith, a)
