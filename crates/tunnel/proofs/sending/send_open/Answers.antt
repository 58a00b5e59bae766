use Rattle.std.proofs.Common.{◌≡◌, ℕ, ◌+◌, ◌<◌, not, ltb, sym, ap, ◌∙◌, subst, arith}
use Rattle.std.specs.Option.{option_map}
use Rattle.std.proofs.lemmas.Bool.{cond-true, cond-false, lt-ltb, le-ltb}
use Rattle.frame.specs.Frames.{FrameValue, frame_value}
use Rattle.plant.specs.Answers.{Sends}
use Rattle.plant.specs.Futures.{after_send}
use Rattle.plant.proofs.Laws.{welcome}
use Rattle.tunnel.specs.Tunnels.{way_of, tunnel_value}
use Rattle.tunnel.specs.Onward.{labelled, entering, Entered}
use Rattle.tunnel.proofs.Reading.{the_side}
use Rattle.tunnel.proofs.Entering.{send_plain, send_own, entered_as}
use Rattle.tunnel.proofs.sending.send_open.Goals as goal

pub returns-then-line-path : goal.returns-then-line-path
returns-then-line-path g c =
    let p = c.args.path.now in
    let v = g.P.Plant.value c.args.below.now in
    let w = g.P.Plant.value c.send.new.self in
    let lv = g.met.P.Plant.lawful c.args.below.now in
    let lw = g.met.P.Plant.lawful c.send.new.self in
    let f = frame_value c.args.frame in
    let lt : c.args.line < v.shape.lines = omega (arith, c.requires.opened.path.below, c.if-line-path.true) in
    let fine = welcome (tunnel_value p v) c.args.line f (sym c.in_ok-admit.ensures) in
    let r = send_plain p v w lv lw c.requires.opened c.args.line f fine c.send.result lt c.send.ensures.sends in
    let at : entering p c.args.line f ≡ (c.args.line, f) = cond-true (ltb c.args.line p.below) _ _ (lt-ltb c.args.line p.below c.if-line-path.true) in
    record {
      opened = r.0;
      sends = r.1;
      entered = subst (λ x. Entered x v c.send.result w) (sym at) (entered_as (c.args.line, f) v c.send.result w c.send.ensures.sends);
      future = c.send.ensures.future ∙ ap (λ (x : ℕ × FrameValue). option_map (after_send x.0 x.1 c.send.result) (g.P.Plant.future c.args.below.now)) (sym at);
    }

pub enter-requires : goal.enter-requires
enter-requires g c =
    let p = c.args.path.now in
    let v = g.P.Plant.value c.args.below.now in
    let lv = g.met.P.Plant.lawful c.args.below.now in
    let ok = c.requires.opened.path in
    let fine = welcome (tunnel_value p v) c.args.line (frame_value c.args.frame) (sym c.in_ok-admit.ensures) in
    let deep = fine.deep in
    let most = lv.shape.depth_most in
    record { small = ok.links.small; hop = omega (arith, ok.len_least); high = omega (arith, ok.kept); room = omega (arith, deep, most, ok.deep) }

pub returns : goal.returns
returns g c =
    let p = c.args.path.now in
    let v = g.P.Plant.value c.args.below.now in
    let w = g.P.Plant.value c.send-2.new.self in
    let lv = g.met.P.Plant.lawful c.args.below.now in
    let lw = g.met.P.Plant.lawful c.send-2.new.self in
    let line = c.args.line in
    let f = frame_value c.args.frame in
    let o = g.P.Plant.future c.args.below.now in
    let fine = welcome (tunnel_value p v) line f (sym c.in_ok-admit.ensures) in
    let there : line < p.below + 2 = let a = fine.line in omega (arith, a, c.requires.opened.path.below) in
    let x = way_of (ltb p.below line) p in
    let y = way_of (not (ltb p.below line)) p in
    let side = the_side (record { law = lv; ok = c.requires.opened; own_line = c.if-line-path.false; exists = there }) in
    let s : Sends v (x.at 0) (labelled (x.label 0) f) c.send-2.result w =
    subst (λ l. Sends v l (labelled (x.label 0) f) c.send-2.result w) c.at.ensures
    (subst (λ z. Sends v c.at.result z c.send-2.result w) c.enter.ensures c.send-2.ensures.sends) in
    let r = send_own p v w lv lw c.requires.opened line f fine c.send-2.result x y side s in
    let at : entering p line f ≡ (x.at 0, labelled (x.label 0) f) = cond-false (ltb line p.below) _ _ (le-ltb line p.below c.if-line-path.false) in
    record {
      opened = r.0;
      sends = r.1;
      entered = subst (λ z. Entered z v c.send-2.result w) (sym at) (entered_as (x.at 0, labelled (x.label 0) f) v c.send-2.result w s);
      future = c.send-2.ensures.future
          ∙ ap (λ l. option_map (after_send l (frame_value c.enter.result) c.send-2.result) o) c.at.ensures
          ∙ ap (λ z. option_map (after_send (x.at 0) z c.send-2.result) o) c.enter.ensures
          ∙ ap (λ (z : ℕ × FrameValue). option_map (after_send z.0 z.1 c.send-2.result) o) (sym at);
    }
