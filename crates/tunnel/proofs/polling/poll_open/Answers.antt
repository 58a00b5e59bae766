use Rattle.std.proofs.Common.{arith}
use Rattle.tunnel.proofs.Handing.{Below, answer_idle, answer_moved, answer_plain, answer_room, answer_carried}
use Rattle.tunnel.proofs.polling.poll_open.Goals as goal

pub returns-in-Idle : goal.returns-in-Idle
returns-in-Idle g c =
    let h = c.poll-outcome.ensures in
    let s = c.args.below.now in
    let t = c.poll-outcome.new.self in
    let b : Below c.args.path.now (g.P.Plant.value s) (g.P.Plant.value t) (g.P.Plant.future s) (g.P.Plant.future t)
    c.args.port c.args.place.now c.poll-outcome.new.place c.poll-outcome.result.0 c.poll-outcome.result.1 =
    record { lv = g.met.P.Plant.lawful s; lw = g.met.P.Plant.lawful t; ok = c.requires.opened; told = h.polls; turn = h.turn; then = h.future } in
    let a = answer_idle b c.in-Idle.is in
    record { opened = a.opened; polls = a.polls; relayed = a.told.relayed; turn = a.told.turn; future = a.told.future }

pub returns-in-Moved : goal.returns-in-Moved
returns-in-Moved g c =
    let h = c.poll-outcome.ensures in
    let s = c.args.below.now in
    let t = c.poll-outcome.new.self in
    let b : Below c.args.path.now (g.P.Plant.value s) (g.P.Plant.value t) (g.P.Plant.future s) (g.P.Plant.future t)
    c.args.port c.args.place.now c.poll-outcome.new.place c.poll-outcome.result.0 c.poll-outcome.result.1 =
    record { lv = g.met.P.Plant.lawful s; lw = g.met.P.Plant.lawful t; ok = c.requires.opened; told = h.polls; turn = h.turn; then = h.future } in
    let a = answer_moved b c.in-Moved.is in
    record { opened = a.opened; polls = a.polls; relayed = a.told.relayed; turn = a.told.turn; future = a.told.future }

pub returns-in-None : goal.returns-in-None
returns-in-None g c =
    let h = c.poll-outcome.ensures in
    let s = c.args.below.now in
    let t = c.poll-outcome.new.self in
    let b : Below c.args.path.now (g.P.Plant.value s) (g.P.Plant.value t) (g.P.Plant.future s) (g.P.Plant.future t)
    c.args.port c.args.place.now c.poll-outcome.new.place c.poll-outcome.result.0 c.poll-outcome.result.1 =
    record { lv = g.met.P.Plant.lawful s; lw = g.met.P.Plant.lawful t; ok = c.requires.opened; told = h.polls; turn = h.turn; then = h.future } in
    let a = answer_plain b c.in-Handed.is c.in-None.ensures in
    record { opened = a.opened; polls = a.polls; relayed = a.told.relayed; turn = a.told.turn; future = a.told.future }

pub carry_on-requires : goal.carry_on-requires
carry_on-requires g c =
    let h = c.poll-outcome.ensures in
    let s = c.args.below.now in
    let t = c.poll-outcome.new.self in
    let b : Below c.args.path.now (g.P.Plant.value s) (g.P.Plant.value t) (g.P.Plant.future s) (g.P.Plant.future t)
    c.args.port c.args.place.now c.poll-outcome.new.place c.poll-outcome.result.0 c.poll-outcome.result.1 =
    record { lv = g.met.P.Plant.lawful s; lw = g.met.P.Plant.lawful t; ok = c.requires.opened; told = h.polls; turn = h.turn; then = h.future } in
    let ok = c.requires.opened.path in
    record {
      links = ok.links;
      few = omega (arith, ok.below, ok.few);
      hop = c.in-Some.ensures.0;
      high = ok.kept;
      room = answer_room b c.in-Handed.is c.in-Some.hop c.in-Some.ensures;
    }

pub returns-in-Some : goal.returns-in-Some
returns-in-Some g c =
    let h = c.poll-outcome.ensures in
    let s = c.args.below.now in
    let t = c.poll-outcome.new.self in
    let b : Below c.args.path.now (g.P.Plant.value s) (g.P.Plant.value t) (g.P.Plant.future s) (g.P.Plant.future t)
    c.args.port c.args.place.now c.poll-outcome.new.place c.poll-outcome.result.0 c.poll-outcome.result.1 =
    record { lv = g.met.P.Plant.lawful s; lw = g.met.P.Plant.lawful t; ok = c.requires.opened; told = h.polls; turn = h.turn; then = h.future } in
    let u = c.carry_on.new.below in
    let a = answer_carried b c.in-Handed.is c.in-Some.hop c.in-Some.ensures (g.P.Plant.value u) (g.P.Plant.future u) (g.met.P.Plant.lawful u)
    c.carry_on.result.0 c.carry_on.result.1 c.carry_on.new.place c.carry_on.ensures.carried c.carry_on.ensures.future in
    record { opened = a.opened; polls = a.polls; relayed = a.told.relayed; turn = a.told.turn; future = a.told.future }
