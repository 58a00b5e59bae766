use Rattle.std.proofs.Common.{refl}
use Rattle.tunnel.proofs.Voids.{poll_owes, void_poll_owes}
use Rattle.tunnel.proofs.tunnel.TunnelPlant.poll.Goals as goal

pub returns-in-Ok : goal.returns-in-Ok
returns-in-Ok g c =
    let t = c.args.self.now in
    let u = c.poll_open.new.below in
    let h = c.poll_open.ensures in
    let a = poll_owes (g.P.Plant.value t.below) (g.P.Plant.value u) (g.P.Plant.future t.below) (g.P.Plant.future u)
    c.args.port c.args.place.now c.poll_open.result.0 c.poll_open.result.1 c.poll_open.new.place
    t.route c.in-Ok.path c.in-Ok.is h.opened h.polls h.turn h.future h.relayed in
    record { polls = a.polls; turn = a.turn; future = a.future; relayed = a.relayed; route = refl }

pub returns-in-Err : goal.returns-in-Err
returns-in-Err g c =
    let t = c.args.self.now in
    let h = c.poll.ensures in
    let a = void_poll_owes (g.P.Plant.value t.below) (g.P.Plant.value c.poll.new.self) (g.P.Plant.future t.below) (g.P.Plant.future c.poll.new.self)
    c.args.port c.args.place.now c.poll.result.0 c.poll.result.1 c.poll.new.place t.route c.in-Err.field-0 c.in-Err.is h.polls h.turn h.future in
    record { polls = a.polls; turn = a.turn; future = a.future; relayed = a.relayed; route = refl }
