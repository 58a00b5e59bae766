use Rattle.std.proofs.Common.{refl}
use Rattle.frame.specs.Frames.{frame_value}
use Rattle.tunnel.proofs.Voids.{send_owes}
use Rattle.tunnel.proofs.tunnel.TunnelPlant.send.Goals as goal

pub returns-in-Ok : goal.returns-in-Ok
returns-in-Ok g c =
    let t = c.args.self.now in
    let u = c.send_open.new.below in
    let h = c.send_open.ensures in
    let a = send_owes (g.P.Plant.value t.below) (g.P.Plant.value u) (g.P.Plant.future t.below) (g.P.Plant.future u) c.args.line (frame_value c.args.frame) c.send_open.result
    t.route c.in-Ok.path c.in-Ok.is h.opened h.sends h.future h.entered in
    record { sends = a.sends; future = a.future; entered = a.entered; route = refl }
