use Rattle.std.proofs.Common.{ap, ◌∙◌}
use Rattle.ring.specs.Links.{unless_refused}
use Rattle.ring.proofs.Scans.{room_same}
use Rattle.ring.proofs.ring.Ring.with_room.Goals as goal

pub returns : goal.returns
returns c =
    let links = c.args.links.now in
    let told = room_same links _ c.in_ok-room_for.ensures in
    record { fault = c.new.ensures.fault ∙ told; shape = c.new.ensures.shape ∙ ap (λ o. unless_refused o links) told; still = c.new.ensures.still }
