use Rattle.std.proofs.Common.{◌≡◌, ◌*◌, min, take, sum_by, vec_len}
use Rattle.ring.proofs.room.room_for.Given as goal

abbrev pub invariant-loop-link : goal.invariant-loop-link
invariant-loop-link l = vec_len l.places ≡ sum_by (λ k. 2 * min k.cap 32) (take l.link-index l.links)
