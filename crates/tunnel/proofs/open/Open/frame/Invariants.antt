use Rattle.std.proofs.Common.{◌≡◌, ◌-◌, ◌<◌, length, get_or}
use Rattle.plant.specs.Questions.{no_frame}
use Rattle.tunnel.specs.Tunnels.{gather, hop_frames, way_of}
use Rattle.tunnel.proofs.open.Open.frame.Given as goal

abbrev pub invariant-loop-k : goal.invariant-loop-k
invariant-loop-k g l =
    let f = hop_frames (g.P.Plant.value l.self.below.now).waiting (way_of l.back l.self.path.now) in
    let n = l.self.path.now.len in
    (get_or (gather f n) l.place no_frame ≡ get_or (gather f (n - l.k)) l.left no_frame) × (l.left < length (gather f (n - l.k)))
