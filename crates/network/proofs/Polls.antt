-- A poll, by what the plant did. Assumes nothing.
use Rattle.std.proofs.Common.{◌≡◌, ℕ, false, refl}
use Rattle.frame.specs.declared.frame.Frame.{Frame}
use Rattle.frame.specs.Frames.{frame_value}
use Rattle.plant.specs.Plants.{PlantValue}
use Rattle.plant.specs.declared.outcome.Outcome.TheVariants.{Idle, Moved, Handed}
use Rattle.plant.specs.Answers.{Polled}
use Rattle.plant.specs.Futures.{idle, moved}
use Rattle.model.specs.declared.met.Met.{Met}
use Rattle.model.specs.declared.met.Met.TheVariants.{Idle as met_idle, Moved as met_moved}
use Rattle.model.specs.Calls.{poll, polled}
use Rattle.model.specs.History.{Did}
use Rattle.model.proofs.Citing.{polled_turns}
use Rattle.network.specs.declared.routers.Routers.{Routers}
use Rattle.network.specs.Networks.{plan_of, state_of}
use Rattle.network.specs.Dealing.{Seen, arrival_of}
use Rattle.network.proofs.Doing.{polled_none, polled_frame}

module _ (n : Routers) (v u : PlantValue) (p : ℕ) (old : Frame) (l : ℕ) (new : Frame) (runs : n.still ≡ false) where
  pub poll_idle : Polled Idle v p old l new u → Did n.still (plan_of n.plan) (state_of n v) (poll p) (polled met_idle 0) (state_of n u)
  poll_idle h = polled_none n v u p runs idle (polled_turns Idle v p old l new u h) met_idle refl

  pub poll_moved : Polled Moved v p old l new u → Did n.still (plan_of n.plan) (state_of n v) (poll p) (polled met_moved 0) (state_of n u)
  poll_moved h = polled_none n v u p runs moved (polled_turns Moved v p old l new u h) met_moved refl

  pub poll_handed : Polled Handed v p old l new u → (m : Met) (n' : Routers) (w : PlantValue) → Seen n u (arrival_of n u l (frame_value new)) (polled m l) n' w
      → Did n.still (plan_of n.plan) (state_of n v) (poll p) (polled m l) (state_of n' w)
  poll_handed h m n' w seen = polled_frame n n' v u w p l (frame_value new) runs (polled_turns Handed v p old l new u h) m seen
