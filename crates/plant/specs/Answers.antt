-- What send and poll answer, and what they leave. Assumes nothing.
use Rattle.std.specs.Prelude.{◌≡◌, ℕ, ◌+◌, ◌<◌, cond, ◌≢◌, [], ◌∷◌, ◌++◌, length, Some, None, Ok, Err, Option, Result, nat_le, nat_lt}
use Rattle.frame.specs.declared.frame.Frame.{Frame}
use Rattle.frame.specs.declared.refusal.Refusal.{Refusal}
use Rattle.frame.specs.Numbers.{refusal_number}
use Rattle.frame.specs.Frames.{FrameValue, frame_value}
use Rattle.plant.specs.declared.outcome.Outcome.{Outcome}
use Rattle.plant.specs.declared.outcome.Outcome.TheVariants.{Idle, Moved, Handed}
use Rattle.plant.specs.Plants.{PlantValue, over_kept}

-- the number with which a frame is refused on a line: no such line, then a full line, a label kept or more, too many entries
abbrev pub send_refusal : PlantValue → ℕ → FrameValue → Option ℕ
send_refusal v l f =
    cond (nat_le v.shape.lines l) (Some 6)
    (cond (nat_le (v.shape.line l).cap (length (v.waiting l))) (Some 23)
    (cond (over_kept v.shape.kept f.stack) (Some 25)
    (cond (nat_lt v.shape.depth (length f.stack)) (Some 26) None)))

-- the frame has joined the end of the line's list, and hops left rose by the span; which port counts it is free
pub record Joins (v : PlantValue) (l : ℕ) (f : FrameValue) (w : PlantValue) : Type 0 where
  pub shape : w.shape ≡ v.shape
  pub here : w.waiting l ≡ v.waiting l ++ (f ∷ [])
  pub others : (k : ℕ) → k ≢ l → w.waiting k ≡ v.waiting k
  pub hops : w.hops ≡ v.hops + (v.shape.line l).span

-- a send on line l answers r and leaves w
abbrev pub Sends : PlantValue → ℕ → FrameValue → Result (Unit {0}) Refusal → PlantValue → Type 0
Sends v l f (Ok u) w = (send_refusal v l f ≡ None) × Joins v l f w
Sends v l f (Err e) w = (send_refusal v l f ≡ Some (refusal_number e)) × (w ≡ v)

-- the port exists and counts a frame
abbrev pub Busy : PlantValue → ℕ → Type 0
Busy v p = (p < v.shape.ports) × (0 < v.counts p)

-- hops left fell by one, and no list changed
pub record Moves (v w : PlantValue) : Type 0 where
  pub shape : w.shape ≡ v.shape
  pub lists : (k : ℕ) → w.waiting k ≡ v.waiting k
  pub hops : w.hops + 1 ≡ v.hops

-- hops left fell by one, and the oldest frame of line l left its list
pub record Hands (v : PlantValue) (l : ℕ) (f : FrameValue) (w : PlantValue) : Type 0 where
  pub shape : w.shape ≡ v.shape
  pub line : l < v.shape.lines
  pub here : v.waiting l ≡ f ∷ w.waiting l
  pub others : (k : ℕ) → k ≢ l → w.waiting k ≡ v.waiting k
  pub hops : w.hops + 1 ≡ v.hops

-- by the outcome: the line told (0 where none is meant), the caller's place before and after, and what is left
abbrev pub Polled : Outcome → PlantValue → ℕ → Frame → ℕ → Frame → PlantValue → Type 0
Polled Idle v p old l new w = (Busy v p → ⊥) × (l ≡ 0) × (new ≡ old) × (w ≡ v)
Polled Moved v p old l new w = Busy v p × (l ≡ 0) × (new ≡ old) × Moves v w
Polled Handed v p old l new w = Busy v p × Hands v l (frame_value new) w

-- a poll of port p answers the pair r, and leaves w and the caller's place new
abbrev pub Polls : PlantValue → ℕ → Frame → Outcome × ℕ → Frame → PlantValue → Type 0
Polls v p old r new w = Polled r.0 v p old r.1 new w
