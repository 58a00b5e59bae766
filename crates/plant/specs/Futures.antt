-- What a plant answers, call by call, where that is known. Assumes nothing.
use Rattle.std.specs.Prelude.{ℕ, cond, List, [], ◌∷◌, ◌++◌, length, Some, None, Ok, Err, Option, Result, ◌==◌}
use Rattle.frame.specs.Frames.{FrameValue}
use Rattle.frame.specs.declared.refusal.Refusal.{Refusal}
use Rattle.plant.specs.declared.outcome.Outcome.{Outcome}
use Rattle.plant.specs.declared.outcome.Outcome.TheVariants.{Idle, Moved, Handed}
use Rattle.plant.specs.Plants.{PlantValue, Shape, sum_to}

-- a call that may change a plant: a frame accepted on a line, or a poll of a port
pub data Call : Type 0 where
  sent : ℕ → FrameValue → Call
  polled : ℕ → Call

-- what a poll comes to
pub data Turn : Type 0 where
  idle : Turn
  moved : Turn
  handed : ℕ → FrameValue → Turn

-- what a plant stands for at one time, and what a poll of each port would come to
pub record Moment : Type 0 where
  pub value : PlantValue
  pub turn : ℕ → Turn

-- the moment after each run of calls
abbrev pub Future : Type 0
Future = List Call → Moment

abbrev pub after : Future → Call → Future
after b c = λ cs. b (c ∷ cs)

abbrev pub after_send : ℕ → FrameValue → Result (Unit {0}) Refusal → Future → Future
after_send l f (Ok u) b = after b (sent l f)
after_send l f (Err e) b = b

abbrev pub turn_at : Future → ℕ → Turn
turn_at b port = (b []).turn port

abbrev pub turn_is : Outcome → ℕ → FrameValue → Turn
turn_is Idle l f = idle
turn_is Moved l f = moved
turn_is Handed l f = handed l f

-- a fact of the future, if it is known
abbrev pub Foretold : Option Future → (Future → Type 0) → Type 0
Foretold None P = Unit {0}
Foretold (Some b) P = P b

-- A plant at whose port p the oldest frame of line p is handed out.

abbrev pub bottom_value : Shape → (ℕ → List FrameValue) → PlantValue
bottom_value s q = record { shape = s; waiting = q; counts = λ l. length (q l); hops = sum_to s.lines (λ l. length (q l)) }

abbrev pub behind : List FrameValue → List FrameValue
behind [] = []
behind (f ∷ fs) = fs

abbrev pub oldest : ℕ → List FrameValue → Turn
oldest l [] = idle
oldest l (f ∷ fs) = handed l f

abbrev pub stepped : (ℕ → List FrameValue) → Call → ℕ → List FrameValue
stepped q (sent l f) k = cond (k == l) (q k ++ (f ∷ [])) (q k)
stepped q (polled p) k = cond (k == p) (behind (q k)) (q k)

abbrev pub bottom_future : Shape → (ℕ → List FrameValue) → Future
bottom_future s q [] = record { value = bottom_value s q; turn = λ p. oldest p (q p) }
bottom_future s q (c ∷ cs) = bottom_future s (stepped q c) cs
