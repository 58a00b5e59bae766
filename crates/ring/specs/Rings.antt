-- What the ring plant stands for, and what taking at a port answers. Assumes nothing.
use Rattle.std.specs.Prelude.{◌≡◌, ℕ, List, Some, None, vec_items, Option}
use Rattle.frame.specs.declared.frame.Frame.{Frame}
use Rattle.frame.specs.Frames.{FrameValue, frame_value}
use Rattle.plant.specs.Plants.{PlantValue, Shape}
use Rattle.plant.specs.Answers.{Busy, Hands}
use Rattle.plant.specs.Futures.{Future, Turn, idle, handed, bottom_value, bottom_future}
use Rattle.ring.specs.declared.ring.Ring.{Ring}
use Rattle.ring.specs.Order.{RingOk, ring_shape, ring_lists}

abbrev pub shape_of : Ring → Shape
shape_of r = ring_shape r.rows r.lines

abbrev pub lists_of : Ring → ℕ → List FrameValue
lists_of r = ring_lists r.rows r.lines (vec_items r.places)

-- what it stands for
abbrev pub value_of : Ring → PlantValue
value_of r = bottom_value (shape_of r) (lists_of r)

-- what it will answer: a poll of a port hands out the oldest frame of the line of that number
abbrev pub future_of : Ring → Future
future_of r = bottom_future (shape_of r) (lists_of r)

-- how it is held
abbrev pub RingSound : Ring → Type 0
RingSound r = RingOk r.rows r.lines (vec_items r.places)

-- taking at a port: nothing where it counts none, else the oldest frame of its line leaves
abbrev pub Taken : PlantValue → ℕ → Option Frame → PlantValue → Type 0
Taken v p None w = (Busy v p → ⊥) × (w ≡ v)
Taken v p (Some f) w = Busy v p × Hands v p (frame_value f) w

abbrev pub taken_turn : ℕ → Option Frame → Turn
taken_turn p None = idle
taken_turn p (Some f) = handed p (frame_value f)
