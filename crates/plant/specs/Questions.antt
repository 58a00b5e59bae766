-- What the questions of a plant answer: None of a line or a place that does not exist, 0 of such a port. Assumes nothing.
use Rattle.std.specs.Prelude.{◌≡◌, ℕ, ◌<◌, ◌≤◌, cond, [], length, Some, None, Option, nat_lt, slice_index_or}
use Rattle.frame.specs.declared.frame.Frame.{Frame}
use Rattle.frame.specs.declared.kind.Kind.TheVariants.{Data}
use Rattle.frame.specs.Frames.{FrameValue, frame_value}
use Rattle.plant.specs.Plants.{PlantValue, Shape}

-- an answer about a line, if it exists
abbrev pub of_line : {X : Type 0} → Shape → ℕ → X → Option X
of_line s l x = cond (nat_lt l s.lines) (Some x) None

abbrev pub ends_at : Shape → ℕ → Option (ℕ × ℕ)
ends_at s l = of_line s l ((s.line l).from, (s.line l).to)

abbrev pub cap_at : Shape → ℕ → Option ℕ
cap_at s l = of_line s l (s.line l).cap

abbrev pub span_at : Shape → ℕ → Option ℕ
span_at s l = of_line s l (s.line l).span

abbrev pub waits_at : PlantValue → ℕ → Option ℕ
waits_at v l = of_line v.shape l (length (v.waiting l))

-- what a place past the end of a list reads as
abbrev pub no_frame : FrameValue
no_frame = record { kind = Data; stack = []; a = 0; b = 0 }

-- a frame is told exactly where one waits
abbrev pub Waiting : PlantValue → ℕ → ℕ → Option Frame → Type 0
Waiting v l i (Some f) = (l < v.shape.lines) × (i < length (v.waiting l)) × (frame_value f ≡ slice_index_or (v.waiting l) i no_frame)
Waiting v l i None = l < v.shape.lines → length (v.waiting l) ≤ i

abbrev pub count_at : PlantValue → ℕ → ℕ
count_at v p = cond (nat_lt p v.shape.ports) (v.counts p) 0
