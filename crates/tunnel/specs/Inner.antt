-- What only the contracts of inner functions cite; nothing that is public rests on it. Assumes nothing.
use Rattle.std.specs.Prelude.{◌≡◌, ℕ, ◌+◌, ◌-◌, ◌<◌, ◌≤◌, Bool, true, false, not, cond, nat_lt, ◌≢◌, List, length, slice_get, slice_index_or, Some, None, Option, Result}
use Rattle.std.specs.Option.{option_map}
use Rattle.plant.specs.Questions.{no_frame}
use Rattle.frame.specs.declared.frame.Frame.{Frame}
use Rattle.frame.specs.declared.refusal.Refusal.{Refusal}
use Rattle.frame.specs.Frames.{FrameValue, frame_value}
use Rattle.plant.specs.declared.outcome.Outcome.{Outcome}
use Rattle.plant.specs.declared.outcome.Outcome.TheVariants.{Idle, Moved, Handed}
use Rattle.plant.specs.Plants.{PlantValue, Shape, partner, total}
use Rattle.plant.specs.Answers.{Joins}
use Rattle.plant.specs.Futures.{sent, Future, after, after_send}
use Rattle.tunnel.specs.declared.path.Path.{Path}
use Rattle.tunnel.specs.declared.path.Hop.{Hop}
use Rattle.tunnel.specs.Tunnels.{hop, forth, back, way_of, own, crossing, top_is, popped, spans}
use Rattle.tunnel.specs.Held.{Chained, Apart, Open, Wide}
use Rattle.tunnel.specs.Onward.{line_of, next_line, next_frame}

-- 1 to 8 hops, and a window of 1 to 31
pub record InRange (p : Path) : Type 0 where
  pub len_least : 1 ≤ p.len
  pub len_most : p.len ≤ 8
  pub window_least : 1 ≤ p.window
  pub window_most : p.window ≤ 31

-- the lines are a path
pub record Through (s : Shape) (p : Path) : Type 0 where
  pub chained : Chained s p
  pub apart : Apart p
  pub open_ended : Open s p

-- the line of a hop begins where that of the hop before ends
abbrev pub JoinsAt : Shape → Path → ℕ → Type 0
JoinsAt s p i = (s.line (hop p i)).from ≡ (s.line (hop p (i - 1))).to

-- a line exists, and its cap and its partner's exceed a window
abbrev pub WideAt : Shape → ℕ → ℕ → Type 0
WideAt s w l = (l < s.lines) × (w < (s.line l).cap) × (w < (s.line (partner l)).cap)

-- the plant below can carry the tunnel
pub record Able (v : PlantValue) (p : Path) : Type 0 where
  pub few : v.shape.lines ≤ 46
  pub still : total v ≡ 0
  pub deep : 2 ≤ v.shape.depth
  pub kept : 80 + p.len ≤ v.shape.kept
  pub wide : Wide v.shape p
  pub spans_forth : spans v.shape (forth p) ≤ 2097152
  pub spans_back : spans v.shape (back p) ≤ 2097152

-- the hop that a frame on a line belongs to, if it is an own one
abbrev pub Owned : Path → ℕ → FrameValue → Option Hop → Type 0
Owned p l f None = own p l f ≡ false
Owned p l f (Some h) = (h.index < p.len) × (l ≡ (way_of h.back p).at h.index) × (top_is ((way_of h.back p).label h.index) f ≡ true)

-- the lines of the hops forth, in a list
pub record Hops (p : Path) (xs : List ℕ) : Type 0 where
  pub count : length xs ≡ p.len
  pub each : (i d : ℕ) → i < p.len → slice_index_or xs i d ≡ hop p i

-- the hop forth on a line, if there is one
abbrev pub Found : Path → ℕ → Option ℕ → Type 0
Found p l (Some i) = (i < p.len) × (hop p i ≡ l)
Found p l None = (i : ℕ) → i < p.len → hop p i ≢ l

-- the hop on a line, if there is one
abbrev pub OnHop : Path → ℕ → Option Hop → Type 0
OnHop p l (Some h) = (h.index < p.len) × (l ≡ (way_of h.back p).at h.index)
OnHop p l None = ((i : ℕ) → i < p.len → hop p i ≢ l) × ((i : ℕ) → i < p.len → hop p i ≢ partner l)

-- the own frames of a line are those with a label, if its link is on the path
abbrev pub Marked : Path → ℕ → Option ℕ → Type 0
Marked p l (Some k) = (crossing p l ≡ true) × ((f : FrameValue) → own p l f ≡ top_is k f)
Marked p l None = (crossing p l ≡ false) × ((f : FrameValue) → own p l f ≡ false)

-- the hop forth on whose link hop i of a direction is
abbrev pub link_of : Path → Bool → ℕ → ℕ
link_of p true i = p.len - 1 - i
link_of p false i = i

-- the frames with a label on top, or the others
abbrev pub picks : Bool → ℕ → FrameValue → Bool
picks true k f = top_is k f
picks false k f = not (top_is k f)

-- the frame at a place of a line, or one without entries where none waits
abbrev pub told_at : PlantValue → ℕ → ℕ → FrameValue
told_at v l i = cond (nat_lt l v.shape.lines) (slice_index_or (v.waiting l) i no_frame) no_frame

-- the frame at a place of a line, if the line exists and one waits there
abbrev pub told_get : PlantValue → ℕ → ℕ → Option FrameValue
told_get v l i = cond (nat_lt l v.shape.lines) (slice_get (v.waiting l) i) None

-- there is a frame, and its top label is k
abbrev pub tops_told : ℕ → Option FrameValue → Bool
tops_told k None = false
tops_told k (Some f) = top_is k f

-- the future below after a send there
abbrev pub after_entry : ℕ × FrameValue → Result (Unit {0}) Refusal → Future → Future
after_entry x r b = after_send x.0 x.1 r b

-- What becomes of an own frame f that came out of a hop, and what is left below: sent on, the caller's place untouched,
-- or, at its last hop, handed out without its top entry.
abbrev pub Carried : Outcome → Path → Hop → FrameValue → PlantValue → ℕ → Frame → Frame → PlantValue → Type 0
Carried Idle p h f v l old new w = ⊥
Carried Moved p h f v l old new w = (h.index + 1 < p.len) × (l ≡ 0) × (new ≡ old) × Joins v (next_line p h) (next_frame p h f) w
Carried Handed p h f v l old new w = (p.len ≤ h.index + 1) × (l ≡ line_of p h.back) × (frame_value new ≡ popped f) × (w ≡ v)

-- the future below after that
abbrev pub CarriedOn : Outcome → Path → Hop → FrameValue → Option Future → Option Future → Type 0
CarriedOn Idle p h f o r = ⊥
CarriedOn Moved p h f o r = r ≡ option_map (λ b. after b (sent (next_line p h) (next_frame p h f))) o
CarriedOn Handed p h f o r = r ≡ o
