-- What a tunnel does at the plant below in each call, and so what it answers, call by call, where that is known of the
-- plant below. Assumes nothing.
use Rattle.std.specs.Prelude.{◌≡◌, ℕ, zero, suc, ◌+◌, ◌-◌, Bool, true, false, cond, List, [], ◌∷◌, Some, None, Ok, Err, Option, Result, ◌==◌, nat_lt}
use Rattle.frame.specs.declared.entry.Entry.{Entry}
use Rattle.frame.specs.declared.frame.Frame.{Frame}
use Rattle.frame.specs.declared.refusal.Refusal.{Refusal}
use Rattle.frame.specs.Frames.{FrameValue, frame_value}
use Rattle.plant.specs.declared.outcome.Outcome.{Outcome}
use Rattle.plant.specs.Plants.{PlantValue}
use Rattle.plant.specs.Answers.{Joins, Polled}
use Rattle.plant.specs.Futures.{Call, sent, polled, Turn, idle, moved, handed, Future, after, turn_is}
use Rattle.tunnel.specs.declared.path.Path.{Path}
use Rattle.tunnel.specs.declared.path.Hop.{Hop}
use Rattle.tunnel.specs.Tunnels.{Way, forth, back, way_of, top_is, popped, tunnel_value}

-- with one entry more
abbrev pub pushed : Entry → FrameValue → FrameValue
pushed e f = record { kind = f.kind; stack = e ∷ f.stack; a = f.a; b = f.b }

-- a frame as it enters a way: the label of the first hop, TC 0 and TTL 255 on top
abbrev pub labelled : ℕ → FrameValue → FrameValue
labelled k f = pushed (record { label = k; tc = 0; ttl = 255 }) f

-- the top entry for the next hop: its label, the same TC, and a TTL one less, stopping at 0
abbrev pub next_outer : ℕ → List Entry → Entry
next_outer k [] = record { label = k; tc = 0; ttl = 0 }
next_outer k (e ∷ es) = record { label = k; tc = e.tc; ttl = e.ttl - 1 }

-- a frame as it is sent on, for a hop's label
abbrev pub relabelled : ℕ → FrameValue → FrameValue
relabelled k f = pushed (next_outer k f.stack) (popped f)

-- A send: on which line below which frame enters. On a line under n, and of a void tunnel, it is the frame itself.

-- of a tunnel that is not void
abbrev pub entering : Path → ℕ → FrameValue → ℕ × FrameValue
entering p l f =
    cond (nat_lt l p.below) (l, f)
    ((way_of (nat_lt p.below l) p).at 0, labelled ((way_of (nat_lt p.below l) p).label 0) f)

-- the same of any tunnel, by its route
abbrev pub entering_at : Result Path Refusal → ℕ → FrameValue → ℕ × FrameValue
entering_at (Err e) l f = (l, f)
entering_at (Ok p) l f = entering p l f

-- the frame has joined its line below if the send was accepted, else nothing changed there
abbrev pub Entered : ℕ × FrameValue → PlantValue → Result (Unit {0}) Refusal → PlantValue → Type 0
Entered x v (Ok u) w = Joins v x.0 x.1 w
Entered x v (Err e) w = w ≡ v

-- A poll: what the turn of the plant below is to the tunnel.

-- the hop of a way that a frame on a line belongs to
abbrev pub own_hop : Way → ℕ → ℕ → FrameValue → Option ℕ
own_hop w zero l f = None
own_hop w (suc i) l f = cond (w.at i == l) (cond (top_is (w.label i) f) (Some i) None) (own_hop w i l f)

-- a hop by its parts
abbrev pub hop_at : Bool → ℕ → Hop
hop_at b k = record { back = b; index = k }

-- the hop forth if there is one, else that back
abbrev pub placed : Option ℕ → Option ℕ → Option Hop
placed (Some k) o = Some (hop_at false k)
placed None (Some k) = Some (hop_at true k)
placed None None = None

-- the hop that a frame on a line below belongs to, if it is an own one
abbrev pub place_of : Path → ℕ → FrameValue → Option Hop
place_of p l f = placed (own_hop (forth p) p.len l f) (own_hop (back p) p.len l f)

-- the line of a way in the tunnel
abbrev pub line_of : Path → Bool → ℕ
line_of p true = p.below + 1
line_of p false = p.below

-- the turn that a poll came to, by its answer and the caller's place
abbrev pub turn_of : Outcome × ℕ → Frame → Turn
turn_of r f = turn_is r.0 r.1 (frame_value f)

-- what a frame that is handed out below is to the tunnel: at its last hop an own frame comes out, before it has moved
abbrev pub shown : Path → ℕ → FrameValue → Option Hop → Turn
shown p l f None = handed l f
shown p l f (Some h) = cond (h.index + 1 == p.len) (handed (line_of p h.back) (popped f)) moved

-- the turn of a tunnel, from that below
abbrev pub tunnel_turn : Path → Turn → Turn
tunnel_turn p idle = idle
tunnel_turn p moved = moved
tunnel_turn p (handed l f) = shown p l f (place_of p l f)

-- the line of the next hop, and a frame as it is sent on there
abbrev pub next_line : Path → Hop → ℕ
next_line p h = (way_of h.back p).at (h.index + 1)

abbrev pub next_frame : Path → Hop → FrameValue → FrameValue
next_frame p h f = relabelled ((way_of h.back p).label (h.index + 1)) f

-- on which line which frame is sent on, where the frame f came out of a hop: none if it is no own frame, or at its last hop
abbrev pub sent_on : Path → FrameValue → Option Hop → Option (ℕ × FrameValue)
sent_on p f None = None
sent_on p f (Some h) = cond (h.index + 1 == p.len) None (Some (next_line p h, next_frame p h f))

-- what the tunnel sends on after a turn below
abbrev pub relay_of : Path → Turn → Option (ℕ × FrameValue)
relay_of p idle = None
relay_of p moved = None
relay_of p (handed l f) = sent_on p f (place_of p l f)

-- the same two of any tunnel, by its route
abbrev pub turn_over : Result Path Refusal → Turn → Turn
turn_over (Err e) t = t
turn_over (Ok p) t = tunnel_turn p t

abbrev pub relay_over : Result Path Refusal → Turn → Option (ℕ × FrameValue)
relay_over (Err e) t = None
relay_over (Ok p) t = relay_of p t

-- what was sent on has joined its line below
abbrev pub Relayed : Option (ℕ × FrameValue) → PlantValue → PlantValue → Type 0
Relayed None v w = w ≡ v
Relayed (Some x) v w = Joins v x.0 x.1 w

-- A poll of a tunnel that comes to a turn polls below, from v to middle, and then sends on, to w, what it must.
pub record PollsBelow (r : Result Path Refusal) (v : PlantValue) (port : ℕ) (old : Frame) (turn : Turn) (w : PlantValue) : Type 0 where
  pub outcome : Outcome
  pub line : ℕ
  pub frame : Frame
  pub middle : PlantValue
  pub below : Polled outcome v port old line frame middle
  pub told : turn ≡ turn_over r (turn_is outcome line (frame_value frame))
  pub relayed : Relayed (relay_over r (turn_is outcome line (frame_value frame))) middle w

-- The future of a tunnel.

-- the future below after what was sent on
abbrev pub after_relay : Option (ℕ × FrameValue) → Future → Future
after_relay None b = b
after_relay (Some x) b = after b (sent x.0 x.1)

-- the future below after a call of the tunnel
abbrev pub below_after : Path → Future → Call → Future
below_after p b (sent l f) = after b (sent (entering p l f).0 (entering p l f).1)
below_after p b (polled q) = after_relay (relay_of p ((b []).turn q)) (after b (polled q))

-- the future of a tunnel that is not void
abbrev pub open_future : Path → Future → Future
open_future p b [] = record { value = tunnel_value p (b []).value; turn = λ q. tunnel_turn p ((b []).turn q) }
open_future p b (c ∷ cs) = open_future p (below_after p b c) cs

-- the future of any tunnel
abbrev pub tunnel_future : Result Path Refusal → Future → Future
tunnel_future (Err e) b = b
tunnel_future (Ok p) b = open_future p b
