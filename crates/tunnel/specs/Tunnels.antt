-- What a tunnel stands for, worked out from the plant below and the path. Assumes nothing.
--
-- A tunnel leads along a path of lines of the plant below. A way is one of its two directions, forth along the path and
-- back along the partners; its hops are counted from 0 in the direction of travel. An own frame is one that is under way
-- in the tunnel: below it waits on a hop's line, with that hop's label on top.
use Rattle.std.specs.Prelude.{ℕ, zero, suc, ◌+◌, ◌-◌, ◌*◌, Bool, true, false, cond, not, ◌||◌, List, [], ◌∷◌, ◌++◌, map, length, Ok, Err, Result, ◌==◌, nat_lt, slice_index}
use Rattle.frame.specs.declared.entry.Entry.{Entry}
use Rattle.frame.specs.declared.refusal.Refusal.{Refusal}
use Rattle.frame.specs.Frames.{FrameValue}
use Rattle.frame.specs.Stacks.{rest_of}
use Rattle.plant.specs.Plants.{PlantValue, Shape, Line, partner, sum_to}
use Rattle.tunnel.specs.declared.path.Path.{Path}

-- a direction of the tunnel: hop by hop, the line below and the label
pub record Way : Type 0 where
  pub len : ℕ
  pub at : ℕ → ℕ
  pub label : ℕ → ℕ

-- the path's line of hop i
abbrev pub hop : Path → ℕ → ℕ
hop p i = slice_index p.lines i

-- the way along the path
abbrev pub forth : Path → Way
forth p = record { len = p.len; at = hop p; label = λ i. p.base + i }

-- the way along the partners, the last first
abbrev pub back : Path → Way
back p = record { len = p.len; at = λ i. partner (hop p (p.len - 1 - i)); label = λ i. p.base + (p.len - 1 - i) }

-- the way of a direction, true being back
abbrev pub way_of : Bool → Path → Way
way_of true p = back p
way_of false p = forth p

-- the elements of a list that pass
abbrev pub keep : {X : Type 0} → (X → Bool) → List X → List X
keep t [] = []
keep t (x ∷ xs) = cond (t x) (x ∷ keep t xs) (keep t xs)

-- the label of the top entry is k
abbrev pub tops : ℕ → List Entry → Bool
tops k [] = false
tops k (e ∷ es) = e.label == k

-- the frame's top label is k; a frame without entries has none
abbrev pub top_is : ℕ → FrameValue → Bool
top_is k f = tops k f.stack

-- without its top entry
abbrev pub popped : FrameValue → FrameValue
popped f = record { kind = f.kind; stack = rest_of f.stack; a = f.a; b = f.b }

-- an own frame of a way: on the line of one of the first n hops, with that hop's label
abbrev pub own_at : Way → ℕ → ℕ → FrameValue → Bool
own_at w zero l f = false
own_at w (suc i) l f = cond (w.at i == l) (top_is (w.label i) f) (own_at w i l f)

-- an own frame of either way
abbrev pub own : Path → ℕ → FrameValue → Bool
own p l f = own_at (forth p) p.len l f || own_at (back p) p.len l f

-- a line is one of the first n hops of a way
abbrev pub on : Way → ℕ → ℕ → Bool
on w zero l = false
on w (suc i) l = cond (w.at i == l) true (on w i l)

-- a line's link is on the path
abbrev pub crossing : Path → ℕ → Bool
crossing p l = on (forth p) p.len l || on (back p) p.len l

-- the own frames of a hop, without their top entries
abbrev pub hop_frames : (ℕ → List FrameValue) → Way → ℕ → List FrameValue
hop_frames q w i = map popped (keep (top_is (w.label i)) (q (w.at i)))

-- the lists of the first n hops in one, that of the last hop first
abbrev pub gather : (ℕ → List FrameValue) → ℕ → List FrameValue
gather f zero = []
gather f (suc i) = f i ++ gather f i

-- the own frames of a way
abbrev pub along : (ℕ → List FrameValue) → Way → List FrameValue
along q w = gather (hop_frames q w) w.len

-- the span of a hop's line
abbrev pub hop_span : Shape → Way → ℕ → ℕ
hop_span s w i = (s.line (w.at i)).span

-- the spans of all hops
abbrev pub spans : Shape → Way → ℕ
spans s w = sum_to w.len (hop_span s w)

-- the spans of the hops after hop i
abbrev pub later : Shape → Way → ℕ → ℕ
later s w i = spans s w - sum_to (suc i) (hop_span s w)

-- what the own frames of a way still have to go on later hops
abbrev pub ahead : PlantValue → Way → ℕ
ahead v w = sum_to w.len (λ i. length (hop_frames v.waiting w i) * later v.shape w i)

-- the line that a way is in the tunnel
abbrev pub whole : Shape → Way → ℕ → Line
whole s w cap = record { from = (s.line (w.at 0)).from; to = (s.line (w.at (w.len - 1))).to; cap = cap; span = spans s w }

-- a line below as the tunnel has it: its cap is less by the window if its link is on the path
abbrev pub narrowed : Path → Line → Bool → Line
narrowed p n b = record { from = n.from; to = n.to; cap = cond b (n.cap - p.window) n.cap; span = n.span }

-- with n lines below, line n leads forth and line n + 1 back; the labels of the hops are kept, and depth is one less
abbrev pub tunnel_shape : Path → Shape → Shape
tunnel_shape p s = record {
  lines = s.lines + 2;
  line = λ l. cond (nat_lt l s.lines) (narrowed p (s.line l) (crossing p l))
      (cond (l == s.lines) (whole s (forth p) p.window) (whole s (back p) p.window));
  ports = s.ports;
  kept = p.base;
  depth = s.depth - 1;
}

-- a line under n has its list below without own frames; the two lines of the tunnel have the own frames of their way
abbrev pub tunnel_waiting : Path → ℕ → (ℕ → List FrameValue) → ℕ → List FrameValue
tunnel_waiting p n q l =
    cond (nat_lt l n) (keep (λ f. not (own p l f)) (q l))
    (cond (l == n) (along q (forth p)) (cond (l == n + 1) (along q (back p)) []))

-- the tunnel over a plant; hops left is that below and, for each own frame, the spans of its later hops
abbrev pub tunnel_value : Path → PlantValue → PlantValue
tunnel_value p v = record {
  shape = tunnel_shape p v.shape;
  waiting = tunnel_waiting p v.shape.lines v.waiting;
  counts = v.counts;
  hops = v.hops + (ahead v (forth p) + ahead v (back p));
}

-- what a tunnel stands for, by its route: a path, or, of a void tunnel, the rule that is broken; a void one stands for what
-- is below
abbrev pub meaning : Result Path Refusal → PlantValue → PlantValue
meaning (Err e) v = v
meaning (Ok p) v = tunnel_value p v
