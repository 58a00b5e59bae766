-- What a plant stands for, and its laws. Assumes nothing.
--
-- A plant is what carries frames between routers. It has lines, in pairs of partners that lead to and fro between the
-- same two routers, and ports, at which it is polled.
use Rattle.std.specs.Prelude.{◌≡◌, ℕ, zero, suc, ◌+◌, ◌-◌, ◌*◌, ◌%◌, ◌<◌, ◌≤◌, Bool, false, cond, ◌≢◌, List, [], ◌∷◌, length, ◌==◌, nat_le}
use Rattle.frame.specs.declared.entry.Entry.{Entry}
use Rattle.frame.specs.Frames.{FrameValue}

-- a line: the routers where it begins and ends, how many frames may wait on it, and how many polls a frame needs on it
pub record Line : Type 0 where
  pub from : ℕ
  pub to : ℕ
  pub cap : ℕ
  pub span : ℕ

-- What never changes. Kept is the lowest label that the plant keeps for its own use, so that no frame may come with it
-- or a larger one on top; depth is the greatest number of entries of a frame.
pub record Shape : Type 0 where
  pub lines : ℕ
  pub line : ℕ → Line
  pub ports : ℕ
  pub kept : ℕ
  pub depth : ℕ

-- What a plant stands for at one time: each line's waiting frames, oldest first, how many frames each port counts, and
-- hops left, a number that each poll lowers by one unless it is idle, and that is 0 when nothing waits.
pub record PlantValue : Type 0 where
  pub shape : Shape
  pub waiting : ℕ → List FrameValue
  pub counts : ℕ → ℕ
  pub hops : ℕ

-- lines 2k and 2k + 1 are partners
abbrev pub partner : ℕ → ℕ
partner l = cond (l % 2 == 0) (l + 1) (l - 1)

abbrev pub sum_to : ℕ → (ℕ → ℕ) → ℕ
sum_to zero f = 0
sum_to (suc n) f = sum_to n f + f n

-- the frames that wait on all lines
abbrev pub total : PlantValue → ℕ
total v = sum_to v.shape.lines (λ l. length (v.waiting l))

-- the top label is kept or more; a stack without entries has none
abbrev pub over_kept : ℕ → List Entry → Bool
over_kept kept [] = false
over_kept kept (e ∷ es) = nat_le kept e.label

pub record LineLaws (n : Line) : Type 0 where
  pub apart : n.from ≢ n.to
  pub cap_least : 1 ≤ n.cap
  pub cap_most : n.cap ≤ 32
  pub span_least : 1 ≤ n.span
  pub span_most : n.span ≤ 2097152

pub record ShapeLaws (s : Shape) : Type 0 where
  pub even : s.lines % 2 ≡ 0
  pub lines_most : s.lines ≤ 48
  pub ports_most : s.ports ≤ 48
  pub line : (l : ℕ) → l < s.lines → LineLaws (s.line l)
  pub partners : (k : ℕ) → 2 * k + 1 < s.lines → ((s.line (2 * k)).from ≡ (s.line (2 * k + 1)).to) × ((s.line (2 * k)).to ≡ (s.line (2 * k + 1)).from)
  pub kept_most : s.kept ≤ 1048576
  pub depth_least : 1 ≤ s.depth
  pub depth_most : s.depth ≤ 8

-- the laws of every plant, at every time
pub record Lawful (v : PlantValue) : Type 0 where
  pub shape : ShapeLaws v.shape
  pub room : (l : ℕ) → l < v.shape.lines → length (v.waiting l) ≤ (v.shape.line l).cap
  pub counted : sum_to v.shape.ports v.counts ≡ total v
  pub rest : total v ≡ 0 → v.hops ≡ 0
  pub least : total v ≤ v.hops
