-- How a tunnel is held: what is known of its path and of the plant below at every time. Assumes nothing.
use Rattle.std.specs.Prelude.{◌≡◌, ℕ, suc, ◌+◌, ◌-◌, ◌<◌, ◌≤◌, ◌≢◌, List, [], ◌∷◌, length, Ok, Err, Result}
use Rattle.frame.specs.declared.refusal.Refusal.{Refusal}
use Rattle.frame.specs.Frames.{FrameValue}
use Rattle.plant.specs.Plants.{PlantValue, Shape, Lawful, partner, total}
use Rattle.tunnel.specs.declared.path.Path.{Path}
use Rattle.tunnel.specs.Tunnels.{hop, forth, back, spans, tunnel_value}

-- The rules of a path, as facts.

-- the path's lines exist
abbrev pub Exist : Shape → Path → Type 0
Exist s p = (i : ℕ) → i < p.len → hop p i < s.lines

-- each line begins where the one before ends
abbrev pub Chained : Shape → Path → Type 0
Chained s p = (i : ℕ) → suc i < p.len → (s.line (hop p (suc i))).from ≡ (s.line (hop p i)).to

-- no link comes twice
abbrev pub Apart : Path → Type 0
Apart p = (i j : ℕ) → i < p.len → j < i → (hop p j ≢ hop p i) × (hop p j ≢ partner (hop p i))

-- the path ends elsewhere than it begins
abbrev pub Open : Shape → Path → Type 0
Open s p = (s.line (hop p 0)).from ≢ (s.line (hop p (p.len - 1))).to

-- the caps of the path's lines and of their partners exceed the window
abbrev pub Wide : Shape → Path → Type 0
Wide s p = (i : ℕ) → i < p.len → (p.window < (s.line (hop p i)).cap) × (p.window < (s.line (partner (hop p i))).cap)

-- what is known of an open tunnel's path by itself
pub record Links (p : Path) : Type 0 where
  pub len_most : p.len ≤ 8
  pub small : p.base + p.len ≤ 1048576
  pub short : (i : ℕ) → i < p.len → hop p i < 48
  pub apart : Apart p

-- what is known of it over the plant below
pub record PathOk (s : Shape) (p : Path) : Type 0 where
  pub links : Links p
  pub below : p.below ≡ s.lines
  pub len_least : 1 ≤ p.len
  pub window_least : 1 ≤ p.window
  pub window_most : p.window ≤ 31
  pub exist : Exist s p
  pub joins : Chained s p
  pub ends : Open s p
  pub few : s.lines ≤ 46
  pub deep : 2 ≤ s.depth
  pub labels : s.kept ≡ p.base + p.len
  pub kept : 80 ≤ p.base
  pub caps : Wide s p
  pub spans_forth : spans s (forth p) ≤ 2097152
  pub spans_back : spans s (back p) ≤ 2097152

-- a fact of each element of a list
abbrev pub All : {X : Type 0} → (X → Type 0) → List X → Type 0
All P [] = Unit {0}
All P (x ∷ xs) = P x × All P xs

-- no stack below has more entries than the depth
abbrev pub Shallow : PlantValue → Type 0
Shallow v = (l : ℕ) → l < v.shape.lines → All (λ (f : FrameValue). length f.stack ≤ v.shape.depth) (v.waiting l)

-- an open tunnel over a plant: its path keeps the rules, the tunnel is lawful, and no frame below is unseen in it
pub record TunnelOk (p : Path) (v : PlantValue) : Type 0 where
  pub path : PathOk v.shape p
  pub lawful : Lawful (tunnel_value p v)
  pub level : total (tunnel_value p v) ≡ total v
  pub shallow : Shallow v

-- of a void tunnel nothing need be known
abbrev pub Kept : Result Path Refusal → PlantValue → Type 0
Kept (Err e) v = Unit {0}
Kept (Ok p) v = TunnelOk p v
