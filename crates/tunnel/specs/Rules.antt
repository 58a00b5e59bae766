-- The rules of a path over a plant, in the order in which they are tried. Assumes nothing.
use Rattle.std.specs.Prelude.{ℕ, zero, suc, ◌+◌, ◌-◌, Bool, true, cond, not, ◌&&◌, ltb, List, [], ◌∷◌, length, Some, None, Option, ◌==◌, nat_eq, nat_le, nat_lt}
use Rattle.plant.specs.Plants.{PlantValue, Shape, partner, total}
use Rattle.plant.specs.Futures.{Future}
use Rattle.tunnel.specs.declared.path.Path.{Path}
use Rattle.tunnel.specs.Tunnels.{hop, spans, forth, back, tunnel_value}
use Rattle.tunnel.specs.Onward.{open_future}

-- the first n numbers of a list, and 0 where it has no more
abbrev pub padded : ℕ → List ℕ → List ℕ
padded zero xs = []
padded (suc n) [] = 0 ∷ padded n []
padded (suc n) (x ∷ xs) = x ∷ padded n xs

-- the path table of a tunnel over a plant: the labels of its hops are the highest that the plant below does not keep
abbrev pub path_over : Shape → List ℕ → ℕ → Path
path_over s lines window =
    record { lines = padded 8 lines; len = length lines; window = window; below = s.lines; base = s.kept - length lines }

-- each of the first n numbers passes
abbrev pub all_to : ℕ → (ℕ → Bool) → Bool
all_to zero t = true
all_to (suc n) t = t n && all_to n t

-- 1 to 8 hops, and a window of 1 to 31
abbrev pub in_range : Path → Bool
in_range p = nat_le 1 p.len && (nat_le p.len 8 && (nat_le 1 p.window && nat_le p.window 31))

-- the path's lines exist
abbrev pub all_exist : Shape → Path → Bool
all_exist s p = all_to p.len (λ i. ltb (hop p i) s.lines)

-- each line begins where the one before ends, no link comes twice, and the path ends elsewhere than it begins
abbrev pub leads_through : Shape → Path → Bool
leads_through s p =
    all_to (p.len - 1) (λ i. nat_eq (s.line (hop p (suc i))).from (s.line (hop p i)).to)
    && (all_to p.len (λ i. all_to i (λ j. not (hop p j == hop p i) && not (hop p j == partner (hop p i))))
    && not ((s.line (hop p 0)).from == (s.line (hop p (p.len - 1))).to))

-- at most 46 lines below, nothing waits, depth is at least 2 and kept less the hops at least 80, the caps of the path's
-- lines and of their partners exceed the window, and neither direction's spans add up to more than 2,097,152
abbrev pub can_carry : PlantValue → Path → Bool
can_carry v p =
    nat_le v.shape.lines 46 && (total v == 0 && (nat_le 2 v.shape.depth && (nat_le (80 + p.len) v.shape.kept
    && (all_to p.len (λ i. nat_lt p.window (v.shape.line (hop p i)).cap && nat_lt p.window (v.shape.line (partner (hop p i))).cap)
    && (nat_le (spans v.shape (forth p)) 2097152 && nat_le (spans v.shape (back p)) 2097152)))))

-- the number of the first rule that is broken
abbrev pub rule_broken : PlantValue → Path → Option ℕ
rule_broken v p =
    cond (not (in_range p)) (Some 7)
    (cond (not (all_exist v.shape p)) (Some 6)
    (cond (not (leads_through v.shape p)) (Some 15)
    (cond (not (can_carry v p)) (Some 22) None)))

-- why a tunnel over a plant, along the lines given and with a window, is void, if it is
abbrev pub tunnel_refusal : PlantValue → List ℕ → ℕ → Option ℕ
tunnel_refusal v lines window = rule_broken v (path_over v.shape lines window)

-- the one if no rule is broken, else the other
abbrev pub unless_void : {X : Type 0} → Option ℕ → X → X → X
unless_void None x y = x
unless_void (Some n) x y = y

-- what a tunnel made over a plant stands for
abbrev pub tunnel_of : PlantValue → List ℕ → ℕ → PlantValue
tunnel_of v lines window = unless_void (tunnel_refusal v lines window) (tunnel_value (path_over v.shape lines window) v) v

-- what a tunnel made over a plant answers, call by call
abbrev pub tunnel_over : List ℕ → ℕ → Future → Future
tunnel_over lines window b =
    unless_void (tunnel_refusal (b []).value lines window) (open_future (path_over (b []).value.shape lines window) b) b
