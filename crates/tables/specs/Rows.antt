-- What the next hops may be. Assumes nothing.
use Rattle.std.specs.Prelude.{◌≡◌, ℕ, Bool, true, List, Some, None, Option, nat_lt}
use Rattle.grid.specs.Grids.{grid_at}

-- a number that is there is below n
abbrev pub is_below : ℕ → Option ℕ → Bool
is_below n None = true
is_below n (Some e) = nat_lt e n

-- that of each router and FEC
abbrev pub AllBelow : ℕ → List (Option ℕ) → Type 0
AllBelow n xs = (r f : ℕ) → is_below n (grid_at 16 0 32 None xs r f) ≡ true
