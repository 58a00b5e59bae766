-- A flat array read as a table of rows and labels. Assumes nothing.
use Rattle.std.specs.Prelude.{ℕ, List}
use Rattle.grid.specs.Grids.{grid_at}

-- an array of n rows of 64 places, one for each label from 16 to 79; outside it, d
abbrev pub by_label : {X : Type 0} → ℕ → X → List X → ℕ → ℕ → X
by_label n d = grid_at n 16 80 d
