-- A flat list read as a table of rows and columns. Assumes nothing.
use Rattle.std.specs.Prelude.{ℕ, ◌+◌, ◌-◌, ◌*◌, cond, ◌&&◌, List, nat_le, nat_lt, slice_index_or}

-- a list with a place for each row below `rows` and each column from `first` up to `end`, row by row; outside it, d
abbrev pub grid_at : {X : Type 0} → ℕ → ℕ → ℕ → X → List X → ℕ → ℕ → X
grid_at rows first end d xs i k = cond (nat_lt i rows && (nat_le first k && nat_lt k end)) (slice_index_or xs (i * (end - first) + (k - first)) d) d
