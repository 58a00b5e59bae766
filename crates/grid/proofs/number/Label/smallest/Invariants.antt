use Rattle.std.proofs.Common.{ℕ, ◌<◌, ◌≤◌, false}
use Rattle.grid.proofs.number.Label.smallest.Given as goal

-- no smaller label passes
abbrev pub invariant-loop-number : goal.invariant-loop-number
invariant-loop-number g l = (j : ℕ) → 16 ≤ j → j < l.number → goal.F-post g l.test j false
