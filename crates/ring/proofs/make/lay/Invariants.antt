use Rattle.std.proofs.Common.{◌≡◌, ℕ, ◌*◌, ◌≤◌, length}
use Rattle.ring.specs.Links.{taken}
use Rattle.ring.specs.Rows.{row_at, row_line}
use Rattle.ring.specs.Laid.{Laid}
use Rattle.ring.proofs.Laying.{line_to}
use Rattle.ring.proofs.make.lay.Given as goal

abbrev pub invariant-loop-i : goal.invariant-loop-i
invariant-loop-i l =
    (length l.rows ≡ 32) × (l.base ≡ taken l.links l.i) × (l.base ≤ 64 * l.i) × Laid l.rows (2 * l.i) l.base
    × ((k : ℕ) → row_line (row_at l.rows k) ≡ line_to l.links l.i k)
