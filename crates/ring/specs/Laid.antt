-- Rows as they are laid, link by link. Assumes nothing.
use Rattle.std.specs.Prelude.{◌≡◌, ℕ, ◌+◌, ◌*◌, ◌<◌, ◌≤◌, List}
use Rattle.ring.specs.declared.row.Row.{Row}
use Rattle.ring.specs.Rows.{row_at}
use Rattle.ring.specs.Order.{RowOk}

-- n rows lie one behind the other in so many places, and are empty
pub record Laid (rows : List Row) (n size : ℕ) : Type 0 where
  pub row : (l : ℕ) → l < n → RowOk (row_at rows l) size
  pub still : (l : ℕ) → l < n → (row_at rows l).len ≡ 0
  pub tiles : (k l : ℕ) → k < l → l < n → (row_at rows k).base + (row_at rows k).cap ≤ (row_at rows l).base
  pub partners : (k : ℕ) → 2 * k + 1 < n → ((row_at rows (2 * k)).from ≡ (row_at rows (2 * k + 1)).to) × ((row_at rows (2 * k)).to ≡ (row_at rows (2 * k + 1)).from)
