-- Rows that are in order, and what they stand for: each line's frames lie in its part of the places, going round. Assumes nothing.
use Rattle.std.specs.Prelude.{◌≡◌, ℕ, ◌+◌, ◌*◌, ◌%◌, ◌<◌, ◌≤◌, cond, ◌≢◌, List, [], map, length, nat_lt}
use Rattle.frame.specs.declared.frame.Frame.{Frame}
use Rattle.frame.specs.Frames.{FrameValue, frame_value}
use Rattle.plant.specs.Plants.{Shape}
use Rattle.ring.specs.declared.row.Row.{Row}
use Rattle.ring.specs.Rows.{row_at, row_line, row_frames}

abbrev pub ring_shape : List Row → ℕ → Shape
ring_shape rows n = record { lines = n; line = λ l. row_line (row_at rows l); ports = n; kept = 1048576; depth = 8 }

abbrev pub ring_lists : List Row → ℕ → List Frame → ℕ → List FrameValue
ring_lists rows n items l = cond (nat_lt l n) (row_frames (map frame_value items) (row_at rows l)) []

-- a row is in order: its part lies within the places, and what is in use lies within its part
pub record RowOk (r : Row) (size : ℕ) : Type 0 where
  pub apart : r.from ≢ r.to
  pub cap_least : 1 ≤ r.cap
  pub cap_most : r.cap ≤ 32
  pub head : r.head < r.cap
  pub len : r.len ≤ r.cap
  pub inside : r.base + r.cap ≤ size

-- the first n rows are in order, their parts lie one behind the other, and partners lead to and fro
pub record RingOk (rows : List Row) (n : ℕ) (items : List Frame) : Type 0 where
  pub few : n ≤ 32
  pub wide : n ≤ length rows
  pub even : n % 2 ≡ 0
  pub row : (l : ℕ) → l < n → RowOk (row_at rows l) (length items)
  pub tiles : (k l : ℕ) → k < l → l < n → (row_at rows k).base + (row_at rows k).cap ≤ (row_at rows l).base
  pub partners : (k : ℕ) → 2 * k + 1 < n → ((row_at rows (2 * k)).from ≡ (row_at rows (2 * k + 1)).to) × ((row_at rows (2 * k)).to ≡ (row_at rows (2 * k + 1)).from)
