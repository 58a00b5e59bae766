-- A table's records by their places. Assumes nothing.
use Rattle.std.specs.Prelude.{◌≡◌, ℕ, ◌<◌, ◌≤◌, ◌≢◌, List, length, Some, None, Option, slice_index_or}
use Rattle.model.specs.Packets.{End, close}
use Rattle.book.specs.declared.packet.Record.{Record as Row}
use Rattle.book.specs.Records.{record_of}

-- what stands at a place, or that the place is beyond the table
abbrev pub Found : {X : Type 0} → List X → ℕ → Option X → Type 0
Found xs p None = length xs ≤ p
Found xs p (Some x) = (p < length xs) × (x ≡ slice_index_or xs p x)

-- the record at a place got its packet's end, and every other is as it was
pub record Ended {A : Type 0} (xs : List (Row A)) (p : ℕ) (d : End) (ys : List (Row A)) : Type 0 where
  pub long : length ys ≡ length xs
  pub here : (x : Row A) → record_of (slice_index_or ys p x) ≡ close d (record_of (slice_index_or xs p x))
  pub others : (k : ℕ) (x : Row A) → k ≢ p → slice_index_or ys k x ≡ slice_index_or xs k x
