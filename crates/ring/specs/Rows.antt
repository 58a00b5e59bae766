-- A row of the ring plant: a line's ends and cap, and its part of the places, used going round. Assumes nothing.
use Rattle.std.specs.Prelude.{ℕ, zero, suc, ◌+◌, ◌-◌, cond, List, [], ◌∷◌, ◌==◌, nat_lt, slice_index_or}
use Rattle.frame.specs.Frames.{FrameValue}
use Rattle.plant.specs.Plants.{Line}
use Rattle.plant.specs.Questions.{no_frame}
use Rattle.ring.specs.declared.row.Row.{Row}

abbrev pub no_row : Row
no_row = record { from = 0; to = 0; cap = 0; base = 0; head = 0; len = 0 }

abbrev pub row_at : List Row → ℕ → Row
row_at rows l = slice_index_or rows l no_row

-- the line that a row stands for
abbrev pub row_line : Row → Line
row_line r = record { from = r.from; to = r.to; cap = r.cap; span = 1 }

-- the place after one, going round
abbrev pub next : ℕ → ℕ → ℕ
next cap at = cond (at + 1 == cap) 0 (at + 1)

-- a place counted past the end goes on from the start
abbrev pub spot : ℕ → ℕ → ℕ
spot cap sum = cond (nat_lt sum cap) sum (sum - cap)

-- n frames from a place on
abbrev pub run : List FrameValue → ℕ → ℕ → ℕ → ℕ → List FrameValue
run vals base cap head zero = []
run vals base cap head (suc n) = slice_index_or vals (base + head) no_frame ∷ run vals base cap (next cap head) n

-- the frames of a row, oldest first
abbrev pub row_frames : List FrameValue → Row → List FrameValue
row_frames vals r = run vals r.base r.cap r.head r.len

-- the row without its oldest frame
abbrev pub advanced : Row → Row
advanced r = record { from = r.from; to = r.to; cap = r.cap; base = r.base; head = next r.cap r.head; len = r.len - 1 }

-- the row with one frame more
abbrev pub extended : Row → Row
extended r = record { from = r.from; to = r.to; cap = r.cap; base = r.base; head = r.head; len = r.len + 1 }
