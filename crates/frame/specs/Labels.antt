-- Where a label may stand, and how wide an entry's fields are. Assumes nothing.
use Rattle.std.specs.Prelude.{◌≡◌, ℕ, ◌<◌, Bool, true, cond, ◌&&◌, ◌||◌, List, ◌==◌, nat_le, nat_lt, slice_index_or}
use Rattle.frame.specs.declared.entry.Entry.{Entry}

-- The label rule: at height 0, the bottom, 0 and 2 may stand, above it 1; 16 and up anywhere, all others nowhere.
abbrev pub allowed : ℕ → ℕ → Bool
allowed height label = nat_le 16 label || cond (height == 0) (label == 0 || label == 2) (label == 1)

-- 20 bits of label, 3 of TC (TTL has 8 bits in its type)
abbrev pub narrow : Entry → Bool
narrow e = nat_lt e.label 1048576 && nat_lt e.tc 8

abbrev pub no_entry : Entry
no_entry = record { label = 0; tc = 0; ttl = 0 }

-- an entry may stand at a height
abbrev pub Stands : ℕ → Entry → Type 0
Stands k e = (allowed k e.label ≡ true) × (narrow e ≡ true)

-- each of the first n entries, from the bottom, may stand where it does
abbrev pub Keeps : ℕ → List Entry → Type 0
Keeps n es = (k : ℕ) → k < n → Stands k (slice_index_or es k no_entry)
