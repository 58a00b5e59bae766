-- What the array of statuses stands for. Assumes nothing.
use Rattle.std.specs.Prelude.{◌≡◌, ℕ, Bool, true, false}
use Rattle.model.specs.Tables as model
use Rattle.labels.specs.declared.status.Status.{Status}
use Rattle.labels.specs.declared.status.Status.TheVariants.{Free, Taken, Bound, Leaving}
use Rattle.labels.specs.declared.pool.Pool.{Pool}
use Rattle.labels.specs.Arrays.{by_label}

-- a status in the model's words; a label that is taken counts as free until it is bound
abbrev pub status_of : Status → model.Status
status_of Free = model.free
status_of Taken = model.free
status_of (Bound f) = model.bound f
status_of (Leaving f) = model.leaving f

-- router, label
abbrev pub slots : Pool → ℕ → ℕ → Status
slots p = by_label 16 Free p.at.cells

-- the same in the model's words
abbrev pub statuses_of : Pool → ℕ → ℕ → model.Status
statuses_of p r l = status_of (slots p r l)

-- it may be taken
abbrev pub is_open : Status → Bool
is_open Free = true
is_open Taken = false
is_open (Bound f) = false
is_open (Leaving f) = false

-- it is granted, and the grant is not yet spent
abbrev pub is_taken : Status → Bool
is_taken Free = false
is_taken Taken = true
is_taken (Bound f) = false
is_taken (Leaving f) = false

-- the test tells of each status what p says
abbrev pub Tests : (Status → Bool → Type 0) → (Status → Bool) → Type 0
Tests R p = (x : Status) (b : Bool) → R x b → b ≡ p x

-- no label is taken
abbrev pub Settled : Pool → Type 0
Settled p = (r l : ℕ) → is_taken (slots p r l) ≡ false
