-- A stack as the list of its entries, top first, and what a push and a pop make of it. Assumes nothing.
use Rattle.std.specs.Prelude.{◌≡◌, ℕ, zero, suc, cond, List, [], ◌∷◌, length, Some, None, Ok, Err, Option, Result, nat_le, slice_index_or}
use Rattle.frame.specs.declared.entry.Entry.{Entry}
use Rattle.frame.specs.declared.stack.Stack.{Stack}
use Rattle.frame.specs.declared.refusal.Refusal.{Refusal}
use Rattle.frame.specs.Numbers.{refusal_number}
use Rattle.frame.specs.Labels.{allowed, narrow, no_entry}

-- the first n entries of a table, the last one first
abbrev pub down_from : List Entry → ℕ → List Entry
down_from es zero = []
down_from es (suc n) = slice_index_or es n no_entry ∷ down_from es n

abbrev pub entries_of : Stack → List Entry
entries_of s = down_from s.entries s.len

abbrev pub top_of : List Entry → Option Entry
top_of [] = None
top_of (e ∷ es) = Some e

abbrev pub rest_of : List Entry → List Entry
rest_of [] = []
rest_of (e ∷ es) = es

-- the number with which a push is refused: a full stack, then the label rule, then a field too wide
abbrev pub push_refusal : List Entry → Entry → Option ℕ
push_refusal es e =
    cond (nat_le 8 (length es)) (Some 2)
    (cond (allowed (length es) e.label) (cond (narrow e) None (Some 7)) (Some 3))

-- a push onto the entries es answers r and leaves fs
abbrev pub Pushed : List Entry → Entry → Result (Unit {0}) Refusal → List Entry → Type 0
Pushed es e (Ok u) fs = (push_refusal es e ≡ None) × (fs ≡ e ∷ es)
Pushed es e (Err r) fs = (push_refusal es e ≡ Some (refusal_number r)) × (fs ≡ es)
