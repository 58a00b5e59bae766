-- The words of a row, byte for byte. Assumes nothing.
use Rattle.std.specs.Prelude.{ℕ, List, Some, None, codes, decimal, Option}
use Rattle.model.specs.declared.cause.Cause.{Cause}
use Rattle.model.specs.declared.fate.Fate.{Fate}
use Rattle.model.specs.declared.fate.Fate.TheVariants.{Waiting, Delivered, Dropped}
use Rattle.model.specs.Numbers.{cause_number}

-- a number, or a dash where there is none
abbrev pub dashed : Option ℕ → List ℕ
dashed None = codes "-"
dashed (Some n) = decimal n

-- W for waiting, D for delivered, X for dropped
abbrev pub fate_letter : Fate → List ℕ
fate_letter Waiting = codes "W"
fate_letter Delivered = codes "D"
fate_letter Dropped = codes "X"

-- the number of a cause, or 0 where there is none
abbrev pub cause_shown : Option Cause → ℕ
cause_shown None = 0
cause_shown (Some c) = cause_number c
