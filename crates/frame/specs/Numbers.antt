-- The published numbers of refusals and of kinds of frames. Assumes nothing.
use Rattle.std.specs.Prelude.{ℕ, Some, None, Ok, Err, Option, Result}
use Rattle.frame.specs.declared.refusal.Refusal.{Refusal}
use Rattle.frame.specs.declared.refusal.Refusal.TheVariants.{StackFull, LabelRule, NoRouter, NoFec, NoLine, OutOfRange, HostBits, OtherRouter, NoPath, TableFull, FecTaken, Unfit, LineFull, BookFull, LabelKept, TooDeep, BufferShort}
use Rattle.frame.specs.declared.kind.Kind.{Kind}
use Rattle.frame.specs.declared.kind.Kind.TheVariants.{Data, Mapping, Withdraw, Release}

abbrev pub refusal_number : Refusal → ℕ
refusal_number StackFull = 2
refusal_number LabelRule = 3
refusal_number NoRouter = 4
refusal_number NoFec = 5
refusal_number NoLine = 6
refusal_number OutOfRange = 7
refusal_number HostBits = 8
refusal_number OtherRouter = 9
refusal_number NoPath = 15
refusal_number TableFull = 20
refusal_number FecTaken = 21
refusal_number Unfit = 22
refusal_number LineFull = 23
refusal_number BookFull = 24
refusal_number LabelKept = 25
refusal_number TooDeep = 26
refusal_number BufferShort = 27

abbrev pub kind_number : Kind → ℕ
kind_number Data = 0
kind_number Mapping = 1
kind_number Withdraw = 2
kind_number Release = 3

-- the number that a result refuses with, if it refuses
abbrev pub refused_by : {X : Type 0} → Result X Refusal → Option ℕ
refused_by (Ok x) = None
refused_by (Err e) = Some (refusal_number e)

-- the number that something void tells, if it is void
abbrev pub told_by : Option Refusal → Option ℕ
told_by None = None
told_by (Some e) = Some (refusal_number e)
