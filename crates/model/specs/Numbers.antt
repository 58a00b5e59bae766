-- The published numbers of causes and of what a poll met. Assumes nothing.
use Rattle.std.specs.Prelude.{ℕ}
use Rattle.model.specs.declared.cause.Cause.{Cause}
use Rattle.model.specs.declared.cause.Cause.TheVariants.{NoMatch, UnknownLabel, TtlSpent, LeavingLabel, NoNextHop, NoRemoteLabel, NoRoom}
use Rattle.model.specs.declared.met.Met.{Met}
use Rattle.model.specs.declared.met.Met.TheVariants.{Idle, Moved, Message, Packet, Stray}

-- the number of a cause
abbrev pub cause_number : Cause → ℕ
cause_number NoMatch = 1
cause_number UnknownLabel = 2
cause_number TtlSpent = 3
cause_number LeavingLabel = 4
cause_number NoNextHop = 5
cause_number NoRemoteLabel = 6
cause_number NoRoom = 7

-- the number of what a poll met
abbrev pub met_number : Met → ℕ
met_number Idle = 0
met_number Moved = 1
met_number Message = 2
met_number Packet = 3
met_number Stray = 4
