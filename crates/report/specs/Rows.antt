-- The rows that tell what became of the packets. Assumes nothing.
use Rattle.std.specs.Prelude.{List, [], ◌∷◌, ◌++◌, map, length}
use Rattle.model.specs.declared.fate.Fate.TheVariants.{Waiting, Delivered, Dropped}
use Rattle.model.specs.Packets.{Record}
use Rattle.model.specs.Promises.{count}
use Rattle.report.specs.declared.row.Row.{Row}
use Rattle.report.specs.declared.row.Row.TheVariants.{Packet, Totals}

-- the row of a packet: its number, where it came in, its FEC, its fate, and where and why it ended
abbrev pub packet_row : {A : Type 0} → Record A → Row
packet_row x = Packet x.number x.ingress x.fec x.fate x.router x.cause

-- the row of totals: how many records there are, and how many have each fate
abbrev pub totals_row : {A : Type 0} → List (Record A) → Row
totals_row xs = Totals (length xs) (count Delivered xs) (count Dropped xs) (count Waiting xs)

-- a row for each packet in the order of their numbers, and one of totals
abbrev pub book_rows : {A : Type 0} → List (Record A) → List Row
book_rows xs = map packet_row xs ++ totals_row xs ∷ []
