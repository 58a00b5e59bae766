-- A record and an end as the model's. Assumes nothing.
use Rattle.std.specs.Prelude.{Some, None, Option}
use Rattle.model.specs.Packets.{Record, End}
use Rattle.book.specs.declared.end.End.{End as Ending}
use Rattle.book.specs.declared.packet.Record.{Record as Row}

-- the model's record with the same contents
abbrev pub record_of : {A : Type 0} → Row A → Record A
record_of x =
    record {
      number = x.number;
      ingress = x.ingress;
      address = x.address;
      ttl = x.ttl;
      fec = x.fec;
      fate = x.fate;
      router = x.router;
      cause = x.cause;
    }

-- the model's end with the same contents
abbrev pub end_of : Ending → End
end_of d = record { packet = d.packet; fate = d.fate; router = d.router; cause = d.cause }

-- the model's record, if one was found
abbrev pub found_of : {A : Type 0} → Option (Row A) → Option (Record A)
found_of None = None
found_of (Some x) = Some (record_of x)
