-- Packets: their records in the book, their ends, and what a router does with one in hand. Assumes nothing.
use Rattle.std.specs.Prelude.{ℕ, zero, suc, Bool, false, cond, List, [], ◌∷◌, length, Some, None, Option, ◌==◌, nat_le}
-- the element of a number
pub use Rattle.std.specs.List.{slice_get as at}
use Rattle.frame.specs.declared.entry.Entry.{Entry}
use Rattle.frame.specs.declared.kind.Kind.TheVariants.{Data}
use Rattle.frame.specs.Frames.{FrameValue}
use Rattle.plant.specs.Plants.{PlantValue}
use Rattle.model.specs.declared.cause.Cause.{Cause}
use Rattle.model.specs.declared.cause.Cause.TheVariants.{UnknownLabel, TtlSpent, LeavingLabel, NoNextHop, NoRemoteLabel, NoRoom}
use Rattle.model.specs.declared.fate.Fate.{Fate}
use Rattle.model.specs.declared.fate.Fate.TheVariants.{Waiting, Delivered, Dropped}
use Rattle.model.specs.Tables.{Tables, Status, free, bound, leaving, is_label}

-- the record of a packet; router and cause are those of its end
pub record Record (A : Type 0) : Type 0 where
  pub number : ℕ
  pub ingress : ℕ
  pub address : A
  pub ttl : ℕ
  pub fec : Option ℕ
  pub fate : Fate
  pub router : Option ℕ
  pub cause : Option Cause

-- how a packet ended, and at which router
pub record End : Type 0 where
  pub packet : ℕ
  pub fate : Fate
  pub router : ℕ
  pub cause : Option Cause

-- fates are told apart by a number
abbrev pub fate_number : Fate → ℕ
fate_number Waiting = 0
fate_number Delivered = 1
fate_number Dropped = 2

-- the two fates are the same
abbrev pub is_fate : Fate → Fate → Bool
is_fate o x = fate_number o == fate_number x

-- the element of a number changed
abbrev pub revise : {X : Type 0} → (X → X) → ℕ → List X → List X
revise g p [] = []
revise g zero (x ∷ xs) = g x ∷ xs
revise g (suc p) (x ∷ xs) = x ∷ revise g p xs

-- a record with its packet's end
abbrev pub close : {A : Type 0} → End → Record A → Record A
close d x =
    record {
      number = x.number;
      ingress = x.ingress;
      address = x.address;
      ttl = x.ttl;
      fec = x.fec;
      fate = d.fate;
      router = Some d.router;
      cause = d.cause;
    }

-- an end is written into its packet's record
abbrev pub settle : {A : Type 0} → Option End → List (Record A) → List (Record A)
settle None xs = xs
settle (Some d) xs = revise (close d) d.packet xs

-- there is such a packet, and it waits
abbrev pub is_waiting : {A : Type 0} → Option (Record A) → Bool
is_waiting None = false
is_waiting (Some x) = is_fate Waiting x.fate

-- the frame of a packet: one entry with the label, TC 0 and the TTL, and the packet's number as A
abbrev pub data_frame : ℕ → ℕ → ℕ → FrameValue
data_frame p l ttl = record { kind = Data; stack = record { label = l; tc = 0; ttl = ttl } ∷ []; a = p; b = 0 }

-- what is to be done with a packet in hand: it is sent on over a line with a label, or ends
pub data Verdict : Type 0 where
  deliver : Verdict
  drop : Cause → Verdict
  forward : ℕ → ℕ → Verdict

-- as many frames wait on the line as may
abbrev pub is_full : PlantValue → ℕ → Bool
is_full v e = nat_le (v.shape.line e).cap (length (v.waiting e))

-- over line e, for whose far end this label is known
abbrev pub along : PlantValue → ℕ → Option ℕ → Verdict
along v e None = drop NoRemoteLabel
along v e (Some l) = cond (is_full v e) (drop NoRoom) (forward e l)

-- to this next hop
abbrev pub onward : Tables → PlantValue → ℕ → Option ℕ → Verdict
onward t v f None = drop NoNextHop
onward t v f (Some e) = along v e (t.remote e f)

-- router r handles a packet of f with this TTL
abbrev pub handle : Tables → PlantValue → ℕ → ℕ → ℕ → Verdict
handle t v r f ttl = cond (nat_le ttl 1) (drop TtlSpent) (cond (t.owner r f) deliver (onward t v f (t.hop r f)))

-- a packet came to router r with a label of this status
abbrev pub by_status : Tables → PlantValue → ℕ → ℕ → Status → Verdict
by_status t v r ttl free = drop UnknownLabel
by_status t v r ttl (leaving f) = drop LeavingLabel
by_status t v r ttl (bound f) = handle t v r f ttl

-- a packet came to router r under this stack
abbrev pub by_stack : Tables → PlantValue → ℕ → List Entry → Verdict
by_stack t v r [] = drop UnknownLabel
by_stack t v r (x ∷ []) = cond (is_label x.label) (by_status t v r x.ttl (t.status r x.label)) (drop UnknownLabel)
by_stack t v r (x ∷ y ∷ zs) = drop UnknownLabel
