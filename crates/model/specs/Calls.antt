-- The five calls: with which number each is refused, what it answers, and what it does to tables, book and plant. Assumes nothing.
use Rattle.std.specs.Prelude.{ℕ, ◌-◌, Bool, false, cond, ◌&&◌, List, [], ◌∷◌, ◌++◌, length, Some, None, Option, ◌==◌, nat_le, nat_lt}
use Rattle.frame.specs.declared.entry.Entry.{Entry}
use Rattle.frame.specs.declared.kind.Kind.{Kind}
use Rattle.frame.specs.declared.kind.Kind.TheVariants.{Data, Mapping, Withdraw, Release}
use Rattle.frame.specs.Frames.{FrameValue}
use Rattle.frame.specs.Numbers.{kind_number}
use Rattle.plant.specs.Plants.{Shape, PlantValue, partner}
use Rattle.plant.specs.Futures.{Turn, idle, moved, handed}
use Rattle.model.specs.declared.cause.Cause.TheVariants.{NoMatch}
use Rattle.model.specs.declared.fate.Fate.TheVariants.{Waiting, Delivered, Dropped}
use Rattle.model.specs.declared.met.Met.{Met}
use Rattle.model.specs.declared.met.Met.TheVariants.{Idle, Moved, Message, Packet, Stray}
use Rattle.model.specs.Tables.{Tables, is_label, is_some, with_owner, with_hop, refresh, tidy, withdrawn}
use Rattle.model.specs.Messages.{Due, message, next_message, learn, unlearn, unstage}
use Rattle.model.specs.Packets.{Record, End, at, is_waiting, data_frame, Verdict, deliver, drop, forward, is_full, handle, by_stack}

-- what a plan fixes: whether it is void, its routers, its FECs, its policy, and the FEC that longest match gives an address
pub record Plan (A : Type 0) : Type 0 where
  pub void : Bool
  pub routers : ℕ
  pub fecs : ℕ
  pub independent : Bool
  pub lookup : A → Option ℕ

-- a network at one time
pub record State (A : Type 0) : Type 0 where
  pub tables : Tables
  pub book : List (Record A)
  pub plant : PlantValue

-- own (router, FEC, 0 or 1), route (router, FEC, line or none), inject (router, address, TTL), tell (line), poll (port)
pub data Call (A : Type 0) : Type 0 where
  own : ℕ → ℕ → ℕ → Call A
  route : ℕ → ℕ → Option ℕ → Call A
  inject : ℕ → A → ℕ → Call A
  tell : ℕ → Call A
  poll : ℕ → Call A

-- a number, the number of a refusal, or what a poll met, with the line (0 where none is meant)
pub data Answer : Type 0 where
  done : ℕ → Answer
  refused : ℕ → Answer
  polled : Met → ℕ → Answer

-- what a call comes to: its answer, the tables, the book with a packet that came in, the frame to send on a line, and a packet's end
pub record Effect (A : Type 0) : Type 0 where
  pub answer : Answer
  pub tables : Tables
  pub book : List (Record A)
  pub send : Option (ℕ × FrameValue)
  pub end : Option End

-- an answer, and other tables
abbrev pub retabled : {A : Type 0} → Answer → Tables → State A → Effect A
retabled a t s = record { answer = a; tables = t; book = s.book; send = None; end = None }

-- an answer, and nothing else
abbrev pub only : {A : Type 0} → Answer → State A → Effect A
only a s = retabled a s.tables s

-- the refusal, without effect, or else the effect
abbrev pub unless : {A : Type 0} → Option ℕ → State A → Effect A → Effect A
unless None s k = k
unless (Some n) s k = only (refused n) s

-- the frame in which packet p, with this TTL, is sent on
abbrev pub send_by : ℕ → ℕ → Verdict → Option (ℕ × FrameValue)
send_by p ttl deliver = None
send_by p ttl (drop c) = None
send_by p ttl (forward e l) = Some (e, data_frame p l (ttl - 1))

-- the end of packet p at router r
abbrev pub end_by : ℕ → ℕ → Verdict → Option End
end_by r p deliver = Some (record { packet = p; fate = Delivered; router = r; cause = None })
end_by r p (drop c) = Some (record { packet = p; fate = Dropped; router = r; cause = Some c })
end_by r p (forward e l) = None

-- packet p, in hand at router r with this TTL, is dealt with
abbrev pub deal : {A : Type 0} → Answer → ℕ → ℕ → ℕ → Verdict → State A → Effect A
deal a r p ttl y s = record { answer = a; tables = s.tables; book = s.book; send = send_by p ttl y; end = end_by r p y }

-- own: 4 no such router, 5 no such FEC, 7 neither 0 nor 1
abbrev pub own_refusal : {A : Type 0} → Plan A → ℕ → ℕ → ℕ → Option ℕ
own_refusal P r f b = cond (nat_le P.routers r) (Some 4) (cond (nat_le P.fecs f) (Some 5) (cond (nat_le 2 b) (Some 7) None))

-- a next hop: 6 no such line, 9 the line begins elsewhere
abbrev pub hop_refusal : Shape → ℕ → Option ℕ → Option ℕ
hop_refusal S r None = None
hop_refusal S r (Some e) = cond (nat_le S.lines e) (Some 6) (cond ((S.line e).from == r) None (Some 9))

-- route: 4, 5, 6, 9
abbrev pub route_refusal : {A : Type 0} → Plan A → Shape → ℕ → ℕ → Option ℕ → Option ℕ
route_refusal P S r f h = cond (nat_le P.routers r) (Some 4) (cond (nat_le P.fecs f) (Some 5) (hop_refusal S r h))

-- inject: 4, 7 a TTL over 255, 24 the book is full
abbrev pub inject_refusal : {A : Type 0} → Plan A → ℕ → ℕ → State A → Option ℕ
inject_refusal P r ttl s = cond (nat_le P.routers r) (Some 4) (cond (nat_le 256 ttl) (Some 7) (cond (nat_le 512 (length s.book)) (Some 24) None))

-- tell: 6, 23 a message is due and the line is full
abbrev pub tell_refusal : {A : Type 0} → Shape → ℕ → State A → Option ℕ
tell_refusal S e s = cond (nat_le S.lines e) (Some 6) (cond (is_some (next_message S e s.tables) && is_full s.plant e) (Some 23) None)

-- the number with which a call is refused; a poll is not
abbrev pub refusal : {A : Type 0} → Plan A → Shape → Call A → State A → Option ℕ
refusal P S (own r f b) s = own_refusal P r f b
refusal P S (route r f h) s = route_refusal P S r f h
refusal P S (inject r a ttl) s = inject_refusal P r ttl s
refusal P S (tell e) s = tell_refusal S e s
refusal P S (poll p) s = None

-- the record of a packet that comes in as number n
abbrev pub record_of : {A : Type 0} → Plan A → ℕ → ℕ → A → ℕ → Record A
record_of P n r a ttl = record { number = n; ingress = r; address = a; ttl = ttl; fec = P.lookup a; fate = Waiting; router = None; cause = None }

-- the state with one more record
abbrev pub with_record : {A : Type 0} → Record A → State A → State A
with_record x s = record { tables = s.tables; book = s.book ++ x ∷ []; plant = s.plant }

-- a packet comes in at router r
abbrev pub entry_verdict : {A : Type 0} → ℕ → ℕ → Option ℕ → State A → Verdict
entry_verdict r ttl None s = drop NoMatch
entry_verdict r ttl (Some f) s = handle s.tables s.plant r f ttl

-- a tell of line e: 0 if no message is due, else the message is sent and its kind answered
abbrev pub tell_next : {A : Type 0} → ℕ → Option Due → State A → Effect A
tell_next e None s = only (done 0) s
tell_next e (Some m) s =
    record {
      answer = done (kind_number m.kind);
      tables = m.after;
      book = s.book;
      send = Some (e, message m.kind m.fec m.label);
      end = None;
    }

-- the FEC exists, and the label is one that routers use
abbrev pub in_range : {A : Type 0} → Plan A → ℕ → ℕ → Bool
in_range P f l = nat_lt f P.fecs && is_label l

-- the number is there, and is l
abbrev pub is_this : Option ℕ → ℕ → Bool
is_this None l = false
is_this (Some k) l = k == l

-- the TTL of the top entry
abbrev pub top_ttl : List Entry → ℕ
top_ttl [] = 0
top_ttl (x ∷ xs) = x.ttl

-- a frame of line e that passes a test has this effect, and one that does not is stray, without effect
abbrev pub else_stray : {A : Type 0} → Bool → ℕ → Effect A → State A → Effect A
else_stray b e k s = cond b k (only (polled Stray e) s)

-- a frame of each kind comes out of line e into the router at its end
abbrev pub arriving : {A : Type 0} → Plan A → Shape → Kind → ℕ → List Entry → ℕ → ℕ → State A → Effect A
arriving P S Mapping e st f l s =
    else_stray (in_range P f l) e (retabled (polled Message e) (refresh P.independent S (S.line e).to f (learn e f l s.tables)) s) s
arriving P S Withdraw e st f l s =
    else_stray (in_range P f l && is_this (s.tables.remote (partner e) f) l) e
    (retabled (polled Message e) (refresh P.independent S (S.line e).to f (unlearn e f l s.tables)) s) s
arriving P S Release e st f l s =
    else_stray (in_range P f l && s.tables.stage e l == withdrawn) e
    (retabled (polled Message e) (tidy S (S.line e).to l (unstage e l s.tables)) s) s
arriving P S Data e st p b s =
    else_stray (is_waiting (at s.book p)) e
    (deal (polled Packet e) (S.line e).to p (top_ttl st) (by_stack s.tables s.plant (S.line e).to st) s) s

-- a poll, by the turn that the plant took, which left the plant of this state
abbrev pub polling : {A : Type 0} → Plan A → Shape → Turn → State A → Effect A
polling P S idle s = only (polled Idle 0) s
polling P S moved s = only (polled Moved 0) s
polling P S (handed e x) s = arriving P S x.kind e x.stack x.a x.b s

-- a call that is not refused
abbrev pub act : {A : Type 0} → Plan A → Shape → Call A → Turn → State A → Effect A
act P S (own r f b) t s = retabled (done 0) (refresh P.independent S r f (with_owner r f (b == 1) s.tables)) s
act P S (route r f h) t s = retabled (done 0) (refresh P.independent S r f (with_hop r f h s.tables)) s
act P S (inject r a ttl) t s =
    deal (done (length s.book)) r (length s.book) ttl (entry_verdict r ttl (P.lookup a) s)
    (with_record (record_of P (length s.book) r a ttl) s)
act P S (tell e) t s = tell_next e (next_message S e s.tables) s
act P S (poll p) t s = polling P S t s

-- what a call comes to; the turn counts in a poll only
abbrev pub effect : {A : Type 0} → Plan A → Shape → Call A → Turn → State A → Effect A
effect P S c t s = unless (refusal P S c s) s (act P S c t s)
