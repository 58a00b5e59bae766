-- What happens in a run: events, runs, and what can be said of a history, whose latest event stands first. Assumes nothing.
use Rattle.std.specs.Prelude.{◌≡◌, ℕ, ◌+◌, Bool, true, false, cond, ◌&&◌, ◌||◌, List, [], ◌∷◌, ◌++◌, Some, None, Ok, Err, Option, Result, ◌==◌, nat_le, nat_lt}
use Rattle.frame.specs.declared.refusal.Refusal.{Refusal}
use Rattle.frame.specs.Frames.{FrameValue}
use Rattle.plant.specs.Plants.{Shape, PlantValue, Lawful, total}
use Rattle.plant.specs.Answers.{Sends, Busy, Moves, Hands}
use Rattle.plant.specs.Futures.{Turn, idle, moved, handed}
use Rattle.model.specs.Numbers.{met_number}
use Rattle.model.specs.Tables.{blank, first, is_some}
use Rattle.model.specs.Packets.{End, settle}
use Rattle.model.specs.Calls.{Plan, State, Call, own, route, inject, tell, poll, Answer, done, refused, polled, Effect, effect}

-- a call with its answer, the frame that the plant handed out of a line for it, the frame that it accepted on a line, and the packet
-- that ended
pub record Event (A : Type 0) : Type 0 where
  pub call : Call A
  pub answer : Answer
  pub given : Option (ℕ × FrameValue)
  pub sent : Option (ℕ × FrameValue)
  pub end : Option End

-- the events since the start, the latest first
abbrev pub History : Type 0 → Type 0
History A = List (Event A)

-- a poll of port p came to this turn, and left the plant w
abbrev pub Turns : PlantValue → ℕ → Turn → PlantValue → Type 0
Turns v p idle w = (Busy v p → ⊥) × (w ≡ v)
Turns v p moved w = Busy v p × Moves v w
Turns v p (handed l x) w = Busy v p × Hands v l x w

-- the port that a call polls
abbrev pub port_of : {A : Type 0} → Call A → Option ℕ
port_of (own r f b) = None
port_of (route r f h) = None
port_of (inject r a ttl) = None
port_of (tell e) = None
port_of (poll p) = Some p

-- what the plant does before a call takes its effect: a turn if a port is polled, else nothing
abbrev pub Serves : Option ℕ → PlantValue → Turn → PlantValue → Type 0
Serves None v t w = (t ≡ idle) × (w ≡ v)
Serves (Some p) v t w = Turns v p t w

-- what a turn handed out
abbrev pub given_by : Turn → Option (ℕ × FrameValue)
given_by idle = None
given_by moved = None
given_by (handed e x) = Some (e, x)

-- what a send that answered r was accepted of
abbrev pub accepted : Result (Unit {0}) Refusal → ℕ × FrameValue → Option (ℕ × FrameValue)
accepted (Ok u) x = Some x
accepted (Err e) x = None

-- a frame, if there is one, is sent on its line, and leaves the plant w
abbrev pub Sending : PlantValue → Option (ℕ × FrameValue) → Option (ℕ × FrameValue) → PlantValue → Type 0
Sending v None sent w = (w ≡ v) × (sent ≡ None)
Sending v (Some x) sent w = (r : Result (Unit {0}) Refusal) × Sends v x.0 x.1 r w × (sent ≡ accepted r x)

-- on a plant v, an effect is taken: the event shows it, and it leaves the network s'
pub record Takes {A : Type 0} (v : PlantValue) (k : Effect A) (event : Event A) (s' : State A) : Type 0 where
  pub answered : event.answer ≡ k.answer
  pub ended : event.end ≡ k.end
  pub tables : s'.tables ≡ k.tables
  pub book : s'.book ≡ settle k.end k.book
  pub plant : Sending v k.send event.sent s'.plant

-- a network on another plant
abbrev pub with_plant : {A : Type 0} → PlantValue → State A → State A
with_plant v s = record { tables = s.tables; book = s.book; plant = v }

-- one event takes the network from s to s': the plant took a turn, if it was polled, and then the call took its effect
pub record Step {A : Type 0} (P : Plan A) (s : State A) (event : Event A) (s' : State A) : Type 0 where
  pub turn : Turn
  pub left : PlantValue
  pub served : Serves (port_of event.call) s.plant turn left
  pub given : event.given ≡ given_by turn
  pub takes : Takes left (effect P s.plant.shape event.call turn (with_plant left s)) event s'

-- the network at its start, on a plant v
abbrev pub fresh_state : {A : Type 0} → PlantValue → State A
fresh_state v = record { tables = blank; book = []; plant = v }

-- a line has an end at a router outside the plan
abbrev pub is_outside : {A : Type 0} → Plan A → Shape → ℕ → Bool
is_outside P S e = nat_le P.routers (S.line e).from || nat_le P.routers (S.line e).to

-- a network stands still if its plan is void, a line has an end outside it, something waits at the start, or kept is under 80
abbrev pub is_still : {A : Type 0} → Plan A → PlantValue → Bool
is_still P v = P.void || (is_some (first (is_outside P v.shape) 0 v.shape.lines) || (nat_lt 0 (total v) || nat_lt v.shape.kept 80))

-- every call of a network that stands still is refused with 22
pub record Stands {A : Type 0} (s : State A) (event : Event A) (s' : State A) : Type 0 where
  pub answered : event.answer ≡ refused 22
  pub given : event.given ≡ None
  pub sent : event.sent ≡ None
  pub ended : event.end ≡ None
  pub state : s' ≡ s

-- one event of a network that stands still, or of one that does not
abbrev pub Goes : {A : Type 0} → Bool → Plan A → State A → Event A → State A → Type 0
Goes true P s event s' = Stands s event s'
Goes false P s event s' = Step P s event s'

-- a call was made and answered so, and took the network from s to s': what the contract of each call says
abbrev pub Did : {A : Type 0} → Bool → Plan A → State A → Call A → Answer → State A → Type 0
Did {A} still P s call answer s' = (event : Event A) × (event.call ≡ call) × (event.answer ≡ answer) × Goes still P s event s'

-- the events of a history lead from the start on the plant v to the network s; each value of the plant obeys the laws
pub data Run {A : Type 0} (P : Plan A) (v : PlantValue) : History A → State A → Type 0 where
  start : Run P v [] (fresh_state v)
  next : {h : History A} {s : State A} {event : Event A} {s' : State A}
      → Run P v h s → Goes (is_still P v) P s event s' → Lawful s'.plant → Run P v (event ∷ h) s'

-- a call that is no poll was not refused
abbrev pub is_done : Answer → Bool
is_done (done n) = true
is_done (refused n) = false
is_done (polled o l) = false

-- whether r owns f after a call, done or not
abbrev pub owned_by : {A : Type 0} → Call A → Bool → ℕ → ℕ → Bool → Bool
owned_by (own r f b) ok r' f' before = cond (ok && (r' == r && f' == f)) (b == 1) before
owned_by (route r f h) ok r' f' before = before
owned_by (inject r a ttl) ok r' f' before = before
owned_by (tell e) ok r' f' before = before
owned_by (poll p) ok r' f' before = before

-- r owns f if the last accepted own for both said 1
abbrev pub owns : {A : Type 0} → History A → ℕ → ℕ → Bool
owns [] r f = false
owns (x ∷ h) r f = owned_by x.call (is_done x.answer) r f (owns h r f)

-- a packet as it comes in
pub record Incoming (A : Type 0) : Type 0 where
  pub ingress : ℕ
  pub address : A
  pub ttl : ℕ

-- the packet that a call brings
abbrev pub entry_of : {A : Type 0} → Call A → List (Incoming A)
entry_of (own r f b) = []
entry_of (route r f h) = []
entry_of (inject r a ttl) = record { ingress = r; address = a; ttl = ttl } ∷ []
entry_of (tell e) = []
entry_of (poll p) = []

-- the packet that an event took in
abbrev pub injected : {A : Type 0} → Call A → Answer → List (Incoming A)
injected c y = cond (is_done y) (entry_of c) []

-- the packets taken in, by the injects that were not refused, the oldest first
abbrev pub taken_in : {A : Type 0} → History A → List (Incoming A)
taken_in [] = []
taken_in (x ∷ h) = taken_in h ++ injected x.call x.answer

-- an end, if it is of packet p
abbrev pub end_of : ℕ → Option End → List End
end_of p None = []
end_of p (Some d) = cond (d.packet == p) (d ∷ []) []

-- the ends of packet p, the oldest first
abbrev pub ends : {A : Type 0} → ℕ → History A → List End
ends p [] = []
ends p (x ∷ h) = ends p h ++ end_of p x.end

-- a frame with its line, if that is l
abbrev pub on_line : ℕ → Option (ℕ × FrameValue) → List FrameValue
on_line l None = []
on_line l (Some x) = cond (x.0 == l) (x.1 ∷ []) []

-- what the plant accepted on line l, the oldest first
abbrev pub sent_on : {A : Type 0} → ℕ → History A → List FrameValue
sent_on l [] = []
sent_on l (x ∷ h) = sent_on l h ++ on_line l x.sent

-- what polls handed out of line l, the oldest first
abbrev pub given_of : {A : Type 0} → ℕ → History A → List FrameValue
given_of l [] = []
given_of l (x ∷ h) = given_of l h ++ on_line l x.given

-- 1 for a poll that answers 1 to 4
abbrev pub non_idle : Answer → ℕ
non_idle (done n) = 0
non_idle (refused n) = 0
non_idle (polled o l) = cond (met_number o == 0) 0 1

-- the non-idle polls
abbrev pub polls : {A : Type 0} → History A → ℕ
polls [] = 0
polls (x ∷ h) = polls h + non_idle x.answer

-- the span of a frame's line
abbrev pub span_of : Shape → Option (ℕ × FrameValue) → ℕ
span_of S None = 0
span_of S (Some x) = (S.line x.0).span

-- the summed line spans of the frames sent
abbrev pub spans : {A : Type 0} → Shape → History A → ℕ
spans S [] = 0
spans S (x ∷ h) = spans S h + span_of S x.sent
