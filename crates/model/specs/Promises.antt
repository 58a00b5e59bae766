-- What no succession of calls can break. Assumes nothing.
use Rattle.std.specs.Prelude.{◌≡◌, ℕ, ◌+◌, ◌<◌, ◌≤◌, Bool, true, cond, ◌&&◌, ◌≢◌, List, [], ◌∷◌, ◌++◌, length, Some, None, ◌==◌}
use Rattle.frame.specs.Frames.{FrameValue}
use Rattle.frame.specs.Numbers.{kind_number}
use Rattle.plant.specs.Plants.{PlantValue, Lawful, total, sum_to}
use Rattle.model.specs.declared.cause.Cause.TheVariants.{UnknownLabel}
use Rattle.model.specs.declared.fate.Fate.{Fate}
use Rattle.model.specs.declared.fate.Fate.TheVariants.{Waiting, Delivered, Dropped}
use Rattle.model.specs.declared.met.Met.TheVariants.{Stray}
use Rattle.model.specs.Packets.{Record, End, at, is_fate}
use Rattle.model.specs.Calls.{Plan, State, polled}
use Rattle.model.specs.History.{Event, History, Run, Incoming, owns, taken_in, ends, sent_on, given_of, polls, spans}

-- at each event, with the history before it
abbrev pub Always : {A : Type 0} → (Event A → History A → Type 0) → History A → Type 0
Always Q [] = Unit {0}
Always Q (x ∷ h) = Q x h × Always Q h

-- 1 if so, else 0
abbrev pub one : Bool → ℕ
one b = cond b 1 0

-- how many records have a fate
abbrev pub count : {A : Type 0} → Fate → List (Record A) → ℕ
count o [] = 0
count o (x ∷ xs) = one (is_fate o x.fate) + count o xs

-- how many frames of a list carry packet p: data frames whose A is p
abbrev pub carriers : ℕ → List FrameValue → ℕ
carriers p [] = 0
carriers p (x ∷ xs) = one (kind_number x.kind == 0 && x.a == p) + carriers p xs

-- how many frames of all lines carry packet p
abbrev pub carriers_in : ℕ → PlantValue → ℕ
carriers_in p v = sum_to v.shape.lines (λ l. carriers p (v.waiting l))

-- the record of number p says what came in as number p, and its FEC is what longest match gives
pub record Entered {A : Type 0} (P : Plan A) (h : History A) (p : ℕ) (x : Record A) : Type 0 where
  pub number : x.number ≡ p
  pub entry : at (taken_in h) p ≡ Some (record { ingress = x.ingress; address = x.address; ttl = x.ttl })
  pub fec : x.fec ≡ P.lookup x.address

-- a record shows the fate, router and cause of its packet's end, or that the packet waits
abbrev pub Shows : {A : Type 0} → Record A → List End → Type 0
Shows x [] = (x.fate ≡ Waiting) × (x.router ≡ None) × (x.cause ≡ None)
Shows x (d ∷ ds) = (x.fate ≡ d.fate) × (x.router ≡ Some d.router) × (x.cause ≡ d.cause)

-- router r owns the FEC that longest match gave packet p on entry
pub record Owned {A : Type 0} (P : Plan A) (h : History A) (p r : ℕ) : Type 0 where
  pub entry : Incoming A
  pub fec : ℕ
  pub came : at (taken_in h) p ≡ Some entry
  pub match : P.lookup entry.address ≡ Some fec
  pub owned : owns h r fec ≡ true

-- where packets came out, in each event of a history
pub record Exits {A : Type 0} (P : Plan A) (h : History A) : Type 0 where
  -- a packet that was delivered was so at a router that then owned the FEC which longest match gave it on entry
  pub home : Always (λ x before. (d : End) → x.end ≡ Some d → d.fate ≡ Delivered → Owned P (x ∷ before) d.packet d.router) h
  -- no packet was dropped for an unknown label
  pub labelled : Always (λ x before. (d : End) → x.end ≡ Some d → d.cause ≢ Some UnknownLabel) h
  -- no poll met a stray frame
  pub no_stray : Always (λ x before. (e : ℕ) → x.answer ≢ polled Stray e) h

-- the packets' accounts, after a history that began on the plant v
pub record Accounts {A : Type 0} (P : Plan A) (v : PlantValue) (h : History A) (s : State A) : Type 0 where
  -- those taken in are those delivered, dropped and waiting, by the records
  pub counted : length (taken_in h) ≡ count Delivered s.book + count Dropped s.book + count Waiting s.book
  -- each has one record
  pub recorded : length s.book ≡ length (taken_in h)
  -- each has at most one end
  pub once : (p : ℕ) → length (ends p h) ≤ 1
  -- its record shows its entry, and its end or that it waits
  pub entered : (p : ℕ) (x : Record A) → at s.book p ≡ Some x → Entered P h p x
  pub shown : (p : ℕ) (x : Record A) → at s.book p ≡ Some x → Shows x (ends p h)
  -- one that waits is carried by one frame, one that has ended by none
  pub carried : (p : ℕ) (x : Record A) → at s.book p ≡ Some x → carriers_in p s.plant ≡ one (is_fate Waiting x.fate)
  -- one that was never taken in never ended, and, if nothing waited at the start, is carried by no frame
  pub unknown : (p : ℕ) → length (taken_in h) ≤ p → (ends p h ≡ []) × (total v ≡ 0 → carriers_in p s.plant ≡ 0)

-- the lines, after a history that began on the plant v
pub record Lines {A : Type 0} (v : PlantValue) (h : History A) (s : State A) : Type 0 where
  -- the frames at the start and then those sent are those given and then those waiting, in the same order
  pub in_order : (l : ℕ) → l < v.shape.lines → v.waiting l ++ sent_on l h ≡ given_of l h ++ s.plant.waiting l
  -- the non-idle polls never exceed the summed line spans of the frames sent
  pub bounded : polls h ≤ spans v.shape h
  -- and equal them while nothing waits
  pub spent : total s.plant ≡ 0 → polls h ≡ spans v.shape h

-- what holds after each history
pub record Safe {A : Type 0} (P : Plan A) (v : PlantValue) (h : History A) (s : State A) : Type 0 where
  pub exits : Exits P h
  pub packets : Accounts P v h s
  pub lines : Lines v h s

-- whatever calls follow the start of this plan on this plant
abbrev pub RunsSafe : {A : Type 0} → Plan A → PlantValue → Type 0
RunsSafe {A} P v = (h : History A) (s : State A) → Run P v h s → Safe P v h s

-- over any kind of address: every plan, on every lawful plant
abbrev pub NetworkSafe : Type 0 → Type 0
NetworkSafe A = (P : Plan A) (v : PlantValue) → Lawful v → RunsSafe P v
