-- What a sound effect is, and that a packet in hand is dealt with soundly. Assumes the laws of a plant's lines, and that labels under 80
-- can be sent.
use Rattle.std.proofs.Common.{◌≡◌, ℕ, suc, ◌-◌, ◌<◌, ◌≤◌, Bool, true, false, cond, leb, ◌≢◌, List, [], ◌∷◌, ◌++◌, length, Some, None, Option, sym, refl, ap, ◌∙◌, subst, append-nil, arith}
use Rattle.std.proofs.lemmas.Bool.{cond_both, lt-leb}
use Rattle.frame.specs.Frames.{FrameValue}
use Rattle.plant.specs.Plants.{Shape, ShapeLaws, PlantValue}
use Rattle.model.specs.declared.cause.Cause.{Cause}
use Rattle.model.specs.declared.cause.Cause.TheVariants.{UnknownLabel, TtlSpent, LeavingLabel, NoNextHop, NoRemoteLabel, NoRoom}
use Rattle.model.specs.declared.fate.Fate.{Fate}
use Rattle.model.specs.declared.fate.Fate.TheVariants.{Waiting, Delivered, Dropped}
use Rattle.model.specs.declared.met.Met.TheVariants.{Stray}
use Rattle.model.specs.Tables.{Tables, Status, free, bound, leaving, put, fec_of, the}
use Rattle.model.specs.Packets.{Record, End, at, settle, is_fate, is_full, Verdict, deliver, drop, forward, along, onward, handle, by_status}
use Rattle.model.specs.Calls.{Plan, State, Call, Answer, polled, Effect, retabled, send_by, end_by, deal}
use Rattle.model.specs.History.{Sending, is_done, owned_by, injected}
use Rattle.model.specs.Promises.{one}
use Rattle.model.proofs.Logical.{Item, packet, good}
use Rattle.model.proofs.Views.{phase_of}
use Rattle.model.proofs.Arrivals.{packet_sent, remote_range}
use Rattle.model.proofs.Books.{alive, fec_in, fec_by}
use Rattle.model.proofs.State.{joins, Inv, in_hand, ended_keeps, forwarded_keeps}
use Rattle.model.proofs.Told.{newcomers}

waits_one : (o : Fate) → one (is_fate Waiting o) ≡ 1 → is_fate Waiting o ≡ true
waits_one o e = grind arith

module _ {A : Type 0} (P : Plan A) (S : Shape) where
  -- the packet that ends was waiting; its end is an end, not for an unknown label, and if it is delivered then at an owner of its FEC
  pub record Closing (o : ℕ → ℕ → Bool) (b : List (Record A)) (d : End) : Type 0 where
    pub packet : Record A
    pub found : at b d.packet ≡ Some packet
    pub waited : is_fate Waiting packet.fate ≡ true
    pub ends : is_fate Waiting d.fate ≡ false
    pub labelled : d.cause ≢ Some UnknownLabel
    pub home : d.fate ≡ Delivered → (f : ℕ) × (packet.fec ≡ Some f) × (o d.router f ≡ true)

  abbrev pub Closes : (ℕ → ℕ → Bool) → List (Record A) → Option End → Type 0
  Closes o b None = Unit {0}
  Closes o b (Some d) = Closing o b d

  -- the network is in step, whatever the plant answers to what is sent
  abbrev pub Settled : PlantValue → Tables → List (Record A) → Option (ℕ × FrameValue) → Option End → Type 0
  Settled v t b send end = (sent : Option (ℕ × FrameValue)) (w : PlantValue) → Sending v send sent w
      → (q : ℕ → List Item) × Inv S P.fecs (record { tables = t; book = settle end b; plant = w }) q 0

  -- what the effect k of a call leaves, on a plant v
  pub record Sound (call : Call A) (s : State A) (v : PlantValue) (k : Effect A) : Type 0 where
    pub marks : (r f : ℕ) → k.tables.owner r f ≡ owned_by call (is_done k.answer) r f (s.tables.owner r f)
    pub came : k.book ≡ s.book ++ newcomers P (length s.book) (injected call k.answer)
    pub closes : Closes k.tables.owner k.book k.end
    pub no_stray : (e : ℕ) → k.answer ≢ polled Stray e
    pub after : Settled v k.tables k.book k.send k.end

  -- nothing is sent
  unsent : (t : Tables) (b : List (Record A)) (v : PlantValue) (q : ℕ → List Item) → Inv S P.fecs (record { tables = t; book = b; plant = v }) q 0
      → Settled v t b None None
  unsent t b v q k sent w h = (q, subst (λ z. Inv S P.fecs (record { tables = t; book = b; plant = z }) q 0) (sym h.0) k)

  -- no packet came or went
  pub retabled_sound : (call : Call A) (s : State A) (v : PlantValue) (q : ℕ → List Item) (a : Answer) (t : Tables)
      → Inv S P.fecs (record { tables = t; book = s.book; plant = v }) q 0
      → ((r f : ℕ) → t.owner r f ≡ owned_by call (is_done a) r f (s.tables.owner r f)) → injected call a ≡ [] → ((e : ℕ) → a ≢ polled Stray e)
      → Sound call s v (retabled a t s)
  retabled_sound call s v q a t k m c n = record {
    marks = m;
    came = sym (ap (λ ys. s.book ++ newcomers P (length s.book) ys) c ∙ append-nil s.book);
    closes = tt;
    no_stray = n;
    after = unsent t s.book v q k;
  }

  -- packet p is in hand, and the network else in step
  pub record InHand (s : State A) (p : ℕ) : Type 0 where
    pub q : ℕ → List Item
    pub packet : Record A
    pub inv : Inv S P.fecs s q (suc p)
    pub found : at s.book p ≡ Some packet

  -- what router r does with it, at this TTL, is sound
  pub record Dealt (s : State A) (p r ttl : ℕ) (y : Verdict) : Type 0 where
    pub closes : Closes s.tables.owner s.book (end_by r p y)
    pub after : Settled s.plant s.tables s.book (send_by p ttl y) (end_by r p y)

  pub deal_sound : {s : State A} {p r ttl : ℕ} {y : Verdict} (a : Answer) (call : Call A) (s₀ : State A)
      → ((r f : ℕ) → s.tables.owner r f ≡ owned_by call (is_done a) r f (s₀.tables.owner r f))
      → s.book ≡ s₀.book ++ newcomers P (length s₀.book) (injected call a) → ((e : ℕ) → a ≢ polled Stray e) → Dealt s p r ttl y
      → Sound call s₀ s.plant (deal a r p ttl y s)
  deal_sound a call s₀ m c n d = record { marks = m; came = c; closes = d.closes; no_stray = n; after = d.after }

-- a packet in hand is dealt with
module _ {A : Type 0} {P : Plan A} {S : Shape} {s : State A} {p : ℕ} (m : InHand P S s p) where
  pub waits_still : is_fate Waiting m.packet.fate ≡ true
  waits_still = waits_one m.packet.fate (sym (ap alive m.found) ∙ in_hand m.inv)

  -- the packet ends here
  ending : (d : End) → d.packet ≡ p → is_fate Waiting d.fate ≡ false → Settled P S s.plant s.tables s.book None (Some d)
  ending d dp z = unsent P S s.tables (settle (Some d) s.book) s.plant m.q (ended_keeps m.inv d dp z)

  pub dropping : (r ttl : ℕ) (c : Cause) → Some c ≢ Some UnknownLabel → Dealt P S s p r ttl (drop c)
  dropping r ttl c n = record {
    closes = record { packet = m.packet; found = m.found; waited = waits_still; ends = refl; labelled = n; home = λ e. absurd (cc) };
    after = ending (record { packet = p; fate = Dropped; router = r; cause = Some c }) refl refl;
  }

  module _ (law : ShapeLaws S) (kept : 80 ≤ S.kept) (r ttl f : ℕ) (xf : m.packet.fec ≡ Some f) where
    abbrev Fine : Verdict → Type 0
    Fine y = Dealt P S s p r ttl y

    delivering : s.tables.owner r f ≡ true → Fine deliver
    delivering o = record {
      closes = record { packet = m.packet; found = m.found; waited = waits_still; ends = refl; labelled = λ e. cc; home = λ e. (f, xf, o) };
      after = ending (record { packet = p; fate = Delivered; router = r; cause = None }) refl refl;
    }

    forwarding : (e l : ℕ) → e < S.lines → s.tables.remote e f ≡ Some l → is_full s.plant e ≡ false → Fine (forward e l)
    forwarding e l le rm fl = record {
      closes = tt;
      after = λ sent w h.
          let y : Item = good (packet p l (ttl - 1)) in
          let small = remote_range m.inv.wired le f l rm in
          let j = joins y m.inv.shape le fl (lt-leb S.kept l (omega (arith, small)), law.depth_least) h in
          let same : fec_by s.book p ≡ f = ap fec_in m.found ∙ ap the xf in (
            put m.q e (m.q e ++ y ∷ []),
            forwarded_keeps m.inv e l (ttl - 1) m.found xf le j
                (packet_sent m.inv.wired le p l (ttl - 1) (ap (s.tables.remote e) same ∙ rm)),
          );
    }

    along_dealt : (e : ℕ) → e < S.lines → (o : Option ℕ) → s.tables.remote e f ≡ o → Fine (along s.plant e o)
    along_dealt e le None eo = dropping r ttl NoRemoteLabel (λ z. cc)
    along_dealt e le (Some l) eo =
        cond_both (is_full s.plant e) (drop NoRoom) (forward e l) Fine (λ _. dropping r ttl NoRoom (λ z. cc)) (λ u. forwarding e l le eo u)

    onward_dealt : (o : Option ℕ) → s.tables.hop r f ≡ o → Fine (onward s.tables s.plant f o)
    onward_dealt None eo = dropping r ttl NoNextHop (λ z. cc)
    onward_dealt (Some e) eo = along_dealt e (m.inv.wired.hops r f e eo) (s.tables.remote e f) refl

    pub handle_dealt : Fine (handle s.tables s.plant r f ttl)
    handle_dealt =
        let y : Verdict = onward s.tables s.plant f (s.tables.hop r f) in
        cond_both (leb ttl 1) (drop TtlSpent) (cond (s.tables.owner r f) deliver y) Fine
        (λ _. dropping r ttl TtlSpent (λ z. cc))
        (λ _. cond_both (s.tables.owner r f) deliver y Fine (λ o. delivering o) (λ _. onward_dealt (s.tables.hop r f) refl))

    pub status_dealt : (y : Status) → (phase_of y ≡ 0 → ⊥) → fec_of y ≡ f → Fine (by_status s.tables s.plant r ttl y)
    status_dealt free n g = absurd (n refl)
    status_dealt (leaving j) n g = dropping r ttl LeavingLabel (λ z. cc)
    status_dealt (bound j) n g = rw g handle_dealt
