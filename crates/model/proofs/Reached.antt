-- What holds after each history of a network that runs, and that an event of sound effect keeps it. Assumes the laws of a plant's
-- lines, and that labels under 80 can be sent.
use Rattle.std.proofs.Common.{◌≡◌, ℕ, ◌≤◌, ◌≢◌, List, ◌∷◌, ◌++◌, length, Some, None, Option, sym, ap, ◌∙◌, subst, arith, length-append}
use Rattle.std.proofs.lemmas.List.{length-map}
use Rattle.frame.specs.Frames.{FrameValue}
use Rattle.plant.specs.Plants.{Shape, ShapeLaws, PlantValue}
use Rattle.model.specs.declared.cause.Cause.TheVariants.{UnknownLabel}
use Rattle.model.specs.declared.fate.Fate.TheVariants.{Delivered}
use Rattle.model.specs.declared.met.Met.TheVariants.{Stray}
use Rattle.model.specs.Packets.{End, at, settle}
use Rattle.model.specs.Calls.{Plan, State, Call, polled, Effect, record_of, effect}
use Rattle.model.specs.History.{Event, History, Sending, Takes, Step, with_plant, Incoming, owns, owned_by, is_done, injected, taken_in, end_of, ends}
use Rattle.model.specs.Promises.{Owned, Exits}
use Rattle.model.proofs.Logical.{Item}
use Rattle.model.proofs.Books.{length-settle}
use Rattle.model.proofs.State.{Inv}
use Rattle.model.proofs.Told.{none_or_one, Tells, newcomers, tells_entered, tells_ended, tells_on}
use Rattle.model.proofs.Deals.{Closing, Closes, Sound}
use Rattle.model.proofs.Polls.{sound}

-- one event more
pub exits_next : {A : Type 0} (P : Plan A) (h : History A) (x : Event A) → Exits P h
    → ((d : End) → x.end ≡ Some d → d.fate ≡ Delivered → Owned P (x ∷ h) d.packet d.router)
    → ((d : End) → x.end ≡ Some d → d.cause ≢ Some UnknownLabel) → ((e : ℕ) → x.answer ≢ polled Stray e) → Exits P (x ∷ h)
exits_next P h x m a b c = record { home = (a, m.home); labelled = (b, m.labelled); no_stray = (c, m.no_stray) }

-- what holds after a history
pub record Reached {A : Type 0} (P : Plan A) (S : Shape) (h : History A) (s : State A) : Type 0 where
  pub q : ℕ → List Item
  pub inv : Inv S P.fecs s q 0
  pub owners : (r f : ℕ) → s.tables.owner r f ≡ owns h r f
  pub taken : length (taken_in h) ≡ length s.book
  pub told : (p : ℕ) → Tells P p (at s.book p) (taken_in h) (ends p h)
  pub exits : Exits P h

module _ {A : Type 0} {P : Plan A} {S : Shape} {h : History A} {s : State A} (m : Reached P S h s) where
  new_count : (n : ℕ) (ys : List (Incoming A)) → length (newcomers P n ys) ≡ length ys
  new_count n ys = length-map ys (λ y. record_of P n y.ingress y.address y.ttl)

  -- an event of sound effect
  module _ (call : Call A) {v : PlantValue} {k : Effect A} (snd : Sound P S call s v k) (given sent : Option (ℕ × FrameValue)) where
    abbrev event : Event A
    event = record { call = call; answer = k.answer; given = given; sent = sent; end = k.end }

    abbrev ys : List (Incoming A)
    ys = injected call k.answer

    told₁ : (p : ℕ) → Tells P p (at k.book p) (taken_in (event ∷ h)) (ends p h)
    told₁ p = rw snd.came (tells_entered P s.book (taken_in h) (λ i. ends i h) m.told ys (none_or_one call k.answer) m.taken p)

    told₂ : (o : Option End) → Closes P S k.tables.owner k.book o → (p : ℕ)
        → Tells P p (at (settle o k.book) p) (taken_in (event ∷ h)) (ends p h ++ end_of p o)
    told₂ None c p = tells_on P k.book (taken_in (event ∷ h)) (λ i. ends i h) told₁ p
    told₂ (Some d) c p = tells_ended P k.book (taken_in (event ∷ h)) (λ i. ends i h) told₁ d c.packet c.found c.waited c.ends p

    owners' : (r f : ℕ) → k.tables.owner r f ≡ owns (event ∷ h) r f
    owners' r f = snd.marks r f ∙ ap (owned_by call (is_done k.answer) r f) (m.owners r f)

    closing : (d : End) → k.end ≡ Some d → Closing P S k.tables.owner k.book d
    closing d e = subst (Closes P S k.tables.owner k.book) e snd.closes

    homed : (d : End) → k.end ≡ Some d → d.fate ≡ Delivered → Owned P (event ∷ h) d.packet d.router
    homed d e dl =
        let c = closing d e in
        let x = c.packet in
        let t : Tells P d.packet (Some x) (taken_in (event ∷ h)) (ends d.packet h) = rw c.found at (told₁ d.packet) in
        let f = c.home dl in
        record {
          entry = record { ingress = x.ingress; address = x.address; ttl = x.ttl };
          fec = f.0;
          came = t.1;
          match = sym t.2 ∙ f.1;
          owned = sym (owners' d.router f.0) ∙ f.2;
        }

    reached : {w : PlantValue} → Sending v k.send sent w → Reached P S (event ∷ h) (record { tables = k.tables; book = settle k.end k.book; plant = w })
    reached {w = w} sends = record {
      q = (snd.after sent w sends).0;
      inv = (snd.after sent w sends).1;
      owners = owners';
      taken = omega (
        arith,
        length-append (taken_in h) ys,
        m.taken,
        length-settle k.end k.book,
        ap length snd.came,
        length-append s.book (newcomers P (length s.book) ys),
        new_count (length s.book) ys,
      );
      told = told₂ k.end snd.closes;
      exits = exits_next P h event m.exits homed (λ d e. (closing d e).labelled) snd.no_stray;
    }

  -- the same of any event that takes this effect
  takes_reached : {v : PlantValue} {k : Effect A} {event : Event A} → Sound P S event.call s v k
      → {s' : State A} → Takes v k event s' → Reached P S (event ∷ h) s'
  takes_reached {k = k} {event = event} snd {s' = s'} t =
      let shown : Event A = record event { answer = k.answer; end = k.end } in
      let e : shown ≡ event = sym (λ i. record event { answer = t.answered i; end = t.ended i }) in
      let z : ◌≡◌ {A = State A} (record { tables = k.tables; book = settle k.end k.book; plant = s'.plant }) s'
      = sym (λ i. record s' { tables = t.tables i; book = t.book i }) in
      subst (λ x. Reached P S (x ∷ h) s') e
      (subst (Reached P S (shown ∷ h)) z (reached event.call snd event.given event.sent t.plant))

  pub step_reached : ShapeLaws S → 80 ≤ S.kept → {event : Event A} {s' : State A} → Step P s event s' → Reached P S (event ∷ h) s'
  step_reached law kept {event = event} {s' = s'} t =
      takes_reached (sound P law kept m.inv event.call t.turn t.left t.served)
      (subst (λ z. Takes t.left (effect P z event.call t.turn (with_plant t.left s)) event s') m.inv.shape t.takes)
