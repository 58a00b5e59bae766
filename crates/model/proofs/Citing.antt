-- How a program shows that its calls are the network's, and that its runs are safe. Assumes nothing.
use Rattle.std.proofs.Common.{◌≡◌, ℕ, Bool, true, false, ◌∷◌, Some, None, Option, sym, refl, ap, ◌∙◌, subst}
use Rattle.frame.specs.declared.frame.Frame.{Frame}
use Rattle.frame.specs.Frames.{FrameValue, frame_value}
use Rattle.plant.specs.Plants.{PlantValue, Lawful}
use Rattle.plant.specs.declared.outcome.Outcome.{Outcome}
use Rattle.plant.specs.declared.outcome.Outcome.TheVariants.{Idle, Moved, Handed}
use Rattle.plant.specs.Answers.{Polled}
use Rattle.plant.specs.Futures.{Turn, idle, turn_is}
use Rattle.model.specs.Packets.{settle}
use Rattle.model.specs.Calls.{Plan, State, Call, own, route, inject, tell, poll, Answer, refused, Effect, only, unless, refusal, polling, act, effect}
use Rattle.model.specs.History.{Event, History, Turns, port_of, Serves, given_by, Sending, Takes, with_plant, Goes, Did, is_still, Run, next}

-- a poll of the plant came to a turn
pub polled_turns : (o : Outcome) (v : PlantValue) (p : ℕ) (old : Frame) (l : ℕ) (new : Frame) (w : PlantValue) → Polled o v p old l new w
    → Turns v p (turn_is o l (frame_value new)) w
polled_turns Idle v p old l new w g = (g.0, g.3)
polled_turns Moved v p old l new w g = (g.0, g.3)
polled_turns Handed v p old l new w g = g

module _ {A : Type 0} (P : Plan A) (s : State A) where
  -- a call took its effect k
  pub did : (c : Call A) (t : Turn) (v : PlantValue) → Serves (port_of c) s.plant t v
      → (k : Effect A) → effect P s.plant.shape c t (with_plant v s) ≡ k
      → (s' : State A) → s'.tables ≡ k.tables → s'.book ≡ settle k.end k.book
      → (sent : Option (ℕ × FrameValue)) → Sending v k.send sent s'.plant → Did false P s c k.answer s'
  did c t v g k e s' a b sent z =
      let x : Event A = record { call = c; answer = k.answer; given = given_by t; sent = sent; end = k.end } in
      let y : Takes v k x s' = record { answered = refl; ended = refl; tables = a; book = b; plant = z } in
      (x, refl, refl, record { turn = t; left = v; served = g; given = refl; takes = subst (λ u. Takes v u x s') (sym e) y })

  -- a call was refused
  pub did_refused : (c : Call A) (n : ℕ) → refusal P s.plant.shape c s ≡ Some n → Did false P s c (refused n) s
  did_refused c n e =
      did c idle s.plant (unpolled c e) (only (refused n) s) (ap (λ o. unless o s (act P s.plant.shape c idle s)) e)
      s refl refl None (refl, refl)
    where
      unpolled : (c : Call A) → refusal P s.plant.shape c s ≡ Some n → Serves (port_of c) s.plant idle s.plant
      unpolled (own r f b) e = (refl, refl)
      unpolled (route r f h) e = (refl, refl)
      unpolled (inject r a ttl) e = (refl, refl)
      unpolled (tell l) e = (refl, refl)
      unpolled (poll p) e = absurd (cc)

  -- a call that polls no port, and was not refused, did what it does
  pub did_act : (c : Call A) → port_of c ≡ None → refusal P s.plant.shape c s ≡ None
      → (k : Effect A) → act P s.plant.shape c idle s ≡ k → (s' : State A)
      → s'.tables ≡ k.tables → s'.book ≡ settle k.end k.book
      → (sent : Option (ℕ × FrameValue)) → Sending s.plant k.send sent s'.plant → Did false P s c k.answer s'
  did_act c o e k ek s' a b sent z =
      did c idle s.plant (subst (λ i. Serves i s.plant idle s.plant) (sym o) (refl, refl)) k
      (ap (λ i. unless i s (act P s.plant.shape c idle s)) e ∙ ek) s' a b sent z

  -- a poll for which the plant took a turn
  pub did_poll : (p : ℕ) (t : Turn) (v : PlantValue) → Turns s.plant p t v
      → (k : Effect A) → polling P s.plant.shape t (with_plant v s) ≡ k → (s' : State A)
      → s'.tables ≡ k.tables → s'.book ≡ settle k.end k.book
      → (sent : Option (ℕ × FrameValue)) → Sending v k.send sent s'.plant → Did false P s (poll p) k.answer s'
  did_poll p t v g k e s' a b sent z = did (poll p) t v g k e s' a b sent z

  -- a network that stands still refuses with 22
  pub did_stand : (c : Call A) → Did true P s c (refused 22) s
  did_stand c = (
    record { call = c; answer = refused 22; given = None; sent = None; end = None },
    refl,
    refl,
    record { answered = refl; given = refl; sent = refl; ended = refl; state = refl },
  )

-- a call that did what it says goes on from any run
pub did_runs : {A : Type 0} (P : Plan A) (v : PlantValue) (h : History A) (s : State A) (still : Bool) (c : Call A) (a : Answer) (s' : State A)
    → Run P v h s → is_still P v ≡ still → Did still P s c a s' → Lawful s'.plant
    → (x : Event A) × (x.call ≡ c) × (x.answer ≡ a) × Run P v (x ∷ h) s'
did_runs P v h s still c a s' r e d l = (d.0, d.1, d.2, next r (subst (λ b. Goes b P s d.0 s') (sym e) d.3) l)
