-- Frames leave a line in the order they came, and each non-idle poll is paid for by a span: from what a plant answers alone. Assumes
-- nothing.
use Rattle.std.proofs.Common.{◌≡◌, ℕ, ◌+◌, List, [], ◌∷◌, ◌++◌, Some, None, Ok, Err, Option, Result, sym, refl, ap, ◌∙◌, subst, inl, inr, append-nil, arith}
use Rattle.std.proofs.lemmas.Bool.{cases_eq}
use Rattle.std.proofs.lemmas.Bool.Decides.{nat_tests}
use Rattle.std.proofs.lemmas.Grind.{common_steps}
use Rattle.frame.specs.declared.refusal.Refusal.{Refusal}
use Rattle.frame.specs.Frames.{FrameValue}
use Rattle.plant.specs.Plants.{Shape, PlantValue}
use Rattle.plant.specs.Answers.{Sends, Joins}
use Rattle.plant.specs.Futures.{Turn, idle, moved, handed}
use Rattle.model.specs.Calls.{Plan, State, Call, refused, Effect, only, unless, effect}
use Rattle.model.specs.History.{Event, History, Turns, port_of, Serves, given_by, accepted, Sending, Step, with_plant, sent_on, given_of, polls, spans, on_line, span_of, non_idle}

pub unless_both : {A : Type 0} (o : Option ℕ) (s : State A) (k : Effect A) (Q : Effect A → Type 0)
    → ((n : ℕ) → o ≡ Some n → Q (only (refused n) s)) → (o ≡ None → Q k) → Q (unless o s k)
unless_both None s k Q a b = b refl
unless_both (Some n) s k Q a b = a n refl

-- what the plant accepted has joined its line
record Accepted (v w : PlantValue) (sent : Option (ℕ × FrameValue)) : Type 0 where
  shape : w.shape ≡ v.shape
  lists : (l : ℕ) → w.waiting l ≡ v.waiting l ++ on_line l sent
  hops : w.hops ≡ v.hops + span_of v.shape sent

unsent : (v w : PlantValue) (sent : Option (ℕ × FrameValue)) → w ≡ v → sent ≡ None → Accepted v w sent
unsent v w sent e n = record {
  shape = ap (λ z. z.shape) e;
  lists = λ l. ap (λ z. z.waiting l) e ∙ sym (append-nil (v.waiting l)) ∙ ap (λ z. v.waiting l ++ on_line l z) (sym n);
  hops = omega (arith, ap (λ z. z.hops) e, ap (span_of v.shape) n);
}

-- the frame x, if line e is l
on_this : (l e : ℕ) (x : FrameValue) → e ≡ l → on_line l (Some (e, x)) ≡ x ∷ []
on_this l e x u = grind (arith, nat_tests)

on_other : (l e : ℕ) (x : FrameValue) → (e ≡ l → ⊥) → on_line l (Some (e, x)) ≡ []
on_other l e x n = grind (arith, nat_tests)

joined : (v w : PlantValue) (e : ℕ) (x : FrameValue) (sent : Option (ℕ × FrameValue)) → Joins v e x w → sent ≡ Some (e, x) → Accepted v w sent
joined v w e x sent j s = record {
  shape = j.shape;
  lists = λ l. (elim (cases_eq e l) [
    | inl u ↦ ap w.waiting (sym u) ∙ j.here ∙ ap (λ i. v.waiting i ++ x ∷ []) u ∙ ap (λ z. v.waiting l ++ z) (sym (on_this l e x u))
    | inr n ↦ j.others l (λ u. n (sym u)) ∙ sym (append-nil (v.waiting l)) ∙ ap (λ z. v.waiting l ++ z) (sym (on_other l e x n))
  ])
      ∙ ap (λ z. v.waiting l ++ on_line l z) (sym s);
  hops = omega (arith, j.hops, ap (span_of v.shape) s);
}

sending : (v w : PlantValue) (send sent : Option (ℕ × FrameValue)) → Sending v send sent w → Accepted v w sent
sending v w None sent k = unsent v w sent k.0 k.1
sending v w (Some x) sent k = go k.0 k.1 k.2
  where
    go : (r : Result (Unit {0}) Refusal) → Sends v x.0 x.1 r w → sent ≡ accepted r x → Accepted v w sent
    go (Ok u) j s = joined v w x.0 x.1 sent j.1 s
    go (Err n) j s = unsent v w sent j.1 s

-- a turn that was not idle is one poll
abbrev pace : Turn → ℕ
pace idle = 0
pace moved = 1
pace (handed e x) = 1

-- what a turn handed out has left its line, and a turn that was not idle took a hop
record Gave (v w : PlantValue) (t : Turn) : Type 0 where
  shape : w.shape ≡ v.shape
  lists : (l : ℕ) → v.waiting l ≡ on_line l (given_by t) ++ w.waiting l
  hops : w.hops + pace t ≡ v.hops

gave_nothing : (v w : PlantValue) → w ≡ v → Gave v w idle
gave_nothing v w e = record { shape = ap (λ z. z.shape) e; lists = λ l. ap (λ z. z.waiting l) (sym e); hops = omega (arith, ap (λ z. z.hops) e) }

turned : (v w : PlantValue) (p : ℕ) (t : Turn) → Turns v p t w → Gave v w t
turned v w p idle g = gave_nothing v w g.1
turned v w p moved g = record { shape = g.1.shape; lists = λ l. sym (g.1.lists l); hops = g.1.hops }
turned v w p (handed e x) g = let j = g.1 in record {
  shape = j.shape;
  lists = λ l. elim (cases_eq e l) [
    | inl u ↦ ap v.waiting (sym u) ∙ j.here ∙ ap (λ i. x ∷ w.waiting i) u ∙ ap (λ z. z ++ w.waiting l) (sym (on_this l e x u))
    | inr n ↦ sym (j.others l (λ u. n (sym u))) ∙ ap (λ z. z ++ w.waiting l) (sym (on_other l e x n))
  ];
  hops = j.hops;
}

-- a plant that is not polled takes no turn
unpolled : (v w : PlantValue) (o : Option ℕ) (t : Turn) → Serves o v t w → o ≡ None → t ≡ idle
unpolled v w None t g e = g.0
unpolled v w (Some p) t g e = cc

served : (v w : PlantValue) (o : Option ℕ) (t : Turn) → Serves o v t w → Gave v w t
served v w None t g = subst (Gave v w) (sym g.0) (gave_nothing v w g.1)
served v w (Some p) t g = turned v w p t g

line_order : {X : Type 0} (a b c d e f g x : List X) → a ++ b ≡ c ++ d → d ≡ e ++ f → g ≡ f ++ x → a ++ (b ++ x) ≡ (c ++ e) ++ g
line_order a b c d e f g x u v w = grind (arith, common_steps)

module _ {A : Type 0} where
  -- a call answers as its turn was paid
  abbrev Pace : ℕ → Effect A → Type 0
  Pace n k = non_idle k.answer ≡ n

  call_pace : (P : Plan A) (S : Shape) (c : Call A) (t : Turn) (s : State A) → (port_of c ≡ None → t ≡ idle) → Pace (pace t) (effect P S c t s)
  call_pace P S c t s e = grind arith

  -- since the start, on the plant v: the same lines, every frame in its order, and every hop paid for
  pub record Ordered (v : PlantValue) (h : History A) (s : State A) : Type 0 where
    pub shape : s.plant.shape ≡ v.shape
    pub lists : (l : ℕ) → v.waiting l ++ sent_on l h ≡ given_of l h ++ s.plant.waiting l
    pub hops : polls h + s.plant.hops ≡ spans v.shape h + v.hops

  pub ordered_start : (v : PlantValue) (s : State A) → s.plant ≡ v → Ordered v [] s
  ordered_start v s e = record {
    shape = ap (λ z. z.shape) e;
    lists = λ l. append-nil (v.waiting l) ∙ ap (λ z. z.waiting l) (sym e);
    hops = omega (arith, ap (λ z. z.hops) e);
  }

  pub ordered_next : (P : Plan A) (v : PlantValue) (h : History A) (s : State A) (event : Event A) (s' : State A) → Ordered v h s → Step P s event s'
      → Ordered v (event ∷ h) s'
  ordered_next P v h s event s' o t =
      let S = s.plant.shape in
      let w = t.left in
      let k : Effect A = effect P S event.call t.turn (with_plant w s) in
      let a = sending w s'.plant k.send event.sent t.takes.plant in
      let g = served s.plant w (port_of event.call) t.turn t.served in
      let n : non_idle event.answer ≡ pace t.turn
      = ap non_idle t.takes.answered ∙ call_pace P S event.call t.turn (with_plant w s) (unpolled s.plant w (port_of event.call) t.turn t.served) in
      let sh : w.shape ≡ v.shape = g.shape ∙ o.shape in
      record {
        shape = a.shape ∙ sh;
        lists = λ l. line_order (v.waiting l) (sent_on l h) (given_of l h) (s.plant.waiting l) (on_line l event.given) (w.waiting l)
            (s'.plant.waiting l) (on_line l event.sent)
            (o.lists l) (g.lists l ∙ ap (λ z. on_line l z ++ w.waiting l) (sym t.given)) (a.lists l);
        hops = omega (arith, a.hops, g.hops, o.hops, n, ap (λ z. span_of z event.sent) sh);
      }
