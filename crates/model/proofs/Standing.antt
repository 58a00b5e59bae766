-- A network that stands still is safe after each history. Assumes nothing.
use Rattle.std.proofs.Common.{◌≡◌, ℕ, ◌<◌, true, [], ◌∷◌, ◌++◌, length, sym, refl, ap, ◌∙◌, subst, append-nil, arith}
use Rattle.std.proofs.lemmas.List.{nil_from_length}
use Rattle.plant.specs.Plants.{PlantValue, total}
use Rattle.plant.proofs.Sums.{sum_zero, sum_none}
use Rattle.model.specs.Calls.{Plan, State}
use Rattle.model.specs.History.{Event, History, fresh_state, is_still, Stands, Goes, Run, start, next, injected, taken_in, end_of, ends, sent_on, given_of, on_line, polls, non_idle, spans, span_of}
use Rattle.model.specs.Promises.{carriers, Exits, Safe}
use Rattle.model.proofs.Reached.{exits_next}

pub nothing_waits : (v : PlantValue) → total v ≡ 0 → (e : ℕ) → e < v.shape.lines → v.waiting e ≡ []
nothing_waits v z e le = nil_from_length (v.waiting e) (sum_zero (λ l. length (v.waiting l)) v.shape.lines z e le)

-- nothing has happened
record Standing {A : Type 0} (P : Plan A) (v : PlantValue) (h : History A) (s : State A) : Type 0 where
  state : s ≡ fresh_state v
  taken : taken_in h ≡ []
  ends_none : (p : ℕ) → ends p h ≡ []
  sent_none : (l : ℕ) → sent_on l h ≡ []
  given_none : (l : ℕ) → given_of l h ≡ []
  polls_none : polls h ≡ 0
  spans_none : spans v.shape h ≡ 0
  exits : Exits P h

module _ {A : Type 0} (P : Plan A) (v : PlantValue) where
  standing_next : {h : History A} {s : State A} → Standing P v h s → {event : Event A} {s' : State A} → Stands s event s'
      → Standing P v (event ∷ h) s'
  standing_next {h = h} m {event = event} t = record {
    state = t.state ∙ m.state;
    taken = ap (λ z. taken_in h ++ injected event.call z) t.answered ∙ append-nil (taken_in h) ∙ m.taken;
    ends_none = λ p. ap (λ z. ends p h ++ end_of p z) t.ended ∙ append-nil (ends p h) ∙ m.ends_none p;
    sent_none = λ l. ap (λ z. sent_on l h ++ on_line l z) t.sent ∙ append-nil (sent_on l h) ∙ m.sent_none l;
    given_none = λ l. ap (λ z. given_of l h ++ on_line l z) t.given ∙ append-nil (given_of l h) ∙ m.given_none l;
    polls_none = omega (arith, m.polls_none, ap non_idle t.answered);
    spans_none = omega (arith, m.spans_none, ap (span_of v.shape) t.sent);
    exits = exits_next P h event m.exits (λ d e. cc (t.ended, e)) (λ d e. cc (t.ended, e)) (λ e c. cc (t.answered, c));
  }

  standing_run : is_still P v ≡ true → (h : History A) (s : State A) → Run P v h s → Standing P v h s
  standing_run st h s start = record {
    state = refl;
    taken = refl;
    ends_none = λ _. refl;
    sent_none = λ _. refl;
    given_none = λ _. refl;
    polls_none = refl;
    spans_none = refl;
    exits = record { home = tt; labelled = tt; no_stray = tt };
  }
  standing_run st h s (next {h = h₀} {s = s₀} {event = x} r g l) =
      standing_next (standing_run st h₀ s₀ r) (subst (λ b. Goes b P s₀ x s) st g)

  pub standing_safe : is_still P v ≡ true → (h : History A) (s : State A) → Run P v h s → Safe P v h s
  standing_safe st h s run =
      let m = standing_run st h s run in
      subst (Safe P v h) (sym m.state) (record {
        exits = m.exits;
        packets = record {
          counted = ap length m.taken;
          recorded = sym (ap length m.taken);
          once = λ p. omega (arith, ap length (m.ends_none p));
          entered = λ p x e. absurd (cc);
          shown = λ p x e. absurd (cc);
          carried = λ p x e. absurd (cc);
          unknown = λ p _.
              (m.ends_none p, λ z. sum_none (λ l. carriers p (v.waiting l)) v.shape.lines (λ l le. ap (carriers p) (nothing_waits v z l le)));
        };
        lines = record {
          in_order = λ l _. ap (λ z. v.waiting l ++ z) (m.sent_none l) ∙ append-nil (v.waiting l)
              ∙ ap (λ z. z ++ v.waiting l) (sym (m.given_none l));
          bounded = omega (arith, m.polls_none, m.spans_none);
          spent = λ _. omega (arith, m.polls_none, m.spans_none);
        };
      })
