-- A plant whose ports are its lines: its future, from what its calls do to the lists. Assumes nothing.
use Rattle.std.proofs.Common.{◌≡◌, ℕ, ◌≤◌, cond, eqb, ◌≢◌, List, [], ◌∷◌, ◌++◌, length, Ok, Err, Result, sym, refl, ap, ◌∙◌, subst, ap₂, ⊎_elim, arith}
use Rattle.std.proofs.lemmas.Bool.{cases_eq, cond-true, cond-false, eq-eqb, ne_eqb, cases_lt}
use Rattle.std.proofs.lemmas.List.{nil_from_length}
use Rattle.frame.specs.declared.frame.Frame.{Frame}
use Rattle.frame.specs.Frames.{FrameValue, frame_value}
use Rattle.frame.specs.declared.refusal.Refusal.{Refusal}
use Rattle.plant.specs.declared.outcome.Outcome.{Outcome}
use Rattle.plant.specs.declared.outcome.Outcome.TheVariants.{Idle, Moved, Handed}
use Rattle.plant.specs.Plants.{PlantValue, Shape}
use Rattle.plant.specs.Answers.{Joins, Hands, Sends, Polled, Busy}
use Rattle.plant.specs.Futures.{Call, sent, polled, handed, after, after_send, turn_is, stepped, behind, oldest, bottom_value, bottom_future}

-- one list is rewritten, the others stay
one_list : (q r : ℕ → List FrameValue) (f : List FrameValue → List FrameValue) (l : ℕ) → r l ≡ f (q l) → ((k : ℕ) → k ≢ l → r k ≡ q k) → (k : ℕ) → r k ≡ cond (eqb k l) (f (q k)) (q k)
one_list q r f l here others k =
    ⊎_elim (λ e. subst (λ j. r j ≡ f (q j)) (sym e) here ∙ sym (cond-true (eqb k l) (f (q k)) (q k) (eq-eqb k l e)))
    (λ ne. others k ne ∙ sym (cond-false (eqb k l) (f (q k)) (q k) (ne_eqb k l ne))) (cases_eq k l)

module _ (s t : Shape) (q r : ℕ → List FrameValue) where
  same : t ≡ s → (c : Call) → ((k : ℕ) → r k ≡ stepped q c k) → bottom_future t r ≡ after (bottom_future s q) c
  same e c h = ap₂ bottom_future e (λ i k. h k i)

  pub bottom_sent : (l : ℕ) (f : FrameValue) → Joins (bottom_value s q) l f (bottom_value t r) → bottom_future t r ≡ after (bottom_future s q) (sent l f)
  bottom_sent l f j = same j.shape (sent l f) (one_list q r (λ xs. xs ++ (f ∷ [])) l j.here j.others)

  pub bottom_handed : (l : ℕ) (f : FrameValue) → Hands (bottom_value s q) l f (bottom_value t r) → bottom_future t r ≡ after (bottom_future s q) (polled l)
  bottom_handed l f j = same j.shape (polled l) (one_list q r behind l (sym (ap behind j.here)) j.others)

  pub bottom_turn : (l : ℕ) (f : FrameValue) → Hands (bottom_value s q) l f (bottom_value t r) → oldest l (q l) ≡ handed l f
  bottom_turn l f j = ap (oldest l) j.here

pub bottom_idle : (s : Shape) (q : ℕ → List FrameValue) (l : ℕ) → q l ≡ [] → bottom_future s q ≡ after (bottom_future s q) (polled l)
bottom_idle s q l e = same s s q q refl (polled l) (one_list q q behind l (e ∙ sym (ap behind e)) (λ k ne. refl))

-- what a plant that answers at port p with line p owes, from what every plant owes
abbrev pub Straight : Outcome → ℕ → ℕ → Type 0
Straight Idle l port = Unit {0}
Straight Moved l port = ⊥
Straight Handed l port = l ≡ port

module _ (s t : Shape) (q r : ℕ → List FrameValue) where
  pub bottom_sends : (l : ℕ) (f : FrameValue) (a : Result (Unit {0}) Refusal) → Sends (bottom_value s q) l f a (bottom_value t r) → bottom_future t r ≡ after_send l f a (bottom_future s q)
  bottom_sends l f (Ok u) h = bottom_sent s t q r l f h.1
  bottom_sends l f (Err e) h = ap₂ bottom_future (ap (λ (v : PlantValue). v.shape) h.1) (ap (λ (v : PlantValue). v.waiting) h.1)

  module _ (square : s.ports ≡ s.lines) (bare : (k : ℕ) → s.lines ≤ k → q k ≡ []) (port : ℕ) (old new : Frame) where
    none : (Busy (bottom_value s q) port → ⊥) → q port ≡ []
    none h = ⊎_elim (λ lt. nil_from_length (q port) (⊎_elim (λ e. e) (λ ne. absurd (h (omega arith, omega arith))) (cases_eq (length (q port)) 0))) (bare port) (cases_lt port s.lines)

    pub bottom_polls : (o : Outcome) (l : ℕ) → Straight o l port → Polled o (bottom_value s q) port old l new (bottom_value t r)
        → (oldest port (q port) ≡ turn_is o l (frame_value new)) × (bottom_future t r ≡ after (bottom_future s q) (polled port))
    bottom_polls Idle l d h =
        let e = none h.0 in
        (ap (oldest port) e, ap₂ bottom_future (ap (λ (v : PlantValue). v.shape) h.3) (ap (λ (v : PlantValue). v.waiting) h.3) ∙ bottom_idle s q port e)
    bottom_polls Moved l d h = absurd d
    bottom_polls Handed l d h =
        let j = subst (λ n. Hands (bottom_value s q) n (frame_value new) (bottom_value t r)) d h.1 in
        (bottom_turn s t q r port (frame_value new) j ∙ ap (λ n. handed n (frame_value new)) (sym d), bottom_handed s t q r port (frame_value new) j)
