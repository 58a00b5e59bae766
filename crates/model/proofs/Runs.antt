-- Every run is safe. Assumes nothing.
use Rattle.std.proofs.Common.{◌≡◌, ℕ, suc, ◌≤◌, false, ltb, List, [], ◌∷◌, map, length, Some, None, Option, sym, refl, ap, ◌∙◌, subst, inl, inr, arith}
use Rattle.std.proofs.lemmas.Bool.{cases_Bool, ltb-false, or_parts}
use Rattle.std.proofs.lemmas.Option.{slice_get_past}
use Rattle.plant.specs.Plants.{PlantValue, Lawful, total, sum_to}
use Rattle.plant.proofs.Sums.{sum_same, sum_none}
use Rattle.model.specs.Tables.{first, is_some}
use Rattle.model.specs.Packets.{Record, End, at}
use Rattle.model.specs.Calls.{Plan, State}
use Rattle.model.specs.History.{History, Step, fresh_state, is_outside, is_still, Goes, Run, start, next, taken_in, ends}
use Rattle.model.specs.Promises.{carriers, carriers_in, Safe, NetworkSafe}
use Rattle.model.proofs.Logical.{Item, mapping, withdraw, release, packet, note, good, wire}
use Rattle.model.proofs.Lists.{hit_tells}
use Rattle.model.proofs.Books.{alive, counts}
use Rattle.model.proofs.Carried.{loads}
use Rattle.model.proofs.Order.{Ordered, ordered_start, ordered_next}
use Rattle.model.proofs.Told.{closed_shows, Tells}
use Rattle.model.proofs.Reached.{Reached, step_reached}
use Rattle.model.proofs.Standing.{nothing_waits, standing_safe}

carriers_wire : (p : ℕ) (xs : List Item) → carriers p (map wire xs) ≡ loads p xs
carriers_wire p [] = refl
carriers_wire p (note (mapping f l) ∷ xs) = omega (arith, carriers_wire p xs)
carriers_wire p (note (withdraw f l) ∷ xs) = omega (arith, carriers_wire p xs)
carriers_wire p (good (release f l) ∷ xs) = omega (arith, carriers_wire p xs)
carriers_wire p (good (packet o l t) ∷ xs) = omega (arith, carriers_wire p xs)

-- a network that runs
module _ {A : Type 0} (P : Plan A) (v : PlantValue) (lawful : Lawful v) (st : is_still P v ≡ false) where
  tests : (ltb 0 (total v) ≡ false) × (ltb v.shape.kept 80 ≡ false)
  tests = or_parts (ltb 0 (total v)) (ltb v.shape.kept 80)
      (or_parts (is_some (first (is_outside P v.shape) 0 v.shape.lines)) _ (or_parts P.void _ st).1).1

  empty : total v ≡ 0
  empty = omega (arith, ltb-false 0 (total v) tests.0)

  kept : 80 ≤ v.shape.kept
  kept = ltb-false v.shape.kept 80 tests.1

  first_reached : Reached P v.shape [] (fresh_state v)
  first_reached = record {
    q = λ _. [];
    inv = record {
      shape = refl;
      carries = nothing_waits v empty;
      wired = record {
        links = λ e le. record {
          fit = λ l. omega arith;
          tells = λ f. (0, refl, λ l b. omega arith, λ l a. omega arith);
          noted = λ f l c. omega arith;
          loaded = λ f l c. omega arith;
          owed = λ f l c. omega arith;
          once = λ l. refl;
          backed = tt;
        };
        single = λ r l j f e₁ e₂. absurd (cc);
        ranged = λ r l. tt;
        hops = λ r f e c. absurd (cc);
      };
      carried = λ p. omega (arith, sum_none (λ _. 0) v.shape.lines (λ _ _. refl), hit_tells (suc p) 0);
      known = λ p x e _. absurd (cc);
    };
    owners = λ r f. refl;
    taken = refl;
    told = λ p. refl;
    exits = record { home = tt; labelled = tt; no_stray = tt };
  }

  runs : (h : History A) (s : State A) → Run P v h s → Reached P v.shape h s × Ordered v h s × Lawful s.plant
  runs h s start = (first_reached, ordered_start v (fresh_state v) refl, lawful)
  runs h s (next {h = h₀} {s = s₀} {event = x} r g l) =
      let m = runs h₀ s₀ r in
      let t : Step P s₀ x s = subst (λ b. Goes b P s₀ x s) st g in
      (step_reached m.0 lawful.shape kept t, ordered_next P v h₀ s₀ x s m.1 t, l)

  run_safe : (h : History A) (s : State A) → Run P v h s → Safe P v h s
  run_safe h s run =
      let g = runs h s run in
      let m = g.0 in
      let o = g.1 in
      let t : (p : ℕ) (x : Record A) → at s.book p ≡ Some x → Tells P p (Some x) (taken_in h) (ends p h)
      = λ p x e. rw e at (m.told p) in
      let c : (p : ℕ) → carriers_in p s.plant ≡ alive (at s.book p)
      = λ p. ap (λ z. sum_to z.lines (λ l. carriers p (s.plant.waiting l))) o.shape
      ∙ sum_same (λ l. loads p (m.q l)) (λ l. carriers p (s.plant.waiting l)) v.shape.lines
      (λ l le. ap (carriers p) (m.inv.carries l le) ∙ carriers_wire p (m.q l))
      ∙ omega (arith, m.inv.carried p, hit_tells (suc p) 0) in
      record {
        exits = m.exits;
        packets = record {
          counted = m.taken ∙ counts s.book;
          recorded = sym m.taken;
          once = λ p. once p (at s.book p) (ends p h) (m.told p);
          entered = λ p x e. record { number = (t p x e).0; entry = (t p x e).1; fec = (t p x e).2 };
          shown = λ p x e. (closed_shows x (ends p h) (t p x e).3).0;
          carried = λ p x e. c p ∙ ap alive e;
          unknown = λ p le.
              let none = slice_get_past s.book p (omega (arith, m.taken)) in (rw none at (m.told p), λ _. c p ∙ ap alive none);
        };
        lines = record {
          in_order = λ l _. o.lists l;
          bounded = omega (arith, o.hops, lawful.rest empty);
          spent = λ z. omega (arith, o.hops, lawful.rest empty, g.2.rest z);
        };
      }
    where
      once : (p : ℕ) (x : Option (Record A)) (es : List End) → Tells P p x (taken_in h) es → length es ≤ 1
      once p None es c = omega (arith, ap length c)
      once p (Some x) es c = (closed_shows x es c.3).1

pub network_safe : (A : Type 0) → NetworkSafe A
network_safe A P v lawful h s run = elim (cases_Bool (is_still P v)) [
  | inl st ↦ standing_safe P v st h s run
  | inr st ↦ run_safe P v lawful st h s run
]
