-- A network at its start. Assumes nothing.
use Rattle.std.proofs.Common.{◌≡◌, ℕ, ◌<◌, ◌≤◌, Bool, true, false, ◌||◌, ltb, leb, length, get_or, Some, None, Option, sym, refl, ap, subst, ⊎_elim, arith}
use Rattle.std.specs.Bool.{MatchBool}
use Rattle.std.specs.List.{range_with_len, HoldsAt, AllWithin}
use Rattle.std.proofs.lemmas.List.FromFn.{length-range_with_len, get_or-range_with_len}
use Rattle.std.proofs.lemmas.Bool.{cases_eq, cases_lt, lt-ltb, le-ltb, leb-false}
use Rattle.plant.specs.Plants.{PlantValue, total}
use Rattle.plant.proofs.Sums.{sum_zero, sum_none}
use Rattle.lookup.specs.declared.plan.Plan.{Plan}
use Rattle.lookup.specs.Plans.{routers_of}
use Rattle.model.specs.Tables.{first, is_some}
use Rattle.model.specs.History.{is_outside, is_still}
use Rattle.model.proofs.Firsts.{first_none, first_missing}
use Rattle.labels.specs.declared.wiring.Wiring.{Wiring}
use Rattle.labels.specs.Wirings.{Wired, end_of}
use Rattle.labels.proofs.Shapes.{no_end}
use Rattle.network.specs.Networks.{plan_of}

pub busy : (v : PlantValue) (e : ℕ) → e < v.shape.lines → 0 < length (v.waiting e) → true ≡ ltb 0 (total v)
busy v e lt some = sym (lt-ltb 0 (total v) (⊎_elim (λ z. absurd (let none = sum_zero (λ l. length (v.waiting l)) v.shape.lines z e lt in omega arith)) (λ ne. omega arith) (cases_eq (total v) 0)))

pub quiet : (v : PlantValue) → ((e : ℕ) → e < v.shape.lines → length (v.waiting e) ≡ 0) → false ≡ ltb 0 (total v)
quiet v h = sym (le-ltb 0 (total v) (let z = sum_none (λ l. length (v.waiting l)) v.shape.lines h in omega arith))

-- what `any` tells over the first n numbers
pub any_below : (n : ℕ) (Yes No : ℕ → Type 0) (r b : Bool)
    → MatchBool r ((k : ℕ) × (k < length (range_with_len 0 n)) × HoldsAt Yes (range_with_len 0 n) k) (AllWithin No (range_with_len 0 n) 0 (length (range_with_len 0 n)))
    → ((e : ℕ) → e < n → Yes e → true ≡ b) → (((e : ℕ) → e < n → No e) → false ≡ b) → r ≡ b
any_below n Yes No true b h here apart =
    let long = length-range_with_len 0 n in
    let at = get_or-range_with_len 0 n h.0 0 (omega (arith, h.1)) in
    here _ (omega (arith, h.1)) (h.2 0)
any_below n Yes No false b h here apart = apart (λ e lt.
    let long = length-range_with_len 0 n in
    let at : get_or (range_with_len 0 n) e 0 ≡ e = omega (arith, get_or-range_with_len 0 n e 0 lt) in
    subst No at (h e 0 (omega arith) (omega arith)))

module _ (p : ℕ → Bool) (n : ℕ) where
  pub some_first : (e : ℕ) → e < n → p e ≡ true → true ≡ is_some (first p 0 n)
  some_first e lt passes = go (first p 0 n) refl
    where
      go : (o : Option ℕ) → first p 0 n ≡ o → true ≡ is_some o
      go None none = let no = first_none p 0 n none e (omega arith) (omega arith) in cc (passes, no)
      go (Some l) found = refl

  pub none_first : ((e : ℕ) → e < n → p e ≡ false) → false ≡ is_some (first p 0 n)
  none_first none = sym (ap is_some (first_missing p 0 n (λ e _ lt. none e (omega arith))))

-- both parts of a test that fails
or_none : (a b : Bool) → (a || b) ≡ false → (a ≡ false) × (b ≡ false)
or_none true b q = cc
or_none false b q = (refl, q)

not_some : {X : Type 0} (o : Option X) → is_some o ≡ false → o ≡ None
not_some None q = refl
not_some (Some x) q = cc

abbrev lines_out : Plan → PlantValue → Option ℕ
lines_out p v = first (is_outside (plan_of p) v.shape) 0 v.shape.lines

-- of a network that does not stand still, each line ends at a router of the plan
pub inside : (p : Plan) (v : PlantValue) (w : Wiring) → Wired w v.shape → is_still (plan_of p) v ≡ false → (e r : ℕ) → end_of w e ≡ Some r → r < routers_of p
inside p v w wired q e r d = ⊎_elim within beyond (cases_lt e v.shape.lines)
  where
    out : first (is_outside (plan_of p) v.shape) 0 v.shape.lines ≡ None
    out = not_some (lines_out p v) (or_none (is_some (lines_out p v)) (ltb 0 (total v) || ltb v.shape.kept 80) (or_none (plan_of p).void (is_some (lines_out p v) || (ltb 0 (total v) || ltb v.shape.kept 80)) q).1).0

    within : e < v.shape.lines → r < routers_of p
    within lt =
        let to = wired.to e lt in
        let same : r ≡ (v.shape.line e).to = cc (d, to) in
        let here = (or_none (leb (routers_of p) (v.shape.line e).from) (leb (routers_of p) (v.shape.line e).to) (first_none (is_outside (plan_of p) v.shape) 0 v.shape.lines out e (omega arith) (omega arith))).1 in
        let below = leb-false (routers_of p) (v.shape.line e).to here in
        omega arith

    beyond : v.shape.lines ≤ e → r < routers_of p
    beyond le =
        let gone : end_of w e ≡ None = no_end w e (let n = wired.lines in omega arith) in
        cc (d, gone)
