use Rattle.std.proofs.Common.{◌≡◌, ℕ, ◌<◌, Bool, true, false, ltb, ◌≢◌, length, get_or, Some, None, Option, sym, refl, ap, ◌∙◌, subst, rules, tests, arith}
use Rattle.std.proofs.lemmas.Bool.{cond-true, lt-ltb}
use Rattle.std.specs.Prelude.{MatchBool}
use Rattle.std.specs.List.{AllWithin, HoldsAt, range_with_len}
use Rattle.std.proofs.lemmas.Iterator.{cases_from_all, YieldsList-from_range}
use Rattle.std.proofs.lemmas.List.FromFn.{length-range_with_len, get_or-range_with_len}
use Rattle.plant.specs.Plants.{PlantValue, total}
use Rattle.plant.specs.Questions.{waits_at}
use Rattle.plant.proofs.Sums.{sum_zero, sum_none}
use Rattle.plant.proofs.waiting.nothing_waits.Goals as goal

-- nothing waits where each line is found empty
module _ (v : PlantValue) where
  told : (l : ℕ) → l < v.shape.lines → waits_at v l ≡ Some (length (v.waiting l))
  told l lt = cond-true (ltb l v.shape.lines) (Some (length (v.waiting l))) None (lt-ltb l v.shape.lines lt)

  told_is : (l n : ℕ) → l < v.shape.lines → waits_at v l ≡ Some n → length (v.waiting l) ≡ n
  told_is l n lt e = let z : Some n ≡ Some (length (v.waiting l)) = sym e ∙ told l lt in cc

  empty : (r : Bool) → MatchBool r (AllWithin (λ l. waits_at v l ≡ Some 0) (range_with_len 0 v.shape.lines) 0 (length (range_with_len 0 v.shape.lines)))
      ((k : ℕ) × (k < length (range_with_len 0 v.shape.lines)) × HoldsAt (λ l. waits_at v l ≢ Some 0) (range_with_len 0 v.shape.lines) k) → MatchBool r (total v ≡ 0) (total v ≢ 0)
  empty true all = sum_none (λ l. length (v.waiting l)) v.shape.lines
      (λ l lt. let long = length-range_with_len 0 v.shape.lines in
      let here : get_or (range_with_len 0 v.shape.lines) l 0 ≡ l = get_or-range_with_len 0 v.shape.lines l 0 lt ∙ omega arith in
      told_is l 0 lt (subst (λ k. waits_at v k ≡ Some 0) here (all l 0 (omega arith) (omega (arith, long)))))
  empty false some = λ z.
      let long = length-range_with_len 0 v.shape.lines in
      let lt : some.0 < v.shape.lines = omega (arith, long, some.1) in
      let none = sum_zero (λ l. length (v.waiting l)) v.shape.lines z some.0 lt in
      let here : get_or (range_with_len 0 v.shape.lines) some.0 0 ≡ some.0 = get_or-range_with_len 0 v.shape.lines some.0 0 lt ∙ omega arith in
      subst (λ k. waits_at v k ≢ Some 0) here (some.2 0) (told some.0 lt ∙ ap Some none)

pub returns : goal.returns
returns g c =
    let v = g.P.Plant.value c.args.plant.now in
    empty v c.all.result
    (cases_from_all _ _ c.all.result (λ l. waits_at v l ≡ Some 0) (λ l. waits_at v l ≢ Some 0) c.all.ensures.ran (YieldsList-from_range 0 v.shape.lines v.shape.lines (cc) (omega arith)) (λ x q k. search (rules, tests)) (λ x q k. search (rules, tests)))
