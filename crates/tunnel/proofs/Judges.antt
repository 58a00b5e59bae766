-- The computed rules of a path decide the same rules as facts, and what a tunnel made by them is. Assumes nothing.
use Rattle.std.proofs.Common.{◌≡◌, ℕ, suc, ◌+◌, ◌-◌, ◌<◌, ◌≤◌, Bool, true, false, cond, not, ◌&&◌, eqb, ltb, ◌≢◌, List, [], Some, None, Ok, Err, Option, Result, sym, refl, ap, ◌∙◌, arith}
use Rattle.std.specs.Option.{option_map}
use Rattle.std.specs.Prelude.{IfOk}
use Rattle.std.proofs.lemmas.Bool.{cond-true, cond-false, not_from_true, not_from_false}
use Rattle.frame.specs.declared.refusal.Refusal.{Refusal}
use Rattle.frame.specs.Numbers.{refused_by}
use Rattle.plant.specs.Plants.{PlantValue, Shape, Lawful, partner, total}
use Rattle.plant.specs.Futures.{Future, Foretold}
use Rattle.plant.proofs.Decides.{Decides, decides_no, decides_as, decides_le, decides_lt, decides_eq, decides_not, decides_and}
use Rattle.tunnel.specs.declared.path.Path.{Path}
use Rattle.tunnel.specs.Tunnels.{hop, spans, forth, back, tunnel_value, meaning}
use Rattle.tunnel.specs.Held.{Links, Exist, Chained, Apart, Wide}
use Rattle.tunnel.specs.Onward.{open_future, tunnel_future}
use Rattle.tunnel.specs.Rules.{all_to, in_range, all_exist, leads_through, can_carry, rule_broken, path_over, tunnel_refusal, tunnel_of, unless_void, tunnel_over}
use Rattle.tunnel.specs.Inner.{InRange, Through, Able}
use Rattle.tunnel.proofs.Tests.{decides_all}

module _ (p : Path) where
  range_decides : Decides (in_range p) (InRange p)
  range_decides = decides_as (decides_and (decides_le 1 p.len) (decides_and (decides_le p.len 8) (decides_and (decides_le 1 p.window) (decides_le p.window 31))))
      (λ h. record { len_least = h.0; len_most = h.1.0; window_least = h.1.1.0; window_most = h.1.1.1 })
      (λ h. (h.len_least, (h.len_most, (h.window_least, h.window_most))))

  apart_decides : Decides (all_to p.len (λ i. all_to i (λ j. not (eqb (hop p j) (hop p i)) && not (eqb (hop p j) (partner (hop p i)))))) (Apart p)
  apart_decides = decides_as (decides_all p.len _ (λ i. (j : ℕ) → j < i → (hop p j ≢ hop p i) × (hop p j ≢ partner (hop p i)))
      (λ i lt. decides_all i _ (λ j. (hop p j ≢ hop p i) × (hop p j ≢ partner (hop p i)))
      (λ j b. decides_and (decides_not (decides_eq (hop p j) (hop p i))) (decides_not (decides_eq (hop p j) (partner (hop p i)))))))
      (λ h i j lt b. h i lt j b) (λ h i lt j b. h i j lt b)

  module _ (s : Shape) where
    exist_decides : Decides (all_exist s p) (Exist s p)
    exist_decides = decides_all p.len _ (λ i. hop p i < s.lines) (λ i lt. decides_lt (hop p i) s.lines)

    chained_decides : Decides (all_to (p.len - 1) (λ i. eqb (s.line (hop p (suc i))).from (s.line (hop p i)).to)) (Chained s p)
    chained_decides = decides_as (decides_all (p.len - 1) _ (λ i. (s.line (hop p (suc i))).from ≡ (s.line (hop p i)).to) (λ i lt. decides_eq (s.line (hop p (suc i))).from (s.line (hop p i)).to))
        (λ h i lt. h i (omega arith)) (λ h i lt. h i (omega arith))

    through_decides : Decides (leads_through s p) (Through s p)
    through_decides = decides_as (decides_and chained_decides (decides_and apart_decides (decides_not (decides_eq (s.line (hop p 0)).from (s.line (hop p (p.len - 1))).to))))
        (λ h. record { chained = h.0; apart = h.1.0; open_ended = h.1.1 })
        (λ h. (h.chained, (h.apart, h.open_ended)))

    wide_decides : Decides (all_to p.len (λ i. ltb p.window (s.line (hop p i)).cap && ltb p.window (s.line (partner (hop p i))).cap)) (Wide s p)
    wide_decides = decides_all p.len _ (λ i. (p.window < (s.line (hop p i)).cap) × (p.window < (s.line (partner (hop p i))).cap))
        (λ i lt. decides_and (decides_lt p.window (s.line (hop p i)).cap) (decides_lt p.window (s.line (partner (hop p i))).cap))

  module _ (v : PlantValue) where
    able_decides : Decides (can_carry v p) (Able v p)
    able_decides = decides_as
        (decides_and (decides_le v.shape.lines 46) (decides_and (decides_eq (total v) 0) (decides_and (decides_le 2 v.shape.depth) (decides_and (decides_le (80 + p.len) v.shape.kept)
        (decides_and (wide_decides v.shape) (decides_and (decides_le (spans v.shape (forth p)) 2097152) (decides_le (spans v.shape (back p)) 2097152)))))))
        (λ h. record { few = h.0; still = h.1.0; deep = h.1.1.0; kept = h.1.1.1.0; wide = h.1.1.1.1.0; spans_forth = h.1.1.1.1.1.0; spans_back = h.1.1.1.1.1.1 })
        (λ h. (h.few, (h.still, (h.deep, (h.kept, (h.wide, (h.spans_forth, h.spans_back)))))))

    -- a rule that is broken, and one that is kept
    broken : {b : Bool} {Q : Type 0} (n : ℕ) (rest : Option ℕ) → Decides b Q → (Q → ⊥) → cond (not b) (Some n) rest ≡ Some n
    broken {b} n rest d h = cond-true (not b) (Some n) rest (not_from_false b (decides_no d h))

    held : {b : Bool} {Q : Type 0} (n : ℕ) (rest : Option ℕ) → Decides b Q → Q → cond (not b) (Some n) rest ≡ rest
    held {b} n rest d h = cond-false (not b) (Some n) rest (not_from_true b (d.seen h))

    -- the first rule that is broken, those before it being kept

    module _ (range : InRange p) where
      past_range : rule_broken v p ≡ cond (not (all_exist v.shape p)) (Some 6) (cond (not (leads_through v.shape p)) (Some 15) (cond (not (can_carry v p)) (Some 22) None))
      past_range = held 7 _ range_decides range

      pub broken_exist : (Exist v.shape p → ⊥) → rule_broken v p ≡ Some 6
      broken_exist h = past_range ∙ broken 6 _ (exist_decides v.shape) h

      module _ (exist : Exist v.shape p) where
        past_exist : rule_broken v p ≡ cond (not (leads_through v.shape p)) (Some 15) (cond (not (can_carry v p)) (Some 22) None)
        past_exist = past_range ∙ held 6 _ (exist_decides v.shape) exist

        pub broken_through : (Through v.shape p → ⊥) → rule_broken v p ≡ Some 15
        broken_through h = past_exist ∙ broken 15 _ (through_decides v.shape) h

        module _ (through : Through v.shape p) where
          past_through : rule_broken v p ≡ cond (not (can_carry v p)) (Some 22) None
          past_through = past_exist ∙ held 15 _ (through_decides v.shape) through

          pub broken_able : (Able v p → ⊥) → rule_broken v p ≡ Some 22
          broken_able h = past_through ∙ broken 22 None able_decides h

          pub all_kept : Able v p → rule_broken v p ≡ None
          all_kept h = past_through ∙ held 22 None able_decides h

    -- no rule is broken: each is kept
    pub rules_kept : rule_broken v p ≡ None → InRange p × Exist v.shape p × Through v.shape p × Able v p
    rules_kept e = go (in_range p) (all_exist v.shape p) (leads_through v.shape p) (can_carry v p) range_decides.sure (exist_decides v.shape).sure (through_decides v.shape).sure able_decides.sure e
      where
        never : {X : Type 0} (n : ℕ) → Some n ≡ None → X
        never n q = let z : ◌≡◌ {A = ℕ} 0 1 = cc in absurd (omega arith)

        go : (a b c d : Bool) → (a ≡ true → InRange p) → (b ≡ true → Exist v.shape p) → (c ≡ true → Through v.shape p) → (d ≡ true → Able v p)
            → cond {A = Option ℕ} (not a) (Some 7) (cond (not b) (Some 6) (cond (not c) (Some 15) (cond (not d) (Some 22) None))) ≡ None
            → InRange p × Exist v.shape p × Through v.shape p × Able v p
        go true true true true f g h k q = (f refl, g refl, h refl, k refl)
        go true true true false f g h k q = never 22 q
        go true true false d f g h k q = never 15 q
        go true false c d f g h k q = never 6 q
        go false b c d f g h k q = never 7 q

-- a tunnel as it is made, by what the judging of its path answers
module _ (v : PlantValue) (lines : List ℕ) (window : ℕ) where
  abbrev made : Path
  made = path_over v.shape lines window

  pub made_value : (r : Result Path Refusal) → IfOk r (λ p. p ≡ made) → refused_by r ≡ tunnel_refusal v lines window → meaning r v ≡ tunnel_of v lines window
  made_value (Ok p) e h = ap (λ q. tunnel_value q v) e ∙ ap (λ z. unless_void z (tunnel_value made v) v) h
  made_value (Err x) e h = ap (λ z. unless_void z (tunnel_value made v) v) h

  pub made_future : (o : Option Future) → Foretold o (λ b. (b []).value ≡ v) → (r : Result Path Refusal) → IfOk r (λ p. p ≡ made) → refused_by r ≡ tunnel_refusal v lines window
      → option_map (tunnel_future r) o ≡ option_map (tunnel_over lines window) o
  made_future None f r e h = refl
  made_future (Some b) f r e h = go r e h ∙ ap (λ y. Some (unless_void (tunnel_refusal y lines window) (open_future (path_over y.shape lines window) b) b)) (sym f)
    where
      go : (r : Result Path Refusal) → IfOk r (λ p. p ≡ made) → refused_by r ≡ tunnel_refusal v lines window → Some (tunnel_future r b) ≡ Some (unless_void (tunnel_refusal v lines window) (open_future made b) b)
      go (Ok p) e h = ap (λ q. Some (open_future q b)) e ∙ ap (λ z. Some (unless_void z (open_future made b) b)) h
      go (Err x) e h = ap (λ z. Some (unless_void z (open_future made b) b)) h

-- a path that keeps the rules so far has links and labels that fit
pub links_of : (p : Path) (v : PlantValue) → Lawful v → p.base ≡ v.shape.kept - p.len → 80 + p.len ≤ v.shape.kept → InRange p → Exist v.shape p → Through v.shape p → Links p
links_of p v law base kept range exist through =
    let most = law.shape.kept_most in
    record {
      len_most = range.len_most;
      small = omega arith;
      short = λ i lt. let b = exist i lt in let c = law.shape.lines_most in omega arith;
      apart = through.apart;
    }
