-- A test of each hop of a path, and the search for one, from what they answer over the list of the hops. Assumes nothing.
use Rattle.std.proofs.Common.{◌≡◌, ℕ, suc, ◌+◌, ◌-◌, ◌<◌, ◌≤◌, Bool, true, false, ◌≢◌, ◌⊎◌, List, length, get_or, take, Some, None, Option, sym, ap, ◌∙◌, subst, ⊎_elim, arith}
use Rattle.std.proofs.lemmas.List.{get_or-take, length-take-le}
use Rattle.plant.specs.Plants.{Shape, partner}
use Rattle.std.specs.Prelude.{MatchBool, MatchOption}
use Rattle.std.specs.List.{AllWithin, HoldsAt, range_with_len}
use Rattle.std.proofs.lemmas.List.FromFn.{length-range_with_len, get_or-range_with_len}
use Rattle.tunnel.specs.declared.path.Path.{Path}
use Rattle.tunnel.specs.Tunnels.{hop}
use Rattle.tunnel.specs.Held.{Apart, Exist, Chained, Wide}
use Rattle.tunnel.specs.Inner.{Hops, Found, JoinsAt, WideAt}

module _ (p : Path) (xs : List ℕ) (of_path : Hops p xs) where
  pub found : (l : ℕ) (r : Option ℕ) → MatchOption r (AllWithin (λ x. x ≢ l) xs 0 (length xs)) (λ i. (i < length xs) × HoldsAt (λ x. x ≡ l) xs i × AllWithin (λ x. x ≢ l) xs 0 i) → Found p l r
  found l None none = λ i lt e. none i 0 (omega arith) (omega (arith, of_path.count)) (of_path.each i 0 lt ∙ e)
  found l (Some i) first =
      let lt : i < p.len = omega (arith, of_path.count, first.0) in
      (lt, sym (of_path.each i 0 lt) ∙ first.1 0)

  pub each_hop : (Yes No : ℕ → Type 0) → ((x : ℕ) → No x → Yes x → ⊥) → (r : Bool) → MatchBool r (AllWithin Yes xs 0 (length xs)) ((k : ℕ) × (k < length xs) × HoldsAt No xs k)
      → MatchBool r ((i : ℕ) → i < p.len → Yes (hop p i)) (((i : ℕ) → i < p.len → Yes (hop p i)) → ⊥)
  each_hop Yes No never true all = λ i lt. subst Yes (of_path.each i 0 lt) (all i 0 (omega arith) (omega (arith, of_path.count)))
  each_hop Yes No never false some = λ all.
      let lt : some.0 < p.len = omega (arith, of_path.count, some.1) in
      never (hop p some.0) (subst No (of_path.each some.0 0 lt) (some.2 0)) (all some.0 lt)

  -- the hops before hop i, where a search for one of its link found one, or none
  module _ (i : ℕ) (lt : i < p.len) (two : ℕ) (is : two ≡ hop p i) where
    before : (k d : ℕ) → k < i → get_or (take i xs) k d ≡ hop p k
    before k d b = get_or-take i xs k d b ∙ of_path.each k d (omega arith)

    pub twice : (r : Bool) → MatchBool r ((k : ℕ) × (k < length (take i xs)) × HoldsAt (λ x. (x ≡ two) ⊎ (x ≡ partner two)) (take i xs) k)
        (AllWithin (λ x. (x ≢ two) × (x ≢ partner two)) (take i xs) 0 (length (take i xs))) → r ≡ true → Apart p → ⊥
    twice true some e = λ apart.
        let long = length-take-le i xs (omega (arith, of_path.count)) in
        let b : some.0 < i = omega (arith, long, some.1) in
        let once = apart i some.0 lt b in
        let at = before some.0 0 b in
        ⊎_elim (λ q. once.0 (sym at ∙ q ∙ is)) (λ q. once.1 (sym at ∙ q ∙ ap partner is)) (some.2 0)
    twice false none e = let z : ◌≡◌ {A = ℕ} 0 1 = cc in absurd (omega arith)

    pub once : (r : Bool) → MatchBool r ((k : ℕ) × (k < length (take i xs)) × HoldsAt (λ x. (x ≡ two) ⊎ (x ≡ partner two)) (take i xs) k)
        (AllWithin (λ x. (x ≢ two) × (x ≢ partner two)) (take i xs) 0 (length (take i xs))) → r ≡ false → (j : ℕ) → j < i → (hop p j ≢ hop p i) × (hop p j ≢ partner (hop p i))
    once true some e = let z : ◌≡◌ {A = ℕ} 0 1 = cc in absurd (omega arith)
    once false none e = λ j b.
        let long = length-take-le i xs (omega (arith, of_path.count)) in
        let no = none j 0 (omega arith) (omega (arith, long)) in
        let at = before j 0 b in
        (λ q. no.0 (at ∙ q ∙ sym is), λ q. no.1 (at ∙ q ∙ ap partner (sym is)))

-- lines that exist are wide where each one is
pub wide_hops : (s : Shape) (p : Path) → Exist s p → (r : Bool) → MatchBool r ((i : ℕ) → i < p.len → WideAt s p.window (hop p i)) (((i : ℕ) → i < p.len → WideAt s p.window (hop p i)) → ⊥)
    → MatchBool r (Wide s p) (Wide s p → ⊥)
wide_hops s p exist true all = λ i lt. ((all i lt).1, (all i lt).2)
wide_hops s p exist false never = λ wide. never (λ i lt. (exist i lt, (wide i lt).0, (wide i lt).1))

-- a test of each number from a up to n
pub each_from : (a n : ℕ) (Yes : ℕ → Type 0) → (r : Bool) → MatchBool r (AllWithin Yes (range_with_len a (n - a)) 0 (length (range_with_len a (n - a)))) ((k : ℕ) × (k < length (range_with_len a (n - a))) × HoldsAt (λ x. Yes x → ⊥) (range_with_len a (n - a)) k)
    → MatchBool r ((i : ℕ) → a ≤ i → i < n → Yes i) (((i : ℕ) → a ≤ i → i < n → Yes i) → ⊥)
each_from a n Yes true all = λ i le lt.
    let long = length-range_with_len a (n - a) in
    subst Yes (get_or-range_with_len a (n - a) (i - a) 0 (omega arith) ∙ omega arith) (all (i - a) 0 (omega arith) (omega (arith, long)))
each_from a n Yes false some = λ all.
    let long = length-range_with_len a (n - a) in
    let lt : some.0 < n - a = omega (arith, long, some.1) in
    subst (λ x. Yes x → ⊥) (get_or-range_with_len a (n - a) some.0 0 lt) (some.2 0) (all (a + some.0) (omega arith) (omega arith))

-- lines that join at each hop but the first are chained
pub joined_hops : (s : Shape) (p : Path) → (r : Bool) → MatchBool r ((i : ℕ) → 1 ≤ i → i < p.len → JoinsAt s p i) (((i : ℕ) → 1 ≤ i → i < p.len → JoinsAt s p i) → ⊥)
    → MatchBool r (Chained s p) (Chained s p → ⊥)
joined_hops s p true all = λ i lt.
    let z : suc i - 1 ≡ i = omega arith in
    subst (λ k. (s.line (hop p (suc i))).from ≡ (s.line (hop p k)).to) z (all (suc i) (omega arith) lt)
joined_hops s p false never = λ chained. never (λ i le lt.
    let z : suc (i - 1) ≡ i = omega arith in
    subst (λ k. (s.line (hop p k)).from ≡ (s.line (hop p (i - 1))).to) z (chained (i - 1) (omega arith)))
