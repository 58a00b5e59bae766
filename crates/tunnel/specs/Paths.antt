-- What the rules of a path give: no line of one way is on the other, or twice on one. Assumes nothing.
use Rattle.std.specs.Prelude.{◌≡◌, ℕ, zero, suc, ◌+◌, ◌-◌, ◌%◌, ◌<◌, ◌≤◌, Bool, true, false, cond, ◌||◌, ◌≢◌, List, [], ◌∷◌, length, Some, None, Option, ◌==◌, refl}
use Rattle.std.proofs.Common.{sym, ap, ap₂, ◌∙◌, subst, ⊎_elim, arith}
use Rattle.std.specs.Option.{option_map}
use Rattle.std.proofs.lemmas.Bool.{cases_eq, cases_order, cond-true, cond-false, eq-eqb, ne_eqb, or_from, or_left, or_right}
use Rattle.frame.specs.declared.entry.Entry.{Entry}
use Rattle.frame.specs.Frames.{FrameValue}
use Rattle.frame.specs.Stacks.{top_of}
use Rattle.tunnel.specs.declared.path.Path.{Path}
use Rattle.tunnel.specs.declared.path.Hop.{Hop}
use Rattle.tunnel.specs.Tunnels.{Way, hop, forth, back, own, own_at, top_is, tops, on, way_of}
use Rattle.tunnel.specs.Held.{Links}
use Rattle.plant.specs.Plants.{partner}
use Rattle.tunnel.specs.Onward.{next_outer}
use Rattle.tunnel.specs.Inner.{OnHop, Marked}
use Rattle.tunnel.specs.Ways.{own_none, own_here, on_here, on_none}

pub partner_even : (l : ℕ) → l % 2 ≡ 0 → partner l ≡ l + 1
partner_even l e = cond-true (l % 2 == 0) (l + 1) (l - 1) (eq-eqb (l % 2) 0 e)

pub partner_odd : (l : ℕ) → (l % 2 ≢ 0) → partner l ≡ l - 1
partner_odd l e = cond-false (l % 2 == 0) (l + 1) (l - 1) (ne_eqb (l % 2) 0 e)

pub partner_apart : (l : ℕ) → l ≢ partner l
partner_apart l = ⊎_elim (λ e. let a = partner_even l e in omega arith) (λ e. let a = partner_odd l e in omega arith) (cases_eq (l % 2) 0)

pub partner_twice : (l : ℕ) → partner (partner l) ≡ l
partner_twice l = ⊎_elim even odd (cases_eq (l % 2) 0)
  where
    even : l % 2 ≡ 0 → partner (partner l) ≡ l
    even e =
        let a = partner_even l e in
        let o : (l + 1) % 2 ≡ 0 → ⊥ = omega arith in
        ap partner a ∙ partner_odd (l + 1) o ∙ omega arith

    odd : (l % 2 ≢ 0) → partner (partner l) ≡ l
    odd e =
        let a = partner_odd l e in
        let o : (l - 1) % 2 ≡ 0 = omega arith in
        ap partner a ∙ partner_even (l - 1) o ∙ omega arith

pub partner_below : (l n : ℕ) → n % 2 ≡ 0 → l < n → partner l < n
partner_below l n e lt = ⊎_elim (λ z. let a = partner_even l z in omega arith) (λ z. let a = partner_odd l z in omega arith) (cases_eq (l % 2) 0)

module _ (p : Path) (ok : Links p) where
  pub forth_apart : (i j : ℕ) → i < p.len → j < p.len → hop p i ≡ hop p j → i ≡ j
  forth_apart i j a b e =
      ⊎_elim (λ q. q) (⊎_elim (λ lt. absurd ((ok.apart j i b lt).0 e)) (λ lt. absurd ((ok.apart i j a lt).0 (sym e)))) (cases_order i j)

  -- no line of the path is the partner of one
  pub cross : (i j : ℕ) → i < p.len → j < p.len → hop p i ≢ partner (hop p j)
  cross i j a b e =
      ⊎_elim (λ q. partner_apart (hop p i) (e ∙ ap (λ k. partner (hop p k)) (sym q)))
      (⊎_elim (λ lt. (ok.apart j i b lt).1 e)
      (λ lt. (ok.apart i j a lt).1 (sym (partner_twice (hop p j)) ∙ ap partner (sym e))))
      (cases_order i j)

  pub back_apart : (i j : ℕ) → i < p.len → j < p.len → (back p).at i ≡ (back p).at j → i ≡ j
  back_apart i j a b e =
      let same : hop p (p.len - 1 - i) ≡ hop p (p.len - 1 - j) = sym (partner_twice (hop p (p.len - 1 - i))) ∙ ap partner e ∙ partner_twice (hop p (p.len - 1 - j)) in
      let q = forth_apart (p.len - 1 - i) (p.len - 1 - j) (omega arith) (omega arith) same in
      omega arith

  pub forth_back : (i j : ℕ) → i < p.len → j < p.len → (forth p).at i ≢ (back p).at j
  forth_back i j a b = cross i (p.len - 1 - j) a (omega arith)

  pub own_forth : (k : ℕ) (f : FrameValue) → k < p.len → own p ((forth p).at k) f ≡ top_is ((forth p).label k) f
  own_forth k f lt =
      let a = own_here (forth p) f k p.len lt (λ j b e. forth_apart j k b lt e) in
      let b = own_none (back p) ((forth p).at k) f p.len (λ j b e. forth_back k j lt b (sym e)) in
      ap₂ ◌||◌ a b ∙ or_false (top_is ((forth p).label k) f)
    where
      or_false : (x : Bool) → (x || false) ≡ x
      or_false true = refl
      or_false false = refl

  pub own_back : (k : ℕ) (f : FrameValue) → k < p.len → own p ((back p).at k) f ≡ top_is ((back p).label k) f
  own_back k f lt =
      let a = own_none (forth p) ((back p).at k) f p.len (λ j b e. forth_back j k b lt e) in
      let b = own_here (back p) f k p.len lt (λ j b e. back_apart j k b lt e) in
      ap₂ ◌||◌ a b

  -- where a line is no hop's and no hop's partner
  pub own_off : (l : ℕ) (f : FrameValue) → ((i : ℕ) → i < p.len → hop p i ≢ l) → ((i : ℕ) → i < p.len → hop p i ≢ partner l) → own p l f ≡ false
  own_off l f a b =
      or_from (own_at (forth p) p.len l f) (own_at (back p) p.len l f)
      (own_none (forth p) l f p.len a)
      (own_none (back p) l f p.len (λ i lt e. b (p.len - 1 - i) (omega arith) (sym (partner_twice (hop p (p.len - 1 - i))) ∙ ap partner e)))

  -- hop i, counted on the way back
  pub back_at : (i l : ℕ) → i < p.len → hop p i ≡ partner l → l ≡ (back p).at (p.len - 1 - i)
  back_at i l lt e =
      let q : p.len - 1 - (p.len - 1 - i) ≡ i = omega arith in
      sym (partner_twice l) ∙ ap partner (sym e) ∙ ap (λ k. partner (hop p k)) (sym q)

  pub back_label : (i : ℕ) → i < p.len → (back p).label (p.len - 1 - i) ≡ p.base + i
  back_label i lt = let q : p.len - 1 - (p.len - 1 - i) ≡ i = omega arith in ap (λ k. p.base + k) q

module _ (p : Path) (ok : Links p) (l : ℕ) where
  pub mark_forth : (i : ℕ) → i < p.len → hop p i ≡ l → Marked p l (Some (p.base + i))
  mark_forth i lt e = subst (λ n. Marked p n (Some (p.base + i))) e
      (or_left (on (forth p) p.len (hop p i)) (on (back p) p.len (hop p i)) (on_here (forth p) i p.len lt), λ f. own_forth p ok i f lt)

  pub mark_back : (i : ℕ) → i < p.len → hop p i ≡ partner l → Marked p l (Some (p.base + i))
  mark_back i lt e =
      let k = p.len - 1 - i in
      let in_way : k < p.len = omega arith in
      subst (λ n. Marked p n (Some (p.base + i))) (sym (back_at p ok i l lt e)) (
        or_right (on (forth p) p.len ((back p).at k)) (on (back p) p.len ((back p).at k)) (on_here (back p) k p.len in_way),
        λ f. own_back p ok k f in_way ∙ ap (λ n. top_is n f) (back_label p ok i lt),
      )

  pub mark_none : ((i : ℕ) → i < p.len → hop p i ≢ l) → ((i : ℕ) → i < p.len → hop p i ≢ partner l) → Marked p l None
  mark_none a b = (
    or_from (on (forth p) p.len l) (on (back p) p.len l) (on_none (forth p) l p.len a)
        (on_none (back p) l p.len (λ i lt e. b (p.len - 1 - i) (omega arith) (sym (partner_twice (hop p (p.len - 1 - i))) ∙ ap partner e))),
    λ f. own_off p ok l f a b,
  )

  -- so of a line that a hop is on, and of one that none is on
  pub marked : (o : Option Hop) → OnHop p l o → Marked p l (option_map (λ (h : Hop). (way_of h.back p).label h.index) o)
  marked None off = mark_none off.0 off.1
  marked (Some h) on = at h.back h.index on.0 on.1
    where
      at : (b : Bool) (k : ℕ) → k < p.len → l ≡ (way_of b p).at k → Marked p l (Some ((way_of b p).label k))
      at true k lt e = mark_back (p.len - 1 - k) (omega arith) (sym (partner_twice (hop p (p.len - 1 - k))) ∙ ap partner (sym e))
      at false k lt e = mark_forth k lt (sym e)

pub tops_none : (k : ℕ) (es : List Entry) → None ≡ top_of es → tops k es ≡ false
tops_none k [] e = refl
tops_none k (x ∷ es) e = let z : ◌≡◌ {A = ℕ} 0 1 = cc in absurd (omega arith)

pub tops_other : (k : ℕ) (es : List Entry) (x : Entry) → Some x ≡ top_of es → (x.label ≢ k) → tops k es ≡ false
tops_other k [] x e ne = refl
tops_other k (y ∷ es) x e ne = let z : x ≡ y = cc in ne_eqb y.label k (λ q. ne (ap (λ (u : Entry). u.label) z ∙ q))

pub own_bare : (p : Path) (l : ℕ) (f : FrameValue) → ((k : ℕ) → top_is k f ≡ false) → own p l f ≡ false
own_bare p l f h = or_from (own_at (forth p) p.len l f) (own_at (back p) p.len l f) (each (forth p) p.len) (each (back p) p.len)
  where
    both : (b x y : Bool) → x ≡ false → y ≡ false → cond b x y ≡ false
    both true x y e d = e
    both false x y e d = d

    each : (w : Way) (n : ℕ) → own_at w n l f ≡ false
    each w zero = refl
    each w (suc n) = both (w.at n == l) (top_is (w.label n) f) (own_at w n l f) (h (w.label n)) (each w n)

pub tops_some : (k : ℕ) (es : List Entry) → tops k es ≡ true → 0 < length es
tops_some k [] e = let z : ◌≡◌ {A = ℕ} 0 1 = cc in absurd (omega arith)
tops_some k (x ∷ es) e = omega arith

pub way_within : (p : Path) (n : ℕ) → n % 2 ≡ 0 → ((i : ℕ) → i < p.len → hop p i < n) → (b : Bool) (i : ℕ) → i < p.len → (way_of b p).at i < n
way_within p n even exist true i lt = partner_below (hop p (p.len - 1 - i)) n even (exist (p.len - 1 - i) (omega arith))
way_within p n even exist false i lt = exist i lt

pub outer_label : (k : ℕ) (es : List Entry) → (next_outer k es).label ≡ k
outer_label k [] = refl
outer_label k (e ∷ es) = refl

-- the labels of the hops are the path's own
pub label_within : (p : Path) (b : Bool) (i : ℕ) → i < p.len → (p.base ≤ (way_of b p).label i) × ((way_of b p).label i < p.base + p.len)
label_within p true i lt = (omega arith, omega arith)
label_within p false i lt = (omega arith, omega arith)
