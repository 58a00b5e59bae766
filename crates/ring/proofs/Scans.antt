-- The rules of links, link by link. Assumes nothing.
use Rattle.std.proofs.Common.{◌≡◌, ℕ, zero, suc, ◌+◌, ◌<◌, ◌≤◌, Bool, true, false, cond, not, ◌&&◌, eqb, leb, ◌≢◌, ◌*◌, min, List, [], ◌∷◌, length, take, drop, Some, None, Option, sym, refl, ap, ◌∙◌, add-one, arith, drop-cons}
use Rattle.std.proofs.lemmas.Option.{none-some}
use Rattle.std.proofs.lemmas.List.{take_all}
use Rattle.std.specs.List.{sum_by}
use Rattle.std.proofs.Math.Nat.{min-eq_left}
use Rattle.std.proofs.lemmas.List.Sums.{sum_by-cons, sum_by_more}
use Rattle.plant.proofs.Decides.{Decides, decides_le, decides_eq, decides_not, decides_and}
use Rattle.ring.specs.declared.link.Link.{Link}
use Rattle.ring.specs.Links.{no_link, link_at, link_refusal, links_refusal, or_else, taken, ring_refusal}

-- a link that breaks no rule
pub record LinkOk (k : Link) : Type 0 where
  pub a_most : k.a ≤ 15
  pub b_most : k.b ≤ 15
  pub apart : k.a ≢ k.b
  pub cap_least : 1 ≤ k.cap
  pub cap_most : k.cap ≤ 32

ends_decides : (k : Link) → Decides (leb k.a 15 && leb k.b 15) ((k.a ≤ 15) × (k.b ≤ 15))
ends_decides k = decides_and (decides_le k.a 15) (decides_le k.b 15)

rest_decides : (k : Link) → Decides (not (eqb k.a k.b) && (leb 1 k.cap && leb k.cap 32)) ((k.a ≢ k.b) × ((1 ≤ k.cap) × (k.cap ≤ 32)))
rest_decides k = decides_and (decides_not (decides_eq k.a k.b)) (decides_and (decides_le 1 k.cap) (decides_le k.cap 32))

link_ok : (k : Link) → link_refusal k ≡ None → LinkOk k
link_ok k h = go (leb k.a 15 && leb k.b 15) (not (eqb k.a k.b) && (leb 1 k.cap && leb k.cap 32)) refl refl h
  where
    go : (p q : Bool) → leb k.a 15 && leb k.b 15 ≡ p → not (eqb k.a k.b) && (leb 1 k.cap && leb k.cap 32) ≡ q
        → cond {A = Option ℕ} p (cond q None (Some 7)) (Some 4) ≡ None → LinkOk k
    go false q _ _ e = absurd (none-some 4 (sym e))
    go true false _ _ e = absurd (none-some 7 (sym e))
    go true true p q _ =
        let ends = (ends_decides k).sure p in
        let rest = (rest_decides k).sure q in
        record { a_most = ends.0; b_most = ends.1; apart = rest.0; cap_least = rest.1.0; cap_most = rest.1.1 }

-- the first of two numbers is none only if both are
both_none : (o p : Option ℕ) → or_else o p ≡ None → (o ≡ None) × (p ≡ None)
both_none (Some n) p e = absurd (none-some n (sym e))
both_none None p e = (refl, e)

pub links_ok : (ks : List Link) → links_refusal ks ≡ None → (i : ℕ) → i < length ks → LinkOk (link_at ks i)
links_ok [] e i lt = absurd (omega arith)
links_ok (k ∷ ks) e zero lt = link_ok k (both_none (link_refusal k) (links_refusal ks) e).0
links_ok (k ∷ ks) e (suc i) lt = links_ok ks (both_none (link_refusal k) (links_refusal ks) e).1 i (omega arith)

-- links that break no rule have small caps
pub caps_few : (ks : List Link) → links_refusal ks ≡ None → sum_by (λ k. k.cap) ks ≤ 32 * length ks
caps_few [] e = omega arith
caps_few (k ∷ ks) e =
    let both = both_none (link_refusal k) (links_refusal ks) e in
    let most = (link_ok k both.0).cap_most in
    omega (arith, most, caps_few ks both.1, sum_by-cons (λ (k : Link). k.cap) k ks)

-- the places that lines take are two for each of their caps
taken_caps : (ks : List Link) (n : ℕ) → n ≤ length ks → taken ks n ≡ 2 * sum_by (λ k. k.cap) (take n ks)
taken_caps ks zero le = refl
taken_caps ks (suc n) le =
    let more = sum_by_more (λ (k : Link). k.cap) ks n no_link le in
    let one : sum_by (λ (k : Link). k.cap) (take (suc n) ks) ≡ sum_by (λ (k : Link). k.cap) (take (n + 1) ks) = ap (λ m. sum_by (λ (k : Link). k.cap) (take m ks)) (sym (add-one n)) in
    omega (arith, taken_caps ks n (omega arith), more, one)

pub taken_all : (ks : List Link) → taken ks (length ks) ≡ 2 * sum_by (λ k. k.cap) ks
taken_all ks = taken_caps ks (length ks) (omega arith) ∙ ap (λ xs. 2 * sum_by (λ (k : Link). k.cap) xs) (take_all (length ks) ks (omega arith))

-- what it takes that no rule of a ring plant is broken
pub record RulesKept (links : List Link) (places : ℕ) : Type 0 where
  pub most : length links ≤ 16
  pub each : links_refusal links ≡ None
  pub enough : taken links (length links) ≤ places

pub ring_ok : (links : List Link) (places : ℕ) → ring_refusal links places ≡ None → RulesKept links places
ring_ok links places h = go (leb 1 (length links) && leb (length links) 16) (leb (taken links (length links)) places) refl refl h
  where
    last : (b : Bool) → cond {A = Option ℕ} b None (Some 27) ≡ None → b ≡ true
    last true e = refl
    last false e = absurd (none-some 27 (sym e))

    go : (p q : Bool) → leb 1 (length links) && leb (length links) 16 ≡ p → leb (taken links (length links)) places ≡ q
        → cond {A = Option ℕ} p (or_else (links_refusal links) (cond q None (Some 27))) (Some 7) ≡ None → RulesKept links places
    go false q _ _ e = absurd (none-some 7 (sym e))
    go true q p r e =
        let both = both_none (links_refusal links) (cond q None (Some 27)) e in
        record {
          most = ((decides_and (decides_le 1 (length links)) (decides_le (length links) 16)).sure p).1;
          each = both.0;
          enough = (decides_le (taken links (length links)) places).sure (r ∙ last q both.1);
        }

-- a cap that a rule allows is no more than 32
room_caps : (ks : List Link) → links_refusal ks ≡ None → sum_by (λ k. 2 * min k.cap 32) ks ≡ 2 * sum_by (λ k. k.cap) ks
room_caps [] e = refl
room_caps (k ∷ ks) e =
    let both = both_none (link_refusal k) (links_refusal ks) e in
    let cap = min-eq_left (link_ok k both.0).cap_most in
    omega (arith, cap, room_caps ks both.1, sum_by-cons (λ (k : Link). k.cap) k ks, sum_by-cons (λ (k : Link). 2 * min k.cap 32) k ks)

-- so many places are as good as those that the lines take: they are the same number unless a link is refused
pub room_same : (ks : List Link) (n : ℕ) → n ≡ sum_by (λ k. 2 * min k.cap 32) ks → ring_refusal ks n ≡ ring_refusal ks (taken ks (length ks))
room_same ks n e = go (links_refusal ks) refl
  where
    few : Bool
    few = leb 1 (length ks) && leb (length ks) 16

    short : ℕ → Option ℕ
    short m = cond (leb (taken ks (length ks)) m) None (Some 27)

    with_first : ℕ → Option ℕ → Option ℕ
    with_first m o = cond few (or_else o (short m)) (Some 7)

    go : (o : Option ℕ) → links_refusal ks ≡ o → ring_refusal ks n ≡ ring_refusal ks (taken ks (length ks))
    go (Some k) q = ap (with_first n) q ∙ sym (ap (with_first (taken ks (length ks))) q)
    go None q = ap (ring_refusal ks) (e ∙ room_caps ks q ∙ sym (taken_all ks))
