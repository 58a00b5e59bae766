-- The entries that a tunnel pushes are refused by no rule of stacks. Assumes nothing.
use Rattle.std.proofs.Common.{◌≡◌, ℕ, zero, suc, ◌<◌, ◌≤◌, true, ltb, leb, List, [], ◌∷◌, length, get_or, None, refl, arith}
use Rattle.std.proofs.lemmas.Bool.{and_parts, and_from, or_left, lt-leb, le-leb, lt-ltb}
use Rattle.frame.specs.declared.entry.Entry.{Entry}
use Rattle.frame.specs.declared.stack.Stack.{Stack}
use Rattle.frame.specs.Labels.{allowed, narrow, no_entry}
use Rattle.frame.specs.Stacks.{down_from, entries_of, rest_of, push_refusal}
use Rattle.frame.proofs.Down.{length-down_from}
use Rattle.tunnel.specs.Onward.{next_outer}

fits : (es : List Entry) (e : Entry) → length es < 8 → 16 ≤ e.label → e.label < 1048576 → ltb e.tc 8 ≡ true → push_refusal es e ≡ None
fits es e room high low thin =
    let a = lt-leb 8 (length es) room in
    let b : allowed (length es) e.label ≡ true = or_left (leb 16 e.label) _ (le-leb 16 e.label high) in
    let c : narrow e ≡ true = and_from (ltb e.label 1048576) (ltb e.tc 8) (lt-ltb e.label 1048576 low) thin in
    simp (a, b, c)

-- the entry with which a frame enters
pub first_fits : (es : List Entry) (k : ℕ) → length es < 8 → 16 ≤ k → k < 1048576 → push_refusal es (record { label = k; tc = 0; ttl = 255 }) ≡ None
first_fits es k room high low = fits es (record { label = k; tc = 0; ttl = 255 }) room high low refl

-- the top entry for the next hop fits where the one before stood
pub next_fits : (s : Stack) (k : ℕ) → 16 ≤ k → k < 1048576 → push_refusal (rest_of (entries_of s)) (next_outer k (entries_of s)) ≡ None
next_fits s k high low = go s.len s.few s.rules
  where
    go : (n : ℕ) → n ≤ 8 → ((i : ℕ) → i < n → (allowed i (get_or s.entries i no_entry).label ≡ true) × (narrow (get_or s.entries i no_entry) ≡ true))
        → push_refusal (rest_of (down_from s.entries n)) (next_outer k (down_from s.entries n)) ≡ None
    go zero few rules = fits [] (next_outer k []) (omega arith) high low refl
    go (suc n) few rules =
        let e = get_or s.entries n no_entry in
        let long = length-down_from s.entries n in
        fits (down_from s.entries n) (next_outer k (e ∷ down_from s.entries n)) (omega arith) high low
        (and_parts (ltb e.label 1048576) (ltb e.tc 8) (rules n (omega arith)).1).1
