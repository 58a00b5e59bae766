-- A row of entries read from a place down. Assumes nothing.
use Rattle.std.proofs.Common.{◌≡◌, ℕ, zero, suc, ◌+◌, ◌-◌, ◌<◌, ◌≤◌, ◌≢◌, List, ◌∷◌, length, get_or, set, Some, refl, ap, ◌∙◌, ap₂, add-one, arith, get_or-set_other, get_or-set_same}
use Rattle.frame.specs.declared.entry.Entry.{Entry}
use Rattle.frame.specs.Stacks.{down_from, top_of, rest_of}

abbrev none : Entry
none = record { label = 0; tc = 0; ttl = 0 }

pub length-down_from : (xs : List Entry) (n : ℕ) → n ≡ length (down_from xs n)
length-down_from xs zero = refl
length-down_from xs (suc n) = ap suc (length-down_from xs n)

pub top_down : (xs : List Entry) (n : ℕ) → n ≢ 0 → Some (get_or xs (n - 1) none) ≡ top_of (down_from xs n)
top_down xs zero h = absurd (h refl)
top_down xs (suc n) h =
    let e : suc n - 1 ≡ n = omega arith in
    ap (λ k. Some (get_or xs k none)) e

pub down_above : (xs : List Entry) (i n : ℕ) (e : Entry) → n ≤ i → down_from (set xs i e) n ≡ down_from xs n
down_above xs i zero e h = refl
down_above xs i (suc n) e h =
    let ne : n ≢ i = omega arith in
    let le : n ≤ i = omega arith in
    ap₂ ◌∷◌ (get_or-set_other xs i n e none ne) (down_above xs i n e le)

pub down_push : (xs : List Entry) (n : ℕ) (e : Entry) → n < length xs → down_from (set xs n e) (n + 1) ≡ e ∷ down_from xs n
down_push xs n e h =
    let le : n ≤ n = omega arith in
    rw add-one (ap₂ ◌∷◌ (get_or-set_same xs n e none h) (down_above xs n n e le))

pub down_rest : (xs : List Entry) (n : ℕ) → n ≢ 0 → down_from xs (n - 1) ≡ rest_of (down_from xs n)
down_rest xs zero h = absurd (h refl)
down_rest xs (suc n) h = let e : suc n - 1 ≡ n = omega arith in ap (down_from xs) e

pub down_swap : (xs : List Entry) (n : ℕ) (e : Entry) → 0 < n → n ≤ length xs → down_from (set xs (n - 1) e) n ≡ e ∷ rest_of (down_from xs n)
down_swap xs zero e h b = absurd (omega arith)
down_swap xs (suc n) e h b =
    let q : suc n - 1 ≡ n = omega arith in
    let le : n ≤ n = omega arith in
    ap (λ k. down_from (set xs k e) (suc n)) q ∙ ap₂ ◌∷◌ (get_or-set_same xs n e none b) (down_above xs n n e le)

-- the same of any table, the empty one too
pub down_less : (es : List Entry) (n : ℕ) → down_from es (n - 1) ≡ rest_of (down_from es n)
down_less es zero = refl
down_less es (suc n) = down_rest es (suc n) (λ e. omega (arith, e))
