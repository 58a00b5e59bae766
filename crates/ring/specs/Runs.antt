-- Frames in a part of the places, going round. Assumes nothing.
use Rattle.std.specs.Prelude.{◌≡◌, ℕ, zero, suc, ◌+◌, ◌-◌, ◌<◌, ◌≤◌, ◌≢◌, ◌⊎◌, List, [], ◌∷◌, ◌++◌, length, get_or, ◌==◌, nat_lt, slice_index_or, slice_set, refl}
use Rattle.std.proofs.Common.{sym, ap, ap₂, ◌∙◌, ⊎_elim, arith, get_or-set_same, get_or-set_other}
use Rattle.std.proofs.lemmas.Bool.{cases_eq, cases_lt, cond-true, cond-false, eq-eqb, ne_eqb, lt-ltb, le-ltb}
use Rattle.frame.specs.Frames.{FrameValue}
use Rattle.plant.specs.Questions.{no_frame}
use Rattle.ring.specs.Rows.{run, next, spot}

pub spot_low : (cap sum : ℕ) → sum < cap → spot cap sum ≡ sum
spot_low cap sum lt = cond-true (nat_lt sum cap) sum (sum - cap) (lt-ltb sum cap lt)

pub spot_high : (cap sum : ℕ) → cap ≤ sum → spot cap sum ≡ sum - cap
spot_high cap sum le = cond-false (nat_lt sum cap) sum (sum - cap) (le-ltb sum cap le)

pub next_last : (cap at : ℕ) → at + 1 ≡ cap → next cap at ≡ 0
next_last cap at e = cond-true (at + 1 == cap) 0 (at + 1) (eq-eqb (at + 1) cap e)

pub next_more : (cap at : ℕ) → (at + 1 ≢ cap) → next cap at ≡ at + 1
next_more cap at ne = cond-false (at + 1 == cap) 0 (at + 1) (ne_eqb (at + 1) cap ne)

pub next_below : (cap at : ℕ) → at < cap → next cap at < cap
next_below cap at lt = ⊎_elim (λ e. let a = next_last cap at e in omega arith) (λ ne. let a = next_more cap at ne in omega arith) (cases_eq (at + 1) cap)

-- one step first, and then the others
pub spot_next : (cap head n : ℕ) → head < cap → n < cap → spot cap (head + suc n) ≡ spot cap (next cap head + n)
spot_next cap head n lt b = ⊎_elim last more (cases_eq (head + 1) cap)
  where
    last : head + 1 ≡ cap → spot cap (head + suc n) ≡ spot cap (next cap head + n)
    last e =
        let a = next_last cap head e in
        let q : next cap head + n ≡ n = omega arith in
        let h = spot_high cap (head + suc n) (omega arith) in
        let l = spot_low cap n b in
        h ∙ (let z : head + suc n - cap ≡ n = omega arith in z) ∙ sym l ∙ ap (spot cap) (sym q)

    more : (head + 1 ≢ cap) → spot cap (head + suc n) ≡ spot cap (next cap head + n)
    more ne = let a = next_more cap head ne in let q : head + suc n ≡ next cap head + n = omega arith in ap (spot cap) q

pub spot_below : (cap head n : ℕ) → head < cap → n ≤ cap → spot cap (head + n) < cap
spot_below cap head n lt le = ⊎_elim (λ h. let a = spot_low cap (head + n) h in omega arith) (λ h. let a = spot_high cap (head + n) h in omega arith) (cases_lt (head + n) cap)

spot_away : (cap head n : ℕ) → head < cap → 0 < n → n < cap → spot cap (head + n) ≢ head
spot_away cap head n lt some b = ⊎_elim (λ h. let a = spot_low cap (head + n) h in omega arith) (λ h. let a = spot_high cap (head + n) h in omega arith) (cases_lt (head + n) cap)

pub run_length : (vals : List FrameValue) (base cap head n : ℕ) → length (run vals base cap head n) ≡ n
run_length vals base cap head zero = refl
run_length vals base cap head (suc n) = ap suc (run_length vals base cap (next cap head) n)

-- a write outside the part
pub run_other : (vals : List FrameValue) (base cap head n at : ℕ) (f : FrameValue) → head < cap → (at < base) ⊎ (base + cap ≤ at) → run (slice_set vals at f) base cap head n ≡ run vals base cap head n
run_other vals base cap head zero at f lt out = refl
run_other vals base cap head (suc n) at f lt out =
    let ne : base + head ≢ at = ⊎_elim (λ h. let z : base + head ≡ at → ⊥ = omega arith in z) (λ h. let z : base + head ≡ at → ⊥ = omega arith in z) out in
    ap₂ ◌∷◌ (get_or-set_other vals at (base + head) f no_frame ne) (run_other vals base cap (next cap head) n at f (next_below cap head lt) out)

-- a write behind the last
pub run_push : (vals : List FrameValue) (base cap head n : ℕ) (f : FrameValue) → head < cap → n < cap → base + cap ≤ length vals
    → run (slice_set vals (base + spot cap (head + n)) f) base cap head (suc n) ≡ run vals base cap head n ++ (f ∷ [])
run_push vals base cap head zero f lt b fits =
    let q : spot cap (head + 0) ≡ head = ap (spot cap) (let z : head + 0 ≡ head = omega arith in z) ∙ spot_low cap head lt in
    let i : base + head < length vals = omega arith in
    ap (λ k. slice_index_or (slice_set vals (base + k) f) (base + head) no_frame ∷ []) q ∙ ap (λ x. x ∷ []) (get_or-set_same vals (base + head) f no_frame i)
run_push vals base cap head (suc n) f lt b fits =
    let away = spot_away cap head (suc n) lt (omega arith) b in
    let ne : base + head ≢ base + spot cap (head + suc n) = omega arith in
    let same = spot_next cap head n lt (omega arith) in
    ap₂ ◌∷◌ (get_or-set_other vals (base + spot cap (head + suc n)) (base + head) f no_frame ne)
    (ap (λ k. run (slice_set vals (base + k) f) base cap (next cap head) (suc n)) same ∙ run_push vals base cap (next cap head) n f (next_below cap head lt) (omega arith) fits)

pub run_pop : (vals : List FrameValue) (base cap head n : ℕ) → n ≢ 0 → run vals base cap head n ≡ slice_index_or vals (base + head) no_frame ∷ run vals base cap (next cap head) (n - 1)
run_pop vals base cap head zero ne = absurd (ne refl)
run_pop vals base cap head (suc n) ne = ap (λ k. slice_index_or vals (base + head) no_frame ∷ run vals base cap (next cap head) k) (let z : n ≡ suc n - 1 = omega arith in z)

pub run_get : (vals : List FrameValue) (base cap head n j : ℕ) → head < cap → n ≤ cap → j < n → slice_index_or (run vals base cap head n) j no_frame ≡ slice_index_or vals (base + spot cap (head + j)) no_frame
run_get vals base cap head zero j lt le b = absurd (omega arith)
run_get vals base cap head (suc n) zero lt le b =
    let q : spot cap (head + 0) ≡ head = ap (spot cap) (let z : head + 0 ≡ head = omega arith in z) ∙ spot_low cap head lt in
    ap (λ k. get_or vals (base + k) no_frame) (sym q)
run_get vals base cap head (suc n) (suc j) lt le b =
    run_get vals base cap (next cap head) n j (next_below cap head lt) (omega arith) (omega arith)
    ∙ ap (λ k. get_or vals (base + k) no_frame) (sym (spot_next cap head j lt (omega arith)))
