-- A way of a tunnel, where a frame joins its first hop, leaves its last, or goes from one to the next. Assumes nothing.
use Rattle.std.specs.Prelude.{◌≡◌, ℕ, zero, suc, ◌+◌, ◌<◌, Bool, true, false, ◌≢◌, ◌⊎◌, List, [], ◌∷◌, ◌++◌, map, ◌==◌, refl}
use Rattle.std.proofs.Common.{sym, ap, ◌∙◌, append-nil, inl, inr, arith}
use Rattle.std.proofs.lemmas.List.{map-append}
use Rattle.std.proofs.lemmas.Bool.{cases_eq, cond-true, cond-false, eq-eqb, ne_eqb}
use Rattle.frame.specs.Frames.{FrameValue}
use Rattle.plant.specs.Plants.{sum_to, Shape}
use Rattle.tunnel.specs.Tunnels.{Way, keep, hop_frames, along, top_is, popped, own_at, on, hop_span, spans, later}
use Rattle.plant.proofs.Sums.{sum_front}
use Rattle.tunnel.specs.Gathers.{keep_append, gather_same}

pub keep_push : {X : Type 0} (t : X → Bool) (xs : List X) (g : X) → t g ≡ true → keep t (xs ++ (g ∷ [])) ≡ keep t xs ++ (g ∷ [])
keep_push t xs g y = keep_append t xs (g ∷ []) ∙ ap (λ z. keep t xs ++ z) (cond-true (t g) (g ∷ []) [] y)

pub keep_skip : {X : Type 0} (t : X → Bool) (xs : List X) (g : X) → t g ≡ false → keep t (xs ++ (g ∷ [])) ≡ keep t xs
keep_skip t xs g y = keep_append t xs (g ∷ []) ∙ ap (λ z. keep t xs ++ z) (cond-false (t g) (g ∷ []) [] y) ∙ append-nil (keep t xs)

module _ (w : Way) where
  pub own_none : (l : ℕ) (f : FrameValue) (n : ℕ) → ((i : ℕ) → i < n → w.at i ≢ l) → own_at w n l f ≡ false
  own_none l f zero h = refl
  own_none l f (suc n) h =
      cond-false (w.at n == l) (top_is (w.label n) f) (own_at w n l f) (ne_eqb (w.at n) l (h n (omega arith)))
      ∙ own_none l f n (λ i b. h i (omega arith))

  pub on_none : (l : ℕ) (n : ℕ) → ((i : ℕ) → i < n → w.at i ≢ l) → on w n l ≡ false
  on_none l zero h = refl
  on_none l (suc n) h =
      cond-false (w.at n == l) true (on w n l) (ne_eqb (w.at n) l (h n (omega arith)))
      ∙ on_none l n (λ i b. h i (omega arith))

  pub on_here : (i n : ℕ) → i < n → on w n (w.at i) ≡ true
  on_here i zero lt = absurd (omega arith)
  on_here i (suc n) lt = go (λ b. on_here i n b) (cases_eq (w.at n) (w.at i))
    where
      go : (i < n → on w n (w.at i) ≡ true) → (w.at n ≡ w.at i) ⊎ (w.at n ≢ w.at i) → on w (suc n) (w.at i) ≡ true
      go ih (inl e) = cond-true (w.at n == w.at i) true (on w n (w.at i)) (eq-eqb (w.at n) (w.at i) e)
      go ih (inr ne) =
          let nn : n ≢ i = λ e. ne (ap w.at e) in
          cond-false (w.at n == w.at i) true (on w n (w.at i)) (ne_eqb (w.at n) (w.at i) ne) ∙ ih (omega arith)

  pub own_here : (f : FrameValue) (i n : ℕ) → i < n → ((j : ℕ) → j < n → w.at j ≡ w.at i → j ≡ i) → own_at w n (w.at i) f ≡ top_is (w.label i) f
  own_here f i zero lt apart = absurd (omega arith)
  own_here f i (suc n) lt apart = go (λ b. own_here f i n b (λ j c. apart j (omega arith))) (cases_eq n i)
    where
      go : (i < n → own_at w n (w.at i) f ≡ top_is (w.label i) f) → (n ≡ i) ⊎ (n ≢ i) → own_at w (suc n) (w.at i) f ≡ top_is (w.label i) f
      go ih (inl e) =
          cond-true (w.at n == w.at i) (top_is (w.label n) f) (own_at w n (w.at i) f) (eq-eqb (w.at n) (w.at i) (ap w.at e))
          ∙ ap (λ k. top_is (w.label k) f) e
      go ih (inr ne) =
          cond-false (w.at n == w.at i) (top_is (w.label n) f) (own_at w n (w.at i) f) (ne_eqb (w.at n) (w.at i) (λ e. ne (apart n (omega arith) e)))
          ∙ ih (omega arith)

-- one hop's own frames, as its line's list changes
pub hop_join : (k : ℕ) (xs : List FrameValue) (g : FrameValue) → top_is k g ≡ true → map popped (keep (top_is k) (xs ++ (g ∷ []))) ≡ map popped (keep (top_is k) xs) ++ (popped g ∷ [])
hop_join k xs g y = ap (map popped) (keep_push (top_is k) xs g y) ∙ map-append popped (keep (top_is k) xs) (g ∷ [])

pub hop_out : (k : ℕ) (xs : List FrameValue) (g : FrameValue) → top_is k g ≡ true → map popped (keep (top_is k) (g ∷ xs)) ≡ popped g ∷ map popped (keep (top_is k) xs)
hop_out k xs g y = ap (map popped) (cond-true (top_is k g) (g ∷ keep (top_is k) xs) (keep (top_is k) xs) y)

module _ (w : Way) (apart : (i j : ℕ) → i < w.len → j < w.len → w.at i ≡ w.at j → i ≡ j) (q r : ℕ → List FrameValue) where
  pub hop_same : (i : ℕ) → r (w.at i) ≡ q (w.at i) → hop_frames r w i ≡ hop_frames q w i
  hop_same i e = ap (λ z. map popped (keep (top_is (w.label i)) z)) e

  pub way_same : ((i : ℕ) → i < w.len → r (w.at i) ≡ q (w.at i)) → along r w ≡ along q w
  way_same h = gather_same (hop_frames q w) (hop_frames r w) w.len (λ i b. hop_same i (h i b))

  module _ (g : FrameValue) (k : ℕ) (in_way : k < w.len) (mine : top_is (w.label k) g ≡ true) (others : (l : ℕ) → l ≢ w.at k → r l ≡ q l) where
    pub hop_others : (i : ℕ) → i < w.len → i ≢ k → hop_frames r w i ≡ hop_frames q w i
    hop_others i b ne = hop_same i (others (w.at i) (λ e. ne (apart i k b in_way e)))

    pub hop_joined : r (w.at k) ≡ q (w.at k) ++ (g ∷ []) → hop_frames r w k ≡ hop_frames q w k ++ (popped g ∷ [])
    hop_joined e = ap (λ z. map popped (keep (top_is (w.label k)) z)) e ∙ hop_join (w.label k) (q (w.at k)) g mine

    pub hop_left : q (w.at k) ≡ g ∷ r (w.at k) → hop_frames q w k ≡ popped g ∷ hop_frames r w k
    hop_left e = ap (λ z. map popped (keep (top_is (w.label k)) z)) e ∙ hop_out (w.label k) (r (w.at k)) g mine

module _ (s : Shape) (w : Way) where
  pub later_first : 0 < w.len → hop_span s w 0 + later s w 0 ≡ spans s w
  later_first lt = let a = sum_front (hop_span s w) 1 w.len lt in omega arith

  pub later_last : (k : ℕ) → suc k ≡ w.len → later s w k ≡ 0
  later_last k e = let a : sum_to w.len (hop_span s w) ≡ sum_to (suc k) (hop_span s w) = ap (λ n. sum_to n (hop_span s w)) (sym e) in omega arith

  pub later_next : (k : ℕ) → suc k < w.len → later s w k ≡ later s w (suc k) + hop_span s w (suc k)
  later_next k lt = let a = sum_front (hop_span s w) (suc (suc k)) w.len lt in omega arith
