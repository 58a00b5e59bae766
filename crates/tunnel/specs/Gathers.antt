-- Lists gathered hop by hop, and sums over hops, where one or two of them change. Assumes nothing.
use Rattle.std.specs.Prelude.{◌≡◌, ℕ, zero, suc, ◌+◌, ◌*◌, ◌<◌, Bool, true, false, cond, ◌≢◌, List, [], ◌∷◌, ◌++◌, length, refl}
use Rattle.std.proofs.Common.{sym, ap, ap₂, ◌∙◌, append_assoc, append-nil, ⊎_elim, arith, add-one, suc-mul, length-append}
use Rattle.std.proofs.lemmas.Bool.{cases_eq}
use Rattle.frame.specs.Frames.{FrameValue}
use Rattle.plant.specs.Plants.{sum_to}
use Rattle.plant.proofs.Sums.{sum_one}
use Rattle.tunnel.specs.Tunnels.{keep, gather}

pub keep_append : {X : Type 0} (t : X → Bool) (xs ys : List X) → keep t (xs ++ ys) ≡ keep t xs ++ keep t ys
keep_append t [] ys = refl
keep_append t (x ∷ xs) ys = go (t x) (keep_append t xs ys)
  where
    go : (b : Bool) → keep t (xs ++ ys) ≡ keep t xs ++ keep t ys → cond b (x ∷ keep t (xs ++ ys)) (keep t (xs ++ ys)) ≡ cond b (x ∷ keep t xs) (keep t xs) ++ keep t ys
    go true ih = ap (λ z. x ∷ z) ih
    go false ih = ih

module _ (f g : ℕ → List FrameValue) where
  pub gather_same : (n : ℕ) → ((i : ℕ) → i < n → g i ≡ f i) → gather g n ≡ gather f n
  gather_same zero h = refl
  gather_same (suc n) h =
      let here : g n ≡ f n = h n (omega arith) in
      ap₂ ◌++◌ here (gather_same n (λ i lt. h i (omega arith)))

  -- a frame that joins the first hop joins the end
  pub gather_join : (x : FrameValue) (n : ℕ) → 0 < n → g 0 ≡ f 0 ++ (x ∷ []) → ((i : ℕ) → i < n → i ≢ 0 → g i ≡ f i) → gather g n ≡ gather f n ++ (x ∷ [])
  gather_join x zero lt e h = absurd (omega arith)
  gather_join x (suc zero) lt e h = simp append-nil e
  gather_join x (suc (suc n)) lt e h =
      let ne : suc n ≢ 0 = omega arith in
      let ih = gather_join x (suc n) (omega arith) e (λ i l. h i (omega arith)) in
      ap₂ ◌++◌ (h (suc n) (omega arith) ne) ih ∙ sym (append_assoc (f (suc n)) (gather f (suc n)) (x ∷ []))

  -- a frame that leaves the last hop leaves the front
  pub gather_out : (x : FrameValue) (k n : ℕ) → suc k ≡ n → f k ≡ x ∷ g k → ((i : ℕ) → i < n → i ≢ k → g i ≡ f i) → gather f n ≡ x ∷ gather g n
  gather_out x k n q e h =
      let low = gather_same k (λ i l. h i (omega arith) (omega arith)) in
      let step : gather f (suc k) ≡ x ∷ gather g (suc k) = ap₂ ◌++◌ e (sym low) in
      rw (← q) step

  -- a frame that leaves a hop and joins the next stays where it is
  pub gather_relay : (x : FrameValue) (k n : ℕ) → suc k < n → f k ≡ x ∷ g k → g (suc k) ≡ f (suc k) ++ (x ∷ []) → ((i : ℕ) → i < n → i ≢ k → i ≢ suc k → g i ≡ f i) → gather g n ≡ gather f n
  gather_relay x k zero lt e j h = absurd (omega arith)
  gather_relay x k (suc m) lt e j h = ⊎_elim here (above (λ l. gather_relay x k m l e j (λ i b. h i (omega arith)))) (cases_eq m (suc k))
    where
      next : gather g (suc (suc k)) ≡ gather f (suc (suc k))
      next =
          let low = gather_same k (λ i l. h i (omega arith) (omega arith) (omega arith)) in
          let G : List FrameValue = gather f k in
          ap₂ ◌++◌ j (ap (λ z. g k ++ z) low)
          ∙ append_assoc (f (suc k)) (x ∷ []) (g k ++ G)
          ∙ ap (λ z. f (suc k) ++ (z ++ G)) (sym e)

      here : m ≡ suc k → gather g (suc m) ≡ gather f (suc m)
      here q = rw q next

      above : (suc k < m → gather g m ≡ gather f m) → (m ≢ suc k) → gather g (suc m) ≡ gather f (suc m)
      above ih ne = ap₂ ◌++◌ (h m (omega arith) (omega arith) ne) (ih (omega arith))

-- lengths, each with a weight
module _ (f g : ℕ → List FrameValue) (c : ℕ → ℕ) (k n : ℕ) (in_range : k < n) (others : (i : ℕ) → i < n → i ≢ k → g i ≡ f i) where
  pub weigh_join : (x : FrameValue) → g k ≡ f k ++ (x ∷ []) → sum_to n (λ i. length (g i) * c i) ≡ sum_to n (λ i. length (f i) * c i) + c k
  weigh_join x e =
      let long : length (g k) ≡ suc (length (f k)) = ap length e ∙ length-append (f k) (x ∷ []) ∙ add-one (length (f k)) in
      sum_one (λ i. length (f i) * c i) (λ i. length (g i) * c i) k (c k) n in_range
      (ap (λ z. z * c k) long ∙ suc-mul (length (f k)) (c k))
      (λ i b ne. ap (λ z. length z * c i) (others i b ne))

  pub weigh_out : (x : FrameValue) → f k ≡ x ∷ g k → sum_to n (λ i. length (f i) * c i) ≡ sum_to n (λ i. length (g i) * c i) + c k
  weigh_out x e =
      sum_one (λ i. length (g i) * c i) (λ i. length (f i) * c i) k (c k) n in_range
      (ap (λ z. length z * c k) e ∙ suc-mul (length (g k)) (c k))
      (λ i b ne. ap (λ z. length z * c i) (sym (others i b ne)))
