-- How many of the first elements of a list pass, and sums over the first numbers. Assumes nothing.
use Rattle.std.proofs.Common.{◌≡◌, ℕ, zero, suc, ◌+◌, ◌*◌, ◌<◌, ◌≤◌, Bool, true, false, cond, List, [], ◌∷◌, map, length, get_or, Some, Option, sym, refl, ap, ap₂, ◌∙◌, add-one, arith}
use lib.ListN.{length-map}
use Rattle.std.specs.List.{filter, range_with_len, sum}
use Rattle.std.proofs.lemmas.List.FromFn.{sum_by-map-range_with_len_more}
use Rattle.plant.specs.Plants.{sum_to}
use Rattle.tunnel.specs.Tunnels.{keep}

module _ {X : Type 0} (t : X → Bool) where
  pub keep_most : (xs : List X) → length (keep t xs) ≤ length xs
  keep_most [] = omega arith
  keep_most (x ∷ xs) = go (t x) (keep_most xs)
    where
      go : (b : Bool) → length (keep t xs) ≤ length xs → length (cond b (x ∷ keep t xs) (keep t xs)) ≤ suc (length xs)
      go true h = omega arith
      go false h = omega arith

  -- the places at which an element passes, read
  pub places_kept : (f : ℕ → X) (a : ℕ) (xs : List X) (d : X) → ((i : ℕ) → i < length xs → f (a + i) ≡ get_or xs i d) → map f (filter (λ i. t (f i)) (range_with_len a (length xs))) ≡ keep t xs
  places_kept f a [] d h = refl
  places_kept f a (x ∷ xs) d h = go (t (f a)) (places_kept f (a + 1) xs d (λ i lt. let z : a + 1 + i ≡ a + suc i = omega arith in ap f z ∙ h (suc i) (omega arith))) ∙ ap (λ y. cond (t y) (x ∷ keep t xs) (keep t xs)) first
    where
      first : f a ≡ x
      first = let z : a ≡ a + 0 = omega arith in ap f z ∙ h 0 (omega arith)

      go : (b : Bool) → map f (filter (λ i. t (f i)) (range_with_len (a + 1) (length xs))) ≡ keep t xs
          → map f (cond b (a ∷ filter (λ i. t (f i)) (range_with_len (a + 1) (length xs))) (filter (λ i. t (f i)) (range_with_len (a + 1) (length xs)))) ≡ cond b (x ∷ keep t xs) (keep t xs)
      go true later = ap₂ ◌∷◌ first later
      go false later = later

  pub places_count : (xs : List X) (d : X) → length (filter (λ i. t (get_or xs i d)) (range_with_len 0 (length xs))) ≡ length (keep t xs)
  places_count xs d =
      sym (length-map (filter (λ i. t (get_or xs i d)) (range_with_len 0 (length xs))) (λ i. get_or xs i d))
      ∙ ap length (places_kept (λ i. get_or xs i d) 0 xs d (λ i lt. let z : 0 + i ≡ i = omega arith in ap (λ n. get_or xs n d) z))

-- the elements of a list, read place by place
pub read_all : {X : Type 0} (f : ℕ → X) (a : ℕ) (xs : List X) (d : X) → ((i : ℕ) → i < length xs → f (a + i) ≡ get_or xs i d) → map f (range_with_len a (length xs)) ≡ xs
read_all f a [] d h = refl
read_all f a (x ∷ xs) d h = ap₂ ◌∷◌ (let z : a ≡ a + 0 = omega arith in ap f z ∙ h 0 (omega arith))
    (read_all f (a + 1) xs d (λ i lt. let z : a + 1 + i ≡ a + suc i = omega arith in ap f z ∙ h (suc i) (omega arith)))

-- the library's filter, over a list of which each is there, and the tunnel's own
pub filter_some : {X : Type 0} (t : Option X → Bool) (u : X → Bool) → ((x : X) → t (Some x) ≡ u x) → (xs : List X) → filter t (map Some xs) ≡ map Some (keep u xs)
filter_some t u h [] = refl
filter_some t u h (x ∷ xs) = ap₂ (λ b ys. cond b (Some x ∷ ys) ys) (h x) (filter_some t u h xs) ∙ go (u x)
  where
    go : (b : Bool) → cond b (Some x ∷ map Some (keep u xs)) (map Some (keep u xs)) ≡ map Some (cond b (x ∷ keep u xs) (keep u xs))
    go true = refl
    go false = refl

-- the sum of the values at the first numbers, as a list
pub sum_first : (h : ℕ → ℕ) (n : ℕ) → sum (map h (range_with_len 0 n)) ≡ sum_to n h
sum_first h zero = refl
sum_first h (suc n) =
    let more = sum_by-map-range_with_len_more (λ (x : ℕ). x) h 0 n n (omega arith) in
    let one : sum (map h (range_with_len 0 (suc n))) ≡ sum (map h (range_with_len 0 (n + 1))) = ap (λ m. sum (map h (range_with_len 0 m))) (sym (add-one n)) in
    omega (arith, sum_first h n, more, one)

pub sum_most : (h : ℕ → ℕ) (m n : ℕ) → ((i : ℕ) → i < n → h i ≤ m) → sum_to n h ≤ n * m
sum_most h m zero b = omega arith
sum_most h m (suc n) b =
    let a = sum_most h m n (λ i lt. b i (omega arith)) in
    let c = b n (omega arith) in
    let d : suc n * m ≡ n * m + m = omega arith in
    omega (arith, a, c, d)

pub filter_like : {X : Type 0} (t u : X → Bool) → ((x : X) → t x ≡ u x) → (xs : List X) → filter t xs ≡ filter u xs
filter_like t u h [] = refl
filter_like t u h (x ∷ xs) = ap₂ (λ b ys. cond b (x ∷ ys) ys) (h x) (filter_like t u h xs)
