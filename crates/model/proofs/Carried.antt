-- A plant's lists as lists of what their frames mean: one list changed, and how often a packet is carried. Assumes nothing.
use Rattle.std.proofs.Common.{◌≡◌, ℕ, ◌+◌, ◌-◌, ◌<◌, ◌≤◌, Bool, false, List, [], ◌∷◌, ◌++◌, map, length, sym, refl, ap, ◌∙◌, inl, inr, arith}
use Rattle.std.proofs.lemmas.Bool.{cases_eq, cases_lt}
use Rattle.std.proofs.lemmas.List.{map_push}
use Rattle.frame.specs.Frames.{FrameValue}
use Rattle.plant.specs.Plants.{Shape, PlantValue, over_kept, sum_to}
use Rattle.plant.specs.Answers.{Joins}
use Rattle.plant.proofs.Sums.{sum_one}
use Rattle.model.specs.Tables.{put}
use Rattle.model.specs.Promises.{one}
use Rattle.model.proofs.Logical.{Item, release, packet, note, good, wire}
use Rattle.model.proofs.Lists.{weigh}
use Rattle.model.proofs.Goods.{holds}
use Rattle.model.proofs.Views.{put_here, put_there, carries, goods_of}

-- the frames that wait on the n lines of a plant are those of q
abbrev pub Carries : ℕ → PlantValue → (ℕ → List Item) → Type 0
Carries n v q = (e : ℕ) → e < n → v.waiting e ≡ map wire (q e)

-- one list becomes that of xs, the others stay
pub carries_put : {n : ℕ} (v w : PlantValue) (q : ℕ → List Item) (e₀ : ℕ) (xs : List Item) → Carries n v q → w.waiting e₀ ≡ map wire xs
    → ((e : ℕ) → (e ≡ e₀ → ⊥) → w.waiting e ≡ v.waiting e) → Carries n w (put q e₀ xs)
carries_put v w q e₀ xs c here others e le = elim (cases_eq e e₀) [
  | inl u ↦ ap w.waiting u ∙ here ∙ ap (map wire) (sym (put_here q e₀ xs e u))
  | inr m ↦ others e m ∙ c e le ∙ ap (map wire) (sym (put_there q e₀ xs e m))
]

pub carries_joined : {n : ℕ} {v w : PlantValue} (q : ℕ → List Item) (e₀ : ℕ) (x : Item) → Carries n v q → e₀ < n → Joins v e₀ (wire x) w
    → Carries n w (put q e₀ (q e₀ ++ x ∷ []))
carries_joined {v = v} {w = w} q e₀ x c le j =
    carries_put v w q e₀ (q e₀ ++ x ∷ []) c (j.here ∙ ap (λ r. r ++ wire x ∷ []) (c e₀ le) ∙ sym (map_push wire (q e₀) x)) j.others

-- the oldest frame is the wire of the oldest of q
pub carries_first : (q : List Item) (y : FrameValue) (ys : List FrameValue) → y ∷ ys ≡ map wire q
    → (x : Item) × (xs : List Item) × (q ≡ x ∷ xs) × (y ≡ wire x) × (ys ≡ map wire xs)
carries_first [] y ys e = absurd (cc)
carries_first (x ∷ xs) y ys e = (x, xs, refl, cc, cc)

-- how many frames of a list carry p
abbrev pub loads : ℕ → List Item → ℕ
loads p xs = weigh (carries p) xs

pub loads_goods : (p : ℕ) (xs : List Item) → loads p xs ≡ weigh (holds p) (goods_of xs)
loads_goods p [] = refl
loads_goods p (note n ∷ xs) = omega (arith, loads_goods p xs)
loads_goods p (good (release f l) ∷ xs) = omega (arith, loads_goods p xs)
loads_goods p (good (packet o l t) ∷ xs) = omega (arith, loads_goods p xs)

-- a sum of loads of which one list changes
pub sum_put : (n : ℕ) (q : ℕ → List Item) (e : ℕ) → e < n → (xs : List Item) (p : ℕ)
    → sum_to n (λ i. loads p (put q e xs i)) + loads p (q e) ≡ sum_to n (λ i. loads p (q i)) + loads p xs
sum_put n q e le xs p =
    let g : ℕ → ℕ = λ i. loads p (q i) in
    let h : ℕ → ℕ = λ i. loads p (put q e xs i) in
    let here = ap (loads p) (put_here q e xs e refl) in
    let there = λ (j : ℕ) (m : j ≡ e → ⊥). ap (loads p) (put_there q e xs j m) in
    elim (cases_lt (h e) (g e)) [
      | inl u ↦ omega (arith, here, sum_one h g e (g e - h e) n le (omega arith) (λ j _ m. sym (there j m)))
      | inr u ↦ omega (arith, here, sum_one g h e (h e - g e) n le (omega arith) (λ j _ m. there j m))
    ]

-- a frame that every plant of this shape takes, if the line is not full
abbrev pub Light : Shape → Item → Type 0
Light S x = (over_kept S.kept (wire x).stack ≡ false) × (length (wire x).stack ≤ S.depth)

pub one_most : (b : Bool) → one b ≤ 1
one_most b = grind arith
