-- A list that a function of the index fills is a list padded, where the function reads it. Assumes nothing.
use Rattle.std.proofs.Common.{◌≡◌, ℕ, zero, suc, ◌+◌, ◌<◌, ◌≤◌, List, [], ◌∷◌, length, get_or, sym, refl, ap, ◌∙◌, subst, ⊎_elim, arith}
use Rattle.std.specs.Fn.{Called}
use Rattle.std.specs.Array.{IsFromFnResult, IsFromFnResultFrom}
use Rattle.std.proofs.lemmas.Bool.{cases_eq}
use Rattle.std.proofs.lemmas.List.FromFn.{fill_by_all}
use denote.Param.Members.{Mut}
use Rattle.tunnel.specs.Rules.{padded}

pub padded_length : (n : ℕ) (xs : List ℕ) → length (padded n xs) ≡ n
padded_length zero xs = refl
padded_length (suc n) [] = ap suc (padded_length n [])
padded_length (suc n) (x ∷ xs) = ap suc (padded_length n xs)

pub padded_at : (n : ℕ) (xs : List ℕ) (k : ℕ) → k < n → get_or (padded n xs) k 0 ≡ get_or xs k 0
padded_at zero xs k lt = absurd (omega arith)
padded_at (suc n) [] zero lt = refl
padded_at (suc n) [] (suc k) lt = padded_at n [] k (omega arith)
padded_at (suc n) (x ∷ xs) zero lt = refl
padded_at (suc n) (x ∷ xs) (suc k) lt = padded_at n xs k (omega arith)

-- a closure that changes nothing gives at each index what it gives there at first
module _ {F : Type 0} (g : Mut F (ℕ × Unit {0}) ℕ) (f : F) (h : ℕ → ℕ) (pure : (x r : ℕ) (q : F) → Called g f (x, tt) r q → (q ≡ f) × (r ≡ h x)) (ys : List ℕ) where
  each_at : (i n : ℕ) (p : F) → p ≡ f → IsFromFnResultFrom g p ys i n → (k : ℕ) → i ≤ k → k < i + n → get_or ys k 0 ≡ h k
  each_at i zero p e all k le lt = absurd (omega arith)
  each_at i (suc n) p e all k le lt =
      let here = pure i all.1 all.0 (subst (λ z. Called g z (i, tt) all.1 all.0) e all.3) in
      ⊎_elim (λ (q : k ≡ i). ap (λ z. get_or ys z 0) q ∙ all.2.1 0 ∙ here.1 ∙ ap h (sym q))
      (λ ne. each_at (i + 1) n all.0 here.0 all.4 k (omega arith) (omega arith)) (cases_eq k i)

  pub filled : (n : ℕ) (xs : List ℕ) → ((k : ℕ) → h k ≡ get_or xs k 0) → IsFromFnResult g f ys n → ys ≡ padded n xs
  filled n xs reads made =
      fill_by_all h ys n 0 made.long (λ k lt. each_at 0 n f refl made.each k (omega arith) (omega arith))
      ∙ sym (fill_by_all h (padded n xs) n 0 (padded_length n xs) (λ k lt. padded_at n xs k lt ∙ sym (reads k)))
