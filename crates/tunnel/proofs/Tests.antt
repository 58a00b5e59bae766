-- A test of each of the first numbers. Assumes nothing.
use Rattle.std.proofs.Common.{ℕ, zero, suc, ◌<◌, Bool, sym, refl, subst, ⊎_elim, arith}
use Rattle.std.proofs.lemmas.Bool.{cases_eq}
use Rattle.plant.proofs.Decides.{Decides, decides_as, decides_and}
use Rattle.tunnel.specs.Rules.{all_to}

pub decides_all : (n : ℕ) (t : ℕ → Bool) (P : ℕ → Type 0) → ((i : ℕ) → i < n → Decides (t i) (P i)) → Decides (all_to n t) ((i : ℕ) → i < n → P i)
decides_all zero t P h = record { sure = λ e i lt. absurd (omega arith); seen = λ f. refl }
decides_all (suc n) t P h = decides_as (decides_and (h n (omega arith)) (decides_all n t P (λ i lt. h i (omega arith))))
    (λ p i lt. ⊎_elim (λ e. subst P (sym e) p.0) (λ ne. p.1 i (omega arith)) (cases_eq i n))
    (λ f. (f n (omega arith), λ i lt. f i (omega arith)))
