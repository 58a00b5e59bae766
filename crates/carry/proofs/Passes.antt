-- When no port is busy, nothing waits. Assumes nothing.
use Rattle.std.proofs.Common.{◌≡◌, ℕ, ◌<◌, Bool, true, false, ◌⊎◌, sym, ◌∙◌, ⊎_elim, arith}
use Rattle.std.proofs.lemmas.Bool.{cases_eq}
use Rattle.plant.specs.Plants.{PlantValue, Lawful}
use Rattle.plant.proofs.Sums.{sum_none}
use Rattle.carry.specs.Sweeps.{Passed, Passing}

pub all_passed : (v w : PlantValue) (n : ℕ) (some : Bool) → Lawful v → n ≡ v.shape.ports → Passing v n some w → Passed v some w
all_passed v w n true law e h = h
all_passed v w n false law e h = (h.0, sym law.counted ∙ sum_none v.counts v.shape.ports (λ p lt. none p lt (cases_eq (v.counts p) 0)))
  where
    none : (p : ℕ) → p < v.shape.ports → (v.counts p ≡ 0) ⊎ (v.counts p ≡ 0 → ⊥) → v.counts p ≡ 0
    none p lt = ⊎_elim (λ z. z) (λ ne. absurd (h.1 p (omega arith) (lt, omega arith)))
