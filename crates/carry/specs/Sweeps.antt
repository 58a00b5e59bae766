-- What polls come to when only their outcome is kept. Assumes nothing.
use Rattle.std.specs.Prelude.{◌≡◌, ℕ, ◌+◌, ◌<◌, Bool, true, false}
use Rattle.plant.specs.declared.outcome.Outcome.{Outcome}
use Rattle.plant.specs.declared.outcome.Outcome.TheVariants.{Idle, Moved, Handed}
use Rattle.plant.specs.Plants.{PlantValue, total}
use Rattle.plant.specs.Answers.{Busy}

-- a poll is idle at a port that is not busy, and changes nothing then; else hops left falls by one
abbrev pub Swept : PlantValue → ℕ → Outcome → PlantValue → Type 0
Swept v p Idle w = (Busy v p → ⊥) × (w ≡ v)
Swept v p Moved w = (w.shape ≡ v.shape) × (w.hops + 1 ≡ v.hops)
Swept v p Handed w = (w.shape ≡ v.shape) × (w.hops + 1 ≡ v.hops)

-- after a poll of every port: hops left fell, or nothing waits and nothing changed
abbrev pub Passed : PlantValue → Bool → PlantValue → Type 0
Passed v true w = w.hops < v.hops
Passed v false w = (w ≡ v) × (total v ≡ 0)

-- after a poll of each of the first n ports: hops left fell, or none of these is busy and nothing changed
abbrev pub Passing : PlantValue → ℕ → Bool → PlantValue → Type 0
Passing v n true w = w.hops < v.hops
Passing v n false w = (w ≡ v) × ((p : ℕ) → p < n → Busy v p → ⊥)
