-- What the array of stages stands for. Assumes nothing.
use Rattle.std.specs.Prelude.{ℕ}
use Rattle.labels.specs.declared.stage.Stage.{Stage}
use Rattle.labels.specs.declared.stage.Stage.TheVariants.{Untold}
use Rattle.labels.specs.declared.stages.Stages.{Stages}
use Rattle.labels.specs.Numbers.{stage_number}
use Rattle.labels.specs.Arrays.{by_label}

-- line, label
abbrev pub stage_at : Stages → ℕ → ℕ → Stage
stage_at s = by_label 48 Untold s.at.cells

-- the same in the model's numbers
abbrev pub stages_of : Stages → ℕ → ℕ → ℕ
stages_of s e l = stage_number (stage_at s e l)
