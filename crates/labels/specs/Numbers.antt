-- The stages as the model counts them. Assumes nothing.
use Rattle.std.specs.Prelude.{◌≡◌, ℕ}
use Rattle.model.specs.Tables.{untold, mapping_due, told, withdraw_due, withdrawn}
use Rattle.labels.specs.declared.stage.Stage.{Stage}
use Rattle.labels.specs.declared.stage.Stage.TheVariants.{Untold, MappingDue, Told, WithdrawDue, Withdrawn}

abbrev pub stage_number : Stage → ℕ
stage_number Untold = untold
stage_number MappingDue = mapping_due
stage_number Told = told
stage_number WithdrawDue = withdraw_due
stage_number Withdrawn = withdrawn

-- what news makes of a stage is, in the model's numbers, c
abbrev pub Follows : (Stage → Stage → Type 0) → (ℕ → ℕ) → Type 0
Follows R c = (x y : Stage) → R x y → stage_number y ≡ c (stage_number x)
