use Rattle.std.proofs.Common.{ap}
use Rattle.labels.specs.Numbers.{stage_number}
use Rattle.labels.proofs.stages.Stages.new.Goals as goal

pub returns : goal.returns
returns c line label = ap (λ g. stage_number (g line label)) c.filled.ensures
