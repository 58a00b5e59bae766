use Rattle.std.proofs.Common.{ap, ◌∙◌}
use Rattle.labels.specs.declared.stage.Stage.TheVariants.{Untold}
use Rattle.labels.specs.Numbers.{stage_number}
use Rattle.labels.specs.Stagings.{stage_at}
use Rattle.grid.proofs.Puts.{put2_through}
use Rattle.labels.proofs.stages.Stages.put.Goals as goal

pub returns : goal.returns
returns c =
    ap (λ g a b. stage_number (g a b)) (c.set.ensures Untold)
    ∙ put2_through stage_number (stage_at c.args.self.now) c.args.line c.args.label c.args.stage
