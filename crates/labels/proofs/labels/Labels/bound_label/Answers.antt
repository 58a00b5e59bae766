use Rattle.std.proofs.Common.{rules}
use Rattle.model.specs.Tables.{is_bound_to}
use Rattle.labels.specs.Pools.{status_of}
use Rattle.labels.proofs.labels.Labels.bound_label.Goals as goal

pub returns : goal.returns
returns c t = c.first.ensures (λ x. is_bound_to c.args.fec (status_of x)) (λ x b r. search rules)
