use Rattle.std.proofs.Common.{◌∙◌, ap₂}
use Rattle.frame.specs.Stacks.{push_refusal}
use Rattle.tunnel.proofs.Pushes.{next_fits}
use Rattle.tunnel.proofs.polling.relabel.Goals as goal

pub push_sure-requires : goal.push_sure-requires
push_sure-requires c = ap₂ push_refusal c.pop.ensures.rest c.next_outer-outer.ensures ∙ next_fits c.args.frame.stack c.args.label c.requires.low c.requires.wide
