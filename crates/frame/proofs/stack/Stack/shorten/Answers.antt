use Rattle.std.proofs.Common.{ap, ◌∙◌}
use Rattle.frame.specs.Stacks.{down_from}
use Rattle.frame.proofs.Down.{down_less}
use Rattle.frame.proofs.stack.Stack.shorten.Goals as goal

pub returns : goal.returns
returns c = let s = c.args.self.now in ap (down_from s.entries) c.saturating_sub-self.ensures ∙ down_less s.entries s.len
