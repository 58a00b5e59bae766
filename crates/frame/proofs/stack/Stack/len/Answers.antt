use Rattle.frame.proofs.Down.{length-down_from}
use Rattle.frame.proofs.stack.Stack.len.Goals as goal

pub returns : goal.returns
returns c = length-down_from c.args.self.now.entries c.args.self.now.len
