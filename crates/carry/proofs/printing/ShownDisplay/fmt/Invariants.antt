use Rattle.std.proofs.Common.{length}
use Rattle.frame.specs.Stacks.{entries_of}
use Rattle.carry.proofs.printing.ShownDisplay.fmt.Given as goal

abbrev pub decreases-loop-label : goal.decreases-loop-label
decreases-loop-label g l = length (entries_of l.stack)
