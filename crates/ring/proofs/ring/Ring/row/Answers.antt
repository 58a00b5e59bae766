use Rattle.std.proofs.Common.{vec_items, arith}
use Rattle.std.proofs.lemmas.Grind.{common_steps}
use Rattle.ring.proofs.Told.{told_len}
use Rattle.ring.proofs.ring.Ring.row.Goals as goal

pub returns-clause-row : goal.returns-clause-row
returns-clause-row c = grind (arith, common_steps)

pub returns-clause-len : goal.returns-clause-len
returns-clause-len c = let s = c.args.self.now in told_len s.rows s.lines (vec_items s.places) c.args.line _ (returns-clause-row c)
