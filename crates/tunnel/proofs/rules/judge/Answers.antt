use Rattle.std.proofs.Common.{sym}
use Rattle.tunnel.proofs.Judges.{broken_exist, broken_through, broken_able, all_kept}
use Rattle.tunnel.proofs.rules.judge.Goals as goal

pub returns-then-not-exist-clause-refused : goal.returns-then-not-exist-clause-refused
returns-then-not-exist-clause-refused g c = sym (broken_exist c.args.path (g.P.Plant.value c.args.below.now) c.if-not-in_range.ensures c.if-not-exist.ensures)

pub returns-then-not-leads_through-clause-refused : goal.returns-then-not-leads_through-clause-refused
returns-then-not-leads_through-clause-refused g c = sym (broken_through c.args.path (g.P.Plant.value c.args.below.now) c.if-not-in_range.ensures c.if-not-exist.ensures c.if-not-leads_through.ensures)

pub returns-then-not-can_carry-clause-refused : goal.returns-then-not-can_carry-clause-refused
returns-then-not-can_carry-clause-refused g c = sym (broken_able c.args.path (g.P.Plant.value c.args.below.now) c.if-not-in_range.ensures c.if-not-exist.ensures c.if-not-leads_through.ensures c.if-not-can_carry.ensures)

pub returns-clause-refused : goal.returns-clause-refused
returns-clause-refused g c = sym (all_kept c.args.path (g.P.Plant.value c.args.below.now) c.if-not-in_range.ensures c.if-not-exist.ensures c.if-not-leads_through.ensures c.if-not-can_carry.ensures)
