use Rattle.std.proofs.Common.{◌<◌, ◌≤◌, rules, arith}
use borrow.Author.Tests.{tests}
use Rattle.std.proofs.lemmas.Iterator.{cases_from_all, YieldsList-from_slice}
use Rattle.tunnel.proofs.Hops.{each_hop}
use Rattle.tunnel.proofs.rules.exist.Goals as goal

pub returns : goal.returns
returns g c =
    let s = (g.P.Plant.value c.args.below.now).shape in
    each_hop c.args.path.now c.hops.result.now c.hops.ensures (λ x. x < s.lines) (λ x. s.lines ≤ x) (λ x no yes. omega arith) c.all.result
    (cases_from_all _ _ c.all.result (λ x. x < s.lines) (λ x. s.lines ≤ x) c.all.ensures.ran (YieldsList-from_slice c.hops.result.now cc) (λ x q k. search (rules, tests)) (λ x q k. search (rules, tests)))
