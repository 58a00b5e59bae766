use Rattle.std.proofs.Common.{◌-◌, rules, arith}
use borrow.Author.Tests.{tests}
use Rattle.std.proofs.lemmas.Iterator.{cases_from_all, YieldsList-from_range}
use Rattle.tunnel.specs.Inner.{JoinsAt}
use Rattle.tunnel.proofs.Hops.{each_from, joined_hops}
use Rattle.tunnel.proofs.laid.Laid.chained.Goals as goal

pub returns : goal.returns
returns g c =
    let s = (g.P.Plant.value c.args.self.now.below.now).shape in
    let p = c.args.self.now.path.now in
    joined_hops s p c.all.result
    (each_from 1 p.len (JoinsAt s p) c.all.result
    (cases_from_all _ _ c.all.result (JoinsAt s p) (λ x. JoinsAt s p x → ⊥) c.all.ensures.ran (YieldsList-from_range 1 p.len (p.len - 1) (cc) (omega arith)) (λ x q k. search (rules, tests)) (λ x q k. search (rules, tests))))
