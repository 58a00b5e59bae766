use Rattle.std.proofs.Common.{rules}
use borrow.Author.Tests.{tests}
use Rattle.std.proofs.lemmas.Iterator.{cases_from_all, YieldsList-from_slice}
use Rattle.tunnel.specs.Inner.{WideAt}
use Rattle.tunnel.proofs.Hops.{each_hop, wide_hops}
use Rattle.tunnel.proofs.laid.Laid.wide.Goals as goal

pub returns : goal.returns
returns g c =
    let s = (g.P.Plant.value c.args.self.now.below.now).shape in
    let p = c.args.self.now.path.now in
    wide_hops s p c.args.self.now.exist c.all.result
    (each_hop p c.hops.result.now c.hops.ensures (WideAt s p.window) (λ x. WideAt s p.window x → ⊥) (λ x no yes. no yes) c.all.result
    (cases_from_all _ _ c.all.result (WideAt s p.window) (λ x. WideAt s p.window x → ⊥) c.all.ensures.ran (YieldsList-from_slice c.hops.result.now cc) (λ x q k. search (rules, tests)) (λ x q k. search (rules, tests))))
