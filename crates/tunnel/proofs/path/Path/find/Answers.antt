use Rattle.std.proofs.Common.{◌≡◌, ◌≢◌, rules}
use borrow.Author.Tests.{tests}
use Rattle.std.proofs.lemmas.Iterator.{IsFirst-from_position, YieldsList-from_slice}
use Rattle.tunnel.proofs.Hops.{found}
use Rattle.tunnel.proofs.path.Path.find.Goals as goal

pub returns : goal.returns
returns c = found c.args.self.now c.hops.result.now c.hops.ensures c.args.line c.position.result
    (IsFirst-from_position _ _ _ (λ x. x ≡ c.args.line) (λ x. x ≢ c.args.line) c.position.ensures.ran (YieldsList-from_slice c.hops.result.now cc) (λ x q k. search (rules, tests)) (λ x q k. search (rules, tests)))
