use Rattle.std.proofs.Common.{rules}
use borrow.Author.Tests.{tests}
use Rattle.tunnel.proofs.Reading.{told_top}
use Rattle.tunnel.proofs.open.Open.labelled.Goals as goal

pub returns : goal.returns
returns g c =
    told_top (g.P.Plant.value c.args.self.now.below.now) c.args.line c.args.place c.args.label c.waiting.result c.waiting.ensures c.is_some_and.result
    _ (λ x k. search (rules, tests)) c.is_some_and.ensures
