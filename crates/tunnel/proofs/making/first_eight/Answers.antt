use Rattle.std.proofs.Common.{rules, get_or, refl}
use borrow.Author.Tests.{tests}
use Rattle.tunnel.proofs.Padding.{filled}
use Rattle.tunnel.proofs.making.first_eight.Goals as goal

pub returns : goal.returns
returns c = filled _ _ (λ k. get_or c.args.lines.now k 0) (λ x r q k. search (rules, tests)) c.from_fn.result 8 c.args.lines.now (λ k. refl) c.from_fn.ensures.items
