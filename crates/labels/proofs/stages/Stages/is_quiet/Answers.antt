use Rattle.std.proofs.Common.{ℕ, Bool, not, ◌&&◌, ◌==◌, ap, ◌∙◌, refl, rules, arith}
use Rattle.std.proofs.lemmas.Iterator.{YieldsList-from_range}
use Rattle.std.proofs.lemmas.Iterator.Search.{any_from_yields_List}
use borrow.Author.Tests.{tests}
use Rattle.model.specs.Tables.{untold}
use Rattle.labels.specs.Stagings.{stages_of}
use Rattle.labels.specs.Wirings.{leads_into}
use Rattle.labels.proofs.Firsts.{any_first}
use Rattle.labels.proofs.stages.Stages.is_quiet.Goals as goal

pub returns : goal.returns
returns c =
    let w = c.args.wiring.now in
    let held : ℕ → Bool = λ e. leads_into w e c.args.router && not (stages_of c.args.self.now e c.args.label == untold) in
    ap not (any_from_yields_List held _ _ c.any.result c.any.ensures.ran (YieldsList-from_range 0 w.lines w.lines refl (omega arith))
    (λ x b q k. search (rules, tests)) ∙ any_first held 0 w.lines)
