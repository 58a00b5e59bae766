use Rattle.std.proofs.Common.{◌≡◌, ℕ, Some, Option, ap, ap₂, ◌∙◌, arith, rules}
use Rattle.model.specs.Tables.{fec_of}
use Rattle.tables.specs.declared.message.Message.{Message}
use Rattle.tables.specs.Reading.{tables_of, unlabelled}
use Rattle.tables.specs.Sending.{news_on}
use Rattle.tables.proofs.Dues.{news_same}
use Rattle.tables.proofs.tables.Tables.news.Goals as goal

pub returns-in_err-label-clause-news : goal.returns-in_err-label-clause-news
returns-in_err-label-clause-news c S w =
    let s = c.args.self.now in
    let is : c.from_residual.result ≡ news_on S c.args.line (tables_of s) c.args.kind c.first_at.result = search rules in
    is ∙ news_same S c.args.line (tables_of s) c.args.kind c.args.stage _ _ (c.first_at.ensures (unlabelled s)) c.partner_of.ensures

pub returns-clause-news : goal.returns-clause-news
returns-clause-news c S w =
    let s = c.args.self.now in
    let t = tables_of s in
    let l = c.in_ok-label.label in
    let is : Some l ≡ c.first_at.result = search rules in
    let begins = w.from c.args.line (omega (arith, w.lines, c.requires)) in
    let from : c.unwrap-router.result ≡ (S.line c.args.line).from = search (rules, begins) in
    let fec : c.fec_of-fec.result ≡ fec_of (t.status (S.line c.args.line).from l) =
    c.fec_of-fec.ensures (unlabelled s) ∙ ap₂ (λ r m. fec_of (t.status r m)) from c.number-label.ensures.same in
    let news : ℕ → ℕ → Option Message = λ f m. Some (record { kind = c.args.kind; fec = f; label = m }) in
    ap₂ news fec c.number-label.ensures.same ∙ ap (news_on S c.args.line t c.args.kind) is
    ∙ news_same S c.args.line t c.args.kind c.args.stage _ _ (c.first_at.ensures (unlabelled s)) c.partner_of.ensures
