use Rattle.std.proofs.Common.{◌≡◌, ap, ◌∙◌, rules}
use Rattle.std.specs.Option.{option_map}
use Rattle.tables.specs.Reading.{tables_of}
use Rattle.tables.specs.Sending.{or_news, first_news}
use Rattle.tables.proofs.Dues.{release, is_next}
use Rattle.tables.proofs.tables.Tables.next_message.Goals as goal

pub returns-clause-due : goal.returns-clause-due
returns-clause-due c S w =
    let e = c.args.line in
    let t = tables_of c.args.self.now in
    let news = first_news S e t in
    let mapped : c.map.result ≡ option_map (release S e t) c.first.result = search rules in
    let chosen : c.or_else.result ≡ or_news c.map.result news = search rules in
    chosen ∙ ap (λ o. or_news o news) mapped ∙ is_next S e t c.first.result c.first.ensures
