use Rattle.std.proofs.Common.{◌≡◌, ap, refl, ◌∙◌, rules}
use Rattle.model.specs.Tables.{may_bind, refresh}
use Rattle.tables.specs.Reading.{tables_of, unlabelled}
use Rattle.tables.proofs.tables.Tables.refresh.Goals as goal

pub returns : goal.returns
returns c =
    let s = c.args.self.now in
    let f : c.number-fec.result ≡ c.args.fec = c.number-fec.ensures.same in
    let may : may_bind s.independent c.args.router c.number-fec.result (tables_of s) ≡ c.may_bind-may.result = search rules in
    record {
      tables = λ S w. c.refresh.ensures.refreshed s.independent S (unlabelled s) w may ∙ ap (λ f. refresh s.independent S c.args.router f (tables_of s)) f;
      stays = record { policy = refl; wiring = c.refresh.ensures.kept; lines = refl };
    }
