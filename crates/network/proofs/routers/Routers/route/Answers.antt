use Rattle.std.proofs.Common.{None, sym, refl, ◌∙◌, rules}
use Rattle.model.specs.Tables.{put2, refresh, with_routes}
use Rattle.model.specs.Calls.{route}
use Rattle.model.proofs.Citing.{did_act}
use Rattle.tables.specs.Reading.{tables_of}
use Rattle.network.specs.Networks.{plan_of, state_of, own_answer}
use Rattle.network.proofs.Citing.{stands, going, runs, stops}
use Rattle.network.proofs.routers.Routers.route.Goals as goal

pub returns-in_err-runs-clause-did : goal.returns-in_err-runs-clause-did
returns-in_err-runs-clause-did c v _ = stands c.args.self.now v (route c.args.router c.args.fec c.args.line) own_answer c.from_residual.result _ refl (search rules) c.in_err-runs.ensures

pub returns-in_err-router-clause-did : goal.returns-in_err-router-clause-did
returns-in_err-router-clause-did c v fits =
    let n = c.args.self.now in
    stops n v (route c.args.router c.args.fec c.args.line) own_answer c.from_residual-in_err-router.result _ refl (search rules) (going n.still c.in_ok-runs.ensures)
    (c.in_err-router.ensures.refused v.shape fits)

pub returns-clause-did : goal.returns-clause-did
returns-clause-did c v fits =
    let n = c.args.self.now in
    let call = route c.args.router c.args.fec c.args.line in
    let t = tables_of n.tables in
    let good = c.in_ok-router.ensures.good in
    let r = good.0 in
    let f = good.1 in
    runs n v call (going n.still c.in_ok-runs.ensures)
    (did_act (plan_of n.plan) (state_of n v) call refl (sym (c.in_ok-router.ensures.refused v.shape fits)) _ refl _
    (c.route.ensures.tables v.shape fits ∙ (λ i. refresh (n.steady.policy i) v.shape (r i) (f i) (with_routes t.owner (put2 t.hop (r i) (f i) c.args.line) t)))
    refl None (refl, refl))
