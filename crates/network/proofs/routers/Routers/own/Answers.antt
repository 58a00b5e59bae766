use Rattle.std.proofs.Common.{None, sym, refl, ◌∙◌, rules}
use Rattle.model.specs.Tables.{put2, refresh, with_routes}
use Rattle.model.specs.Calls.{own}
use Rattle.model.proofs.Citing.{did_act}
use Rattle.tables.specs.Reading.{tables_of}
use Rattle.network.specs.Networks.{plan_of, state_of, own_answer}
use Rattle.network.proofs.Citing.{stands, going, runs, stops}
use Rattle.network.proofs.routers.Routers.own.Goals as goal

pub returns-in_err-runs-clause-did : goal.returns-in_err-runs-clause-did
returns-in_err-runs-clause-did c v _ = stands c.args.self.now v (own c.args.router c.args.fec c.args.mark) own_answer c.from_residual.result _ refl (search rules) c.in_err-runs.ensures

pub returns-in_err-router-clause-did : goal.returns-in_err-router-clause-did
returns-in_err-router-clause-did c v _ =
    let n = c.args.self.now in
    stops n v (own c.args.router c.args.fec c.args.mark) own_answer c.from_residual-in_err-router.result _ refl (search rules) (going n.still c.in_ok-runs.ensures) c.in_err-router.ensures.refused

pub returns-clause-did : goal.returns-clause-did
returns-clause-did c v fits =
    let n = c.args.self.now in
    let call = own c.args.router c.args.fec c.args.mark in
    let t = tables_of n.tables in
    let same = c.in_ok-router.ensures.same in
    let r = same.0 in
    let f = same.1 in
    runs n v call (going n.still c.in_ok-runs.ensures)
    (did_act (plan_of n.plan) (state_of n v) call refl (sym c.in_ok-router.ensures.refused) _ refl _
    (c.own.ensures.tables v.shape fits ∙ (λ i. refresh (n.steady.policy i) v.shape (r i) (f i) (with_routes (put2 t.owner (r i) (f i) (same.2 i)) t.hop t)))
    refl None (refl, refl))
