use Rattle.std.proofs.Common.{◌≡◌, None, sym, refl, ap, ◌∙◌, subst, rules}
use Rattle.model.specs.Calls.{done, inject, inject_refusal, entry_verdict}
use Rattle.model.specs.History.{Did}
use Rattle.network.specs.declared.hand.InHand.{InHand}
use Rattle.network.specs.Networks.{plan_of, state_of, inject_answer}
use Rattle.network.proofs.Citing.{stands, going, stops}
use Rattle.network.proofs.Doing.{injected}
use Rattle.network.proofs.network.Network.inject.Goals as goal

pub returns-in_err-runs-clause-did : goal.returns-in_err-runs-clause-did
returns-in_err-runs-clause-did g c =
    stands c.args.self.now.routers (g.P.Plant.value c.args.self.now.plant) (inject c.args.router c.args.address c.args.ttl) inject_answer c.from_residual.result _ refl (search rules) c.in_err-runs.ensures

pub returns-in_err-hand-clause-did : goal.returns-in_err-hand-clause-did
returns-in_err-hand-clause-did g c =
    let n = c.args.self.now.routers in
    let v = g.P.Plant.value c.args.self.now.plant in
    stops n v (inject c.args.router c.args.address c.args.ttl) inject_answer c.from_residual-in_err-hand.result _ refl (search rules) (going n.still c.in_ok-runs.ensures) (c.in_err-hand.ensures.refused v)

pub returns-clause-did : goal.returns-clause-did
returns-clause-did g c =
    let n = c.args.self.now.routers in
    let v = g.P.Plant.value c.args.self.now.plant in
    let a = c.args.address in
    let n₂ = c.deal.new.self.routers in
    let w = g.P.Plant.value c.deal.new.self.plant in
    let hand = c.in_ok-hand.hand in
    let same = c.in_ok-hand.ensures.good.0 in
    let entered = c.enter-packet.ensures in
    subst (λ (h : InHand). Did n.still (plan_of n.plan) (state_of n v) (inject h.router a h.ttl) (done c.enter-packet.result) (state_of n₂ w)) same
    (injected n c.enter-packet.new.self n₂ v w hand.router a hand.ttl c.enter-packet.result _ (going n.still c.in_ok-runs.ensures)
    (subst (λ (h : InHand). inject_refusal (plan_of n.plan) h.router h.ttl (state_of n v) ≡ None) (sym same) (sym (c.in_ok-hand.ensures.refused v))) entered.number
    (c.entry_verdict-verdict.ensures ∙ ap (λ o. entry_verdict hand.router hand.ttl o (state_of n v)) c.fec_of-fec.ensures.found)
    entered.tables entered.book c.deal.ensures)
