use Rattle.std.proofs.Common.{refl, subst, rules}
use Rattle.plant.specs.Answers.{Polled}
use Rattle.model.specs.Calls.{poll}
use Rattle.network.specs.Networks.{poll_answer}
use Rattle.network.proofs.Citing.{stands, going}
use Rattle.network.proofs.Polls.{poll_idle, poll_moved, poll_handed}
use Rattle.network.proofs.network.Network.poll.Goals as goal

pub returns-in_err-runs-clause-did : goal.returns-in_err-runs-clause-did
returns-in_err-runs-clause-did g c = stands c.args.self.now.routers (g.P.Plant.value c.args.self.now.plant) (poll c.args.port) poll_answer c.from_residual.result _ refl (search rules) c.in_err-runs.ensures

pub returns-in-Idle-clause-did : goal.returns-in-Idle-clause-did
returns-in-Idle-clause-did g c =
    let n = c.args.self.now.routers in
    let v = g.P.Plant.value c.args.self.now.plant in
    let u = g.P.Plant.value c.poll-outcome.new.self in
    let old = c.default-place.result in
    poll_idle n v u c.args.port old c.poll-outcome.result.1 c.poll-outcome.new.place (going n.still c.in_ok-runs.ensures) (subst (λ o. Polled o v c.args.port old c.poll-outcome.result.1 c.poll-outcome.new.place u) c.in-Idle.is c.poll-outcome.ensures.polls)

pub returns-in-Moved-clause-did : goal.returns-in-Moved-clause-did
returns-in-Moved-clause-did g c =
    let n = c.args.self.now.routers in
    let v = g.P.Plant.value c.args.self.now.plant in
    let u = g.P.Plant.value c.poll-outcome.new.self in
    let old = c.default-place.result in
    poll_moved n v u c.args.port old c.poll-outcome.result.1 c.poll-outcome.new.place (going n.still c.in_ok-runs.ensures) (subst (λ o. Polled o v c.args.port old c.poll-outcome.result.1 c.poll-outcome.new.place u) c.in-Moved.is c.poll-outcome.ensures.polls)

pub returns-in-Handed-clause-did : goal.returns-in-Handed-clause-did
returns-in-Handed-clause-did g c =
    let n = c.args.self.now.routers in
    let v = g.P.Plant.value c.args.self.now.plant in
    let u = g.P.Plant.value c.poll-outcome.new.self in
    let old = c.default-place.result in
    poll_handed n v u c.args.port old c.poll-outcome.result.1 c.poll-outcome.new.place (going n.still c.in_ok-runs.ensures) (subst (λ o. Polled o v c.args.port old c.poll-outcome.result.1 c.poll-outcome.new.place u) c.in-Handed.is c.poll-outcome.ensures.polls)
    c.arrive-met.result _ _ c.arrive-met.ensures.seen
