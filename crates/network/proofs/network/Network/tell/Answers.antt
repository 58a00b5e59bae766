use Rattle.std.proofs.Common.{◌≡◌, sym, refl, ◌∙◌, subst, arith, rules}
use Rattle.model.specs.Calls.{tell}
use Rattle.tables.specs.Reading.{Turned}
use Rattle.tables.specs.Sending.{after_sent}
use Rattle.network.specs.Networks.{tell_answer}
use Rattle.network.proofs.Citing.{stands, going, refuses}
use Rattle.network.proofs.Tells.{no_line, line_full, told_none, told}
use Rattle.network.proofs.network.Network.tell.Goals as goal

pub returns-in_err-runs-clause-did : goal.returns-in_err-runs-clause-did
returns-in_err-runs-clause-did g c = stands c.args.self.now.routers (g.P.Plant.value c.args.self.now.plant) (tell c.args.line) tell_answer c.from_residual.result _ refl (search rules) c.in_err-runs.ensures

pub returns-then-line-lines-clause-did : goal.returns-then-line-lines-clause-did
returns-then-line-lines-clause-did g c =
    let n = c.args.self.now.routers in
    let v = g.P.Plant.value c.args.self.now.plant in
    let on = going n.still c.in_ok-runs.ensures in
    refuses n v (tell c.args.line) on 6 (no_line n v c.args.line on (omega (arith, c.lines.ensures, c.if-line-lines.true)))

pub returns-in_default-clause-did : goal.returns-in_default-clause-did
returns-in_default-clause-did g c =
    let s = c.args.self.now in
    let v = g.P.Plant.value s.plant in
    told_none s.routers v c.args.line (going s.routers.still c.in_ok-runs.ensures) (omega (arith, c.lines.ensures, c.if-line-lines.false)) (c.in_default.ensures.due v.shape s.fits)

pub returns-then-is_full-clause-did : goal.returns-then-is_full-clause-did
returns-then-is_full-clause-did g c =
    let s = c.args.self.now in
    let v = g.P.Plant.value s.plant in
    let on = going s.routers.still c.in_ok-runs.ensures in
    refuses s.routers v (tell c.args.line) on 23 (line_full s.routers v c.args.line on (omega (arith, c.lines.ensures, c.if-line-lines.false)) c.in-Some.message
    (c.in-Some.ensures.due v.shape s.fits) (sym c.is_full.ensures ∙ c.if-is_full.true))

pub returns-clause-did : goal.returns-clause-did
returns-clause-did g c =
    let s = c.args.self.now in
    let v = g.P.Plant.value s.plant in
    let t = c.sent.new.self in
    let x = c.in-Some.message in
    let line : c.unwrap.result ≡ c.args.line = search rules in
    told s.routers v c.args.line (going s.routers.still c.in_ok-runs.ensures) (omega (arith, c.lines.ensures, c.if-line-lines.false)) t (g.P.Plant.value c.send.new.self) x _ c.send.result (sym c.is_full.ensures ∙ c.if-is_full.false)
    (c.in-Some.ensures.due v.shape s.fits) c.message_frame.ensures c.send.ensures.sends (subst (λ l. Turned s.routers.tables (λ m. after_sent l x m) t) line (c.sent.ensures.sent c.in-Some.ensures.real.0 c.in-Some.ensures.real.1))
