use Rattle.std.proofs.Common.{◌≡◌, ◌-◌, ap, ◌∙◌, arith}
use Rattle.model.specs.Packets.{data_frame}
use Rattle.network.proofs.Deals.{forwarded}
use Rattle.network.proofs.network.Network.deal.Goals as goal

pub returns-in-Forward : goal.returns-in-Forward
returns-in-Forward g c =
    let n = c.args.self.now.routers in
    let v = g.P.Plant.value c.args.self.now.plant in
    let ttl : c.saturating_sub.result ≡ c.args.hand.ttl - 1 = omega (arith, c.saturating_sub.ensures) in
    forwarded n v (g.P.Plant.value c.send.new.self) c.args.hand.router c.args.packet c.args.hand.ttl c.in-Forward.line c.in-Forward.label
    c.args.verdict c.in-Forward.is _ (c.data_frame.ensures ∙ ap (data_frame c.args.packet c.in-Forward.label) ttl) c.send.result c.send.ensures.sends
