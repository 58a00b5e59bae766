use Rattle.std.proofs.Common.{◌<◌, sym, subst}
use Rattle.tunnel.specs.Paths.{way_within}
use Rattle.tunnel.proofs.laid.Laid.at.Goals as goal

pub returns : goal.returns
returns g c =
    let t = c.args.self.now in
    let s = (g.P.Plant.value t.below.now).shape in
    record {
      is = c.at.ensures;
      exists = subst (λ n. n < s.lines) (sym c.at.ensures) (way_within t.path.now s.lines (g.met.P.Plant.lawful t.below.now).shape.even t.exist c.args.hop.back c.args.hop.index c.requires);
    }
