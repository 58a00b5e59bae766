use Rattle.tunnel.proofs.Reading.{told_got}
use Rattle.tunnel.proofs.open.Open.told.Goals as goal

pub returns : goal.returns
returns g c = told_got (g.P.Plant.value c.args.self.now.below.now) c.args.line c.args.place c.waiting.result c.waiting.ensures
