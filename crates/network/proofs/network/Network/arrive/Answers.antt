use Rattle.frame.specs.declared.kind.Kind.TheVariants.{Data, Mapping, Withdraw, Release}
use Rattle.frame.specs.Frames.{frame_value}
use Rattle.network.proofs.Arrivals.{seen_kind, heard, still_fits}
use Rattle.network.proofs.network.Network.arrive.Goals as goal

pub invariant_of-self : goal.invariant_of-self
invariant_of-self g c =
    let s = c.args.self.now in
    record { fits = still_fits s.routers (g.P.Plant.value s.plant) s.fits c.args.line (frame_value c.args.frame.now) Mapping c.mapping.result _ c.mapping.ensures }

pub invariant_of-self-in-Withdraw : goal.invariant_of-self-in-Withdraw
invariant_of-self-in-Withdraw g c =
    let s = c.args.self.now in
    record { fits = still_fits s.routers (g.P.Plant.value s.plant) s.fits c.args.line (frame_value c.args.frame.now) Withdraw c.withdraw.result _ c.withdraw.ensures }

pub invariant_of-self-in-Release : goal.invariant_of-self-in-Release
invariant_of-self-in-Release g c =
    let s = c.args.self.now in
    record { fits = still_fits s.routers (g.P.Plant.value s.plant) s.fits c.args.line (frame_value c.args.frame.now) Release c.release.result _ c.release.ensures }

pub returns-in-Data : goal.returns-in-Data
returns-in-Data g c =
    let x = frame_value c.args.frame.now in
    record { seen = seen_kind c.args.self.now.routers (g.P.Plant.value c.args.self.now.plant) c.args.line x _ _ _ Data c.in-Data.is (c.packet.ensures.seen x.b) }

pub returns-in-Mapping : goal.returns-in-Mapping
returns-in-Mapping g c =
    let s = c.args.self.now in
    record { seen = heard s.routers (g.P.Plant.value s.plant) s.fits c.args.line (frame_value c.args.frame.now) Mapping c.mapping.result _ c.mapping.ensures c.in-Mapping.is }

pub returns-in-Withdraw : goal.returns-in-Withdraw
returns-in-Withdraw g c =
    let s = c.args.self.now in
    record { seen = heard s.routers (g.P.Plant.value s.plant) s.fits c.args.line (frame_value c.args.frame.now) Withdraw c.withdraw.result _ c.withdraw.ensures c.in-Withdraw.is }

pub returns-in-Release : goal.returns-in-Release
returns-in-Release g c =
    let s = c.args.self.now in
    record { seen = heard s.routers (g.P.Plant.value s.plant) s.fits c.args.line (frame_value c.args.frame.now) Release c.release.result _ c.release.ensures c.in-Release.is }
