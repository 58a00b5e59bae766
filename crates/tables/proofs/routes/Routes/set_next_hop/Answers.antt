use Rattle.std.proofs.Common.{◌≡◌, true, None}
use Rattle.grid.specs.Grids.{grid_at}
use Rattle.grid.proofs.Puts.{all_put2}
use Rattle.tables.specs.Rows.{is_below}
use Rattle.tables.specs.Grids.{hops_of}
use Rattle.tables.proofs.routes.Routes.set_next_hop.Goals as goal

pub returns-clause-hops : goal.returns-clause-hops
returns-clause-hops c = c.set.ensures None

pub invariant_of-self : goal.invariant_of-self
invariant_of-self c =
    let s = c.args.self.now in
    record {
      real = all_put2 (λ o. is_below s.lines o ≡ true) (hops_of s) (grid_at 16 0 32 None c.set.new.self.cells) c.args.router c.args.fec c.args.line
          (c.set.ensures None) s.real c.requires;
    }
