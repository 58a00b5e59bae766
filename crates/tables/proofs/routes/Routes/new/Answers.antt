use Rattle.std.proofs.Common.{◌≡◌, true, None, refl}
use Rattle.grid.specs.Grids.{grid_at}
use Rattle.grid.proofs.Puts.{all_filled}
use Rattle.tables.specs.Rows.{is_below}
use Rattle.tables.proofs.routes.Routes.new.Goals as goal

pub invariant_of-result : goal.invariant_of-result
invariant_of-result c = record {
  real = all_filled (λ o. is_below c.args.lines o ≡ true) (grid_at 16 0 32 None c.filled-2.result.cells) None c.filled-2.ensures refl;
}
