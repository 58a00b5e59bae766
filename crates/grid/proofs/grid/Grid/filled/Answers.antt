use Rattle.grid.proofs.Cells.{grid_at-filled}
use Rattle.grid.proofs.grid.Grid.filled.Goals as goal

pub returns : goal.returns
returns g c = grid_at-filled g.row.ROWS g.row.FIRST g.row.END g.row.CELLS c.args.value
