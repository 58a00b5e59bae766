use Rattle.std.proofs.Common.{◌≡◌, ◌-◌, length, ap₂, ◌∙◌, rules, arith, mul_comm}
use Rattle.std.proofs.lemmas.Nat.{mul-add-lt}
use Rattle.model.specs.Tables.{put2}
use Rattle.grid.specs.Grids.{grid_at}
use Rattle.grid.proofs.Cells.{grid_at-put}
use Rattle.grid.proofs.grid.Grid.set.Goals as goal

pub returns : goal.returns
returns g c d =
    let cells = c.args.self.now.cells in
    let width = g.row.END - g.row.FIRST in
    let row = c.number-row in
    let column = c.number-column in
    let place = mul-add-lt row.result width (column.result - g.row.FIRST) g.row.ROWS row.ensures.most (omega (arith, column.ensures.least, column.ensures.most)) in
    let size : length cells ≡ g.row.CELLS = search rules in
    grid_at-put g.row.ROWS g.row.FIRST g.row.END d cells row.result column.result c.args.value
    row.ensures.most column.ensures.least column.ensures.most (omega (arith, place, mul_comm width g.row.ROWS, c.args.self.now.fits, size))
    ∙ ap₂ (λ i k. put2 (grid_at g.row.ROWS g.row.FIRST g.row.END d cells) i k c.args.value) row.ensures.same column.ensures.same
