-- `grid::on_grid` meets its contract. Assumes nothing.
use mathlib.Core.Path.{◌∙◌}
use lib.Ieee.{of_bits, neg}
use Rattle.grid.proofs.Bands.{grid_under, grid_over}
use Rattle.grid.proofs.on_grid.Goals as goal

pub returns-then-v : goal.returns-then-v
unfolding of_bits neg
returns-then-v c = grid_under c.args.v c.well_formed.0.1 c.if-v.true

pub returns-else-v : goal.returns-else-v
unfolding of_bits neg
returns-else-v c = c.if-v.false ∙ grid_over c.args.v c.well_formed.0.1 c.if-v.false
