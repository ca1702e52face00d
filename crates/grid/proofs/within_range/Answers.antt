-- `grid::within_range` meets its contract. Assumes nothing.
use mathlib.Core.Path.{◌∙◌}
use lib.Ieee.{of_bits, neg}
use Rattle.grid.proofs.Bands.{range_under, range_over}
use Rattle.grid.proofs.within_range.Goals as goal

pub returns-then-x : goal.returns-then-x
unfolding of_bits neg
returns-then-x c = range_under c.args.x c.well_formed.0.1 c.if-x.true

pub returns-else-x : goal.returns-else-x
unfolding of_bits neg
returns-else-x c = c.if-x.false ∙ range_over c.args.x c.well_formed.0.1 c.if-x.false
