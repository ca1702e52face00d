-- `grid::is_finite` meets its contract: a number that an f64 holds is one that is finite. Assumes
-- nothing.
use mathlib.Core.Path.{sym, ◌∙◌}
use Rattle.std.specs.Float.{float_is_finite}
use Rattle.floats.proofs.Comparisons.{number_finite}
use Rattle.grid.proofs.is_finite.Goals as goal

pub returns : goal.returns
unfolding float_is_finite
returns c = c.is_finite.ensures.value ∙ sym (number_finite c.args.x c.well_formed.0.1)
