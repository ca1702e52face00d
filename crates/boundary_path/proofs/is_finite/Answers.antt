-- `boundary_path::is_finite` meets its contract. Assumes nothing.
use Rattle.boundary_path.proofs.Rows.{finite_bits}
use Rattle.boundary_path.proofs.is_finite.Goals as goal

pub returns : goal.returns
returns c = finite_bits c.args.bits
