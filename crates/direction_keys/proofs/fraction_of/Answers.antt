-- `direction_keys::fraction_of` meets its contract: two divisions of 30 bits each are one of 60.
-- Assumes nothing.
use native.Mathlib.Omega.{arith}
use Rattle.direction_keys.proofs.Fractions.{fraction_most, two_steps}
use Rattle.direction_keys.proofs.fraction_of.Goals as goal

pub returns : goal.returns
returns c = let e = two_steps c.args.a c.requires.0 in (e, omega (arith, fraction_most c.args.a c.requires.0 c.requires.1))
