-- `minkowski_sizes::fits` meets its contract. Assumes nothing.
use Prim.Native.Nat.{◌-◌}
use native.Mathlib.Omega.{arith}
use lib.ListN.{length}
use borrow.Author.Tests.{leb-true}
use Rattle.integers.proofs.Tests.{differ}
use Rattle.corners.proofs.Corners.{length_points}
use borrow.Author.Rules.{rules}
use Rattle.minkowski_sizes.proofs.fits.Goals as goal

pub returns-then-starts-places : goal.returns-then-starts-places
returns-then-starts-places c e = let g = c.args in
    omega (arith, c.if-starts-places.true, leb-true c.corner_count.result (g.places - length g.starts.now) e, c.corner_count.ensures, length_points g.corners.now)
