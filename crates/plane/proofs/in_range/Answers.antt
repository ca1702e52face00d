-- `plane::in_range` meets its contract: the definition tries the same two bounds. Assumes nothing.
use mathlib.Core.Path.{◌≡◌}
use mathlib.Core.Bool.{true, false}
use lib.IntN.{ℤ, pos, negsuc}
use lib.Signed.{lt_z}
use Rattle.integers.proofs.Tests.{≤-le_z, <-le_z, lt_z-<, lt_z-≤}
use Rattle.integers.proofs.Bits.{kept}
use Rattle.plane.specs.Plane.{in_range}
use Rattle.plane.proofs.in_range.Goals as goal

module _ {u z : ℤ} (p : u ≡ z) where
  within : lt_z (negsuc 1073741823) u ≡ true → lt_z u (pos 1073741824) ≡ in_range z
  unfolding in_range
  within e = rw (← p, <-le_z {x = u} {y = negsuc 1073741823} (lt_z-< (negsuc 1073741823) u e))

  below : lt_z (negsuc 1073741823) u ≡ false → lt_z (negsuc 1073741823) u ≡ in_range z
  unfolding in_range
  below e = rw (← p, e, ≤-le_z {x = u} {y = negsuc 1073741823} (lt_z-≤ (negsuc 1073741823) u e))

pub returns-then-z : goal.returns-then-z
returns-then-z c = within (kept c.ranges.z) c.if-z.true

pub returns-else-z : goal.returns-else-z
returns-else-z c = below (kept c.ranges.z) c.if-z.false
