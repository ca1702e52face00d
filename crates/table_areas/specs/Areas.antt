-- The doubled area of many contours, and how large a sum can be. That of one contour is
-- plane/Contour.`contour_area`. Assumes nothing.
use Rattle.std.specs.Prelude.{List, map, ℕ, ◌*◌, ◌^◌, ◌≤◌, ℤ, nat_abs}
use Rattle.integers.specs.Lists.{sumℤ}
use Rattle.plane.specs.Plane.{Pt}
use Rattle.plane.specs.Contour.{contour_area}
use Rattle.wide.specs.declared.SignedProduct.{SignedProduct}
use Rattle.wide.specs.Words.{value}

-- the doubled areas of all contours, added; one that runs clockwise is below 0
unfoldable pub total_area : List (List Pt) → ℤ
total_area ps = sumℤ (map contour_area ps)

-- a sum of n terms of 63 bits
pub record Terms (n : ℕ) (p : SignedProduct) : Type 0 where
  pub most : nat_abs (value p) ≤ n * 2 ^ 63
