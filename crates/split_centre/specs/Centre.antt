-- A contour's centre as the code answers it (document 01, "Splitting past a limit m": centroid),
-- and what its sums ask of a contour. Assumes nothing.
use Rattle.std.specs.Prelude.{◌≡◌, true, cond, List, ℕ, ◌^◌, ◌≤◌, ◌<◌, length, get_or, ℤ, pos, nat_abs, ◌+ℤ◌, ◌*ℤ◌, Option, Some, None}
use Rattle.std.specs.Int.Signed.{le_z, lt_z}
use Rattle.table.specs.Table.{max_contour}
use Rattle.integers.specs.Lists.{All, neighbours}
use Rattle.plane.specs.Plane.{Pt, O, on_grid, cross}
use Rattle.plane.specs.Contour.{contour_area}
use Rattle.plane.specs.declared.IntPoint.{IntPoint}
use Rattle.plane.specs.Machine.{Coordinate, Extent}
use Rattle.wide.specs.declared.SignedProduct.{SignedProduct}
use Rattle.wide.specs.Words.{value}
use Rattle.split.specs.Splitting.{rounded, moment_x, moment_y, seen_from, centre_of, centre_serves}
use Rattle.split_centre.specs.declared.Sums.{Sums}

-- ---- what the sums ask

-- Corners on the grid, as many as a part can have, no edge that runs clockwise seen from the first
-- corner, and a doubled area above 0 that fits 64 bits.
pub record Summable (l : List Pt) : Type 0 where
  pub grid : All (λ p. on_grid p ≡ true) l
  pub size : length l ≤ max_contour
  pub wedges : All (λ e. le_z (pos 0) (cross e.0 e.1) ≡ true) (neighbours (seen_from (get_or l 0 O) l))
  pub above : lt_z (pos 0) (contour_area l) ≡ true
  pub below : nat_abs (contour_area l) < 2 ^ 63

-- ---- the sums of the code

-- One more edge, whose cross is k, can be added.
pub record Roomy (s : Sums) (k : ℤ) : Type 0 where
  pub area : nat_abs (s.area +ℤ k) < 2 ^ 63
  pub x : s.x.words.high < 2 ^ 62
  pub y : s.y.words.high < 2 ^ 62

-- r is s with the edge a b.
pub record Added (s : Sums) (a b : Pt) (r : Sums) : Type 0 where
  pub area : r.area ≡ s.area +ℤ cross a b
  pub x : value r.x ≡ value s.x +ℤ (a.x +ℤ b.x) *ℤ cross a b
  pub y : value r.y ≡ value s.y +ℤ (a.y +ℤ b.y) *ℤ cross a b

-- The sums of a contour, seen from its first corner.
pub record Summed (l : List Pt) (s : Sums) : Type 0 where
  pub area : s.area ≡ contour_area (seen_from (get_or l 0 O) l)
  pub x : value s.x ≡ moment_x (seen_from (get_or l 0 O) l)
  pub y : value s.y ≡ moment_y (seen_from (get_or l 0 O) l)

-- A sum over d, rounded, can be added to the coordinate z.
pub record Placed (z : ℤ) (sum : SignedProduct) (d : ℕ) : Type 0 where
  pub high : sum.words.high < d
  pub offset : Extent (rounded (value sum) d)
  pub place : Coordinate (z +ℤ rounded (value sum) d)

-- ---- the centre

-- The centre: "rounded to nearest relative to c0".
abbrev pub rounded_centre : List Pt → Pt
rounded_centre l = centre_of (get_or l 0 O) l

-- A point as the code has it.
abbrev pub grid_point : Pt → IntPoint
grid_point p = record { x = p.x; y = p.y }

-- "Fan is used if .. the doubled area exceeds 3,074,457,345,618,258,602."
unfoldable pub centroid_found : List Pt → Option IntPoint
centroid_found l = cond (lt_z (pos 3074457345618258602) (contour_area l)) None (Some (grid_point (rounded_centre l)))

-- "Fan is used if it isn't strictly inside, or the doubled area exceeds 3,074,457,345,618,258,602."
unfoldable pub centre_found : List Pt → Option IntPoint
centre_found l = cond (centre_serves (rounded_centre l) l) (Some (grid_point (rounded_centre l))) None
