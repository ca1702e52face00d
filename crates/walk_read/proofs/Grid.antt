-- Corners on the grid: none is off where no number is (`off_nowhere`), and what a corner that is
-- not off is for the code (`not_off`, `grid_at`). Assumes nothing.
use mathlib.Core.Path.{◌≡◌, ◌∙◌, ap}
use mathlib.Core.Bool.{false, not}
use mathlib.Core.List.{List}
use Prim.Native.Nat.{ℕ, ◌<◌}
use borrow.Author.Tests.{not-false}
use lib.IntN.{ℤ}
use lib.ListN.{length}
use Rattle.plane.specs.declared.IntPoint.{IntPoint}
use Rattle.plane.specs.Plane.{Pt, on_grid}
use Rattle.plane.specs.Machine.{point, OnGrid}
use Rattle.plane.proofs.Size.{on_grid_both}
use Rattle.corners.specs.Corners.{points_of, off_range}
use Rattle.corners.proofs.Range.{range_on_grid}
use Rattle.pair.specs.Walk.{corner_at}
use Rattle.walk.specs.Calls.{off_at}

-- corner i is made of two numbers in range
pub off_nowhere : (l : List ℤ) {i : ℕ} → off_range l ≡ false → i < length (points_of l) → off_at (points_of l) i ≡ false
off_nowhere l {i} e h = ap not (range_on_grid l e h)

pub not_off : (l : List Pt) (i : ℕ) {p : IntPoint} → off_at l i ≡ false → point p ≡ corner_at l i → OnGrid p
not_off l i {p} h e = let b = on_grid_both (point p) (ap on_grid e ∙ not-false _ h) in record { x_small = b.0; y_small = b.1 }

-- so a corner of a contour on the grid
pub grid_at : (l : List ℤ) {i : ℕ} {p : IntPoint} → off_range l ≡ false → i < length (points_of l) → point p ≡ corner_at (points_of l) i → OnGrid p
grid_at l {i} {p} e h = not_off (points_of l) i (off_nowhere l e h)
