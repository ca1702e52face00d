-- `split_centre::strictly_inside` meets its contract. The loop's invariant: what is asked is
-- whether g is to the left of the edges from a on (`Round`); the measure is the corners left.
-- Assumes nothing.
use mathlib.Core.Path.{◌≡◌}
use mathlib.Core.List.{List, map}
use Prim.Native.Nat.{ℕ}
use lib.IntN.{ℤ}
use Rattle.integers.specs.Lists.{neighbours}
use Rattle.plane.specs.declared.IntPoint.{IntPoint}
use Rattle.plane.specs.Machine.{point, OnGrid}
use Rattle.points.specs.Points.{corner_of}
use Rattle.split.specs.Splitting.{left_of_all}
use Rattle.split_centre.proofs.Inside.{ahead}
use Rattle.split_centre.proofs.strictly_inside.Given as goal

pub record Round (cs : List (List ℤ)) (g a : IntPoint) (i : ℕ) : Type 0 where
  pub left : left_of_all (point g) (neighbours (map corner_of cs)) ≡ ahead (point g) (map corner_of cs) (point a) i
  pub on : OnGrid a

abbrev pub invariant-loop-i : goal.invariant-loop-i
invariant-loop-i l = Round l.contour l.g l.a l.i
