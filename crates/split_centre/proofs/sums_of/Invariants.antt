-- `split_centre::sums_of` meets its contract. The loop's invariant: the sums are those of the
-- wedges before corner i, and a is corner i - 1 seen from the first; the measure is the corners
-- left. Assumes nothing.
use mathlib.Core.Path.{◌≡◌}
use mathlib.Core.List.{List, map}
use Prim.Native.Nat.{ℕ, ◌-◌, ◌≤◌}
use lib.ListN.{length, get_or}
use lib.IntN.{ℤ}
use Rattle.plane.specs.declared.IntVector.{IntVector}
use Rattle.plane.specs.Plane.{O, ◌-ᵖ◌}
use Rattle.plane.specs.Machine.{vector, Short}
use Rattle.points.specs.Points.{corner_of}
use Rattle.split_centre.specs.declared.Sums.{Sums}
use Rattle.split_centre.proofs.Fan.{Sofar}
use Rattle.split_centre.proofs.sums_of.Given as goal

pub record Going (cs : List (List ℤ)) (s : Sums) (a : IntVector) (i : ℕ) : Type 0 where
  pub from : 2 ≤ i
  pub upto : i ≤ length cs
  pub sums : Sofar (get_or (map corner_of cs) 0 O) (map corner_of cs) (i - 2) s
  pub here : vector a ≡ get_or (map corner_of cs) (i - 1) O -ᵖ get_or (map corner_of cs) 0 O
  pub short : Short a

abbrev pub invariant-loop-i : goal.invariant-loop-i
invariant-loop-i l = Going l.contour l.s l.a l.i
