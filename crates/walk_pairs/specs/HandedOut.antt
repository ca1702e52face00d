-- What calling a pair's step from two walks begun hands out, as one statement: the pair's contour
-- and nothing else, and where both contours go once round a convex area above zero, the farthest
-- reach (demand 3). It is proved in proofs/. Assumes nothing.
use Rattle.std.specs.Prelude.{◌≡◌, Bool, true, false, List, [], ◌∷◌, ℤ}
use Rattle.plane.specs.Plane.{Pt, ◌+ᵖ◌}
use Rattle.plane.specs.declared.IntPoint.{IntPoint}
use Rattle.plane.specs.Machine.{point}
use Rattle.corners.specs.Corners.{points_of}
use Rattle.pair.specs.declared.ConvexSum.{ConvexSum}
use Rattle.pair.specs.Walk.{begin, point_of}
use Rattle.pair.specs.Pair.{pair_contour}
use Rattle.pair.specs.Premise.{once_round}
use Rattle.pair.specs.Demand.{second, FarthestReach}
use Rattle.walk.specs.declared.Paired.TheVariants as paired
use Rattle.walk.specs.declared.Next.TheVariants as next
use Rattle.walk.specs.Calls.{paired_of, pair_stepped_of}

-- the corners that the calls hand out from s on, until one tells the end
pub data HandsOut (l r : List ℤ) : ConvexSum → List Pt → Type 0 where
  ends : (s t : ConvexSum) → pair_stepped_of l r s ≡ next.End t → HandsOut l r s []
  hands : (s t : ConvexSum) (p : IntPoint) (K : List Pt) → pair_stepped_of l r s ≡ next.Corner p t → HandsOut l r t K → HandsOut l r s (point p ∷ K)

-- from the walks of a pair begun, the second reflected or not
pub record PairHandedOut (reflected : Bool) (l r : List ℤ) (s : ConvexSum) : Type 0 where
  pub contour : HandsOut l r s (pair_contour reflected (points_of l) (points_of r))
  pub only : (K : List Pt) → HandsOut l r s K → K ≡ pair_contour reflected (points_of l) (points_of r)
  pub farthest :
      once_round (points_of l) ≡ true → once_round (points_of r) ≡ true → (K : List Pt) → HandsOut l r s K →
      FarthestReach (point_of (points_of l) (begin false (points_of l)) +ᵖ point_of (points_of r) (begin reflected (points_of r))) (points_of l) (second reflected (points_of r)) K

-- of any two contours that are accepted
abbrev pub AllHandedOut : Type 0
AllHandedOut = (reflected : Bool) (l r : List ℤ) (s : ConvexSum) → paired_of reflected l r ≡ paired.At s → PairHandedOut reflected l r s
