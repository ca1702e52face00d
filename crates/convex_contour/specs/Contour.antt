-- A whole region's contour as it stands in its buffer, and a run along it. Assumes nothing.
use Rattle.std.specs.Prelude.{◌≡◌, Bool, not, cond, List, [], ◌∷◌, ◌++◌, map, ℕ, ◌+◌, ◌-◌, ◌≤◌, ◌<◌, ltb, length, take, drop, ℤ, pos}
use Rattle.integers.specs.Test.{eq_z}
use Rattle.plane.specs.Plane.{Pt, ◌-ᵖ◌, cross}
use Rattle.plane.specs.Machine.{point, vector, OnGrid, Short}
use Rattle.plane.specs.Contour.{last_of}
use Rattle.convex_ring.specs.declared.Progress.{Progress}
use Rattle.points.specs.Points.{corner_of, Grid, Appended}
use Rattle.convex_contour.specs.declared.Run.{Run}

-- ---- a region's contour in its buffer: from the last corner added, which stands right before
-- `last`, to the end, then from the first one done

unfoldable pub contour_at : List (List ℤ) → Progress → List Pt
contour_at cs p = map corner_of (drop (p.last - 1) cs ++ take (p.last - 1 - p.done) (drop p.done cs))

-- what reading it asks: the done corners run to the end of the buffer, and the last one added
-- stands among them
pub record Whole (cs : List (List ℤ)) (p : Progress) : Type 0 where
  pub placed : p.done < p.last
  pub ended : p.last ≤ length cs
  pub grid : Grid cs

-- the place before place i of the contour, round its part of a buffer of n places, which begins at
-- d
unfoldable pub place_before : ℕ → ℕ → ℕ → ℕ
place_before n d i = cond (ltb d i) (i - 1) (n - 1)

-- ---- a run along the contour: one corner after the other is judged by the way to it and the way
-- on

-- p where it stays
abbrev pub kept_if : Bool → Pt → List Pt
kept_if t p = cond t (p ∷ []) []

-- whether two ways, one after the other, do not go straight on
abbrev pub bends : Pt → Pt → Bool
bends d e = not (eq_z (cross d e) (pos 0))

-- b, which is reached by the way d, and the corners after it but the last: those whose turn is not
-- 0
unfoldable pub kept_along : Pt → Pt → List Pt → List Pt
kept_along d b [] = []
kept_along d b (c ∷ l) = kept_if (bends d (c -ᵖ b)) b ++ kept_along (c -ᵖ b) c l

-- the way by which the last of them is reached
unfoldable pub way_along : Pt → Pt → List Pt → Pt
way_along d b [] = d
way_along d b (c ∷ l) = way_along (c -ᵖ b) c l

-- the corners at the places from i to before j
abbrev pub between : List (List ℤ) → ℕ → ℕ → List Pt
between cs i j = map corner_of (take (j - i) (drop i cs))

-- what a run over these places asks
pub record Runnable (cs : List (List ℤ)) (i j : ℕ) (points : List (List ℤ)) (r : Run) : Type 0 where
  pub ordered : i ≤ j
  pub within : j ≤ length cs
  pub grid : Grid cs
  pub room : r.count + j ≤ length points + i
  pub corner_on : OnGrid r.corner
  pub way_short : Short r.way

-- the corners l were passed: the last of them and the way to it are carried on
pub record Ran (l : List Pt) (points : List (List ℤ)) (r : Run) (points' : List (List ℤ)) (r' : Run) : Type 0 where
  pub appended : Appended (kept_along (vector r.way) (point r.corner) l) points r.count points' r'.count
  pub corner : point r'.corner ≡ last_of (point r.corner) l
  pub way : vector r'.way ≡ way_along (vector r.way) (point r.corner) l
  pub corner_on : OnGrid r'.corner
  pub way_short : Short r'.way
