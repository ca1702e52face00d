-- Contours: lists of corners, closed, the last before the first. Assumes nothing.
use Rattle.std.specs.Prelude.{List, [], ◌∷◌, map, ℤ}
use Rattle.integers.specs.Lists.{sumℤ, neighbours}
use Rattle.plane.specs.Plane.{Pt, ◌-ᵖ◌, cross}

-- The last corner of p ∷ l: the one before p.
unfoldable pub last_of : Pt → List Pt → Pt
last_of p [] = p
last_of p (q ∷ l) = last_of q l

-- Its edges: from each corner to the next, from the last to the first.
unfoldable pub edges : List Pt → List Pt
edges l = map (λ e. e.1 -ᵖ e.0) (neighbours l)

-- The doubled area of a contour (the shoelace formula): the sum of the crosses of neighbouring
-- corners. Above 0 where it runs counter-clockwise.
unfoldable pub contour_area : List Pt → ℤ
contour_area l = sumℤ (map (λ e. cross e.0 e.1) (neighbours l))
