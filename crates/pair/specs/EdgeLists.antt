-- A pair's steps over two lists of edges, between the walks by places (Pair.antt) and the merge of
-- ascending lists: which edge steps next (`stepped`), runs of one direction added up from left to
-- right (`grouped`), and both (`join`). Assumes nothing.
use Rattle.std.specs.Prelude.{Bool, true, false, not, cond, List, [], ◌∷◌}
use Rattle.plane.specs.Plane.{Pt, ◌+ᵖ◌, is_zero, angle_cmp, is_equal, is_greater}

-- the first list's edge a against the second list: a zero edge first, the first list's before the
-- other's; then the lesser, the first on equality; k is what is done with the rest of the first
-- list
unfoldable pub step_one : Pt → (List Pt → List Pt) → List Pt → List Pt
step_one a k [] = a ∷ k []
step_one a k (b ∷ l) = cond (is_zero a) (a ∷ k (b ∷ l)) (cond (is_zero b) (b ∷ step_one a k l) (cond (is_greater (angle_cmp a b)) (b ∷ step_one a k l) (a ∷ k (b ∷ l))))

-- all edges of both lists in the order in which they step
unfoldable pub stepped : List Pt → List Pt → List Pt
stepped [] l = l
stepped (a ∷ m) l = step_one a (stepped m) l

-- runs of one direction: d the run's first edge, s its sum so far
unfoldable pub runs : Pt → Pt → List Pt → List Pt
runs d s [] = s ∷ []
runs d s (f ∷ l) = cond (is_equal (angle_cmp d f)) (runs d (s +ᵖ f) l) (s ∷ runs f f l)

unfoldable pub grouped : List Pt → List Pt
grouped [] = []
grouped (e ∷ l) = runs e e l

-- the edges of both lists in the order of their steps, runs of one direction added up
unfoldable pub join : List Pt → List Pt → List Pt
join m l = grouped (stepped m l)
