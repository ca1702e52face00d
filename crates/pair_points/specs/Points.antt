-- A contour's walk as points in walk order, the start again at the end where it goes round
-- (`unrolled`), and the merge of two such lists (`merged_of`). Code works on these; that the merge
-- is the pair's contour is a law (proofs/Merged.antt). What the merge asks of a list is `Turning`.
-- Assumes nothing.
use Rattle.std.specs.Prelude.{◌≡◌, Bool, true, false, List, [], ◌∷◌, ℕ, ◌+◌, get_or}
use Rattle.integers.specs.Lists.{All}
use Rattle.plane.specs.Plane.{Pt, O, ◌+ᵖ◌, ◌-ᵖ◌, angle_cmp, is_equal, is_greater}
use Rattle.plane.specs.Halves.{Nz}
use Rattle.pair.specs.Walk.{begin, point_of}
use Rattle.pair.specs.Demand.{live, walk_edges}
use Rattle.pair.specs.Berg.{corners_from}
use Rattle.pair.specs.EdgeLists.{grouped, join}

-- p, and where each edge leads to in turn
unfoldable pub points_along : Pt → List Pt → List Pt
points_along p [] = p ∷ []
points_along p (e ∷ l) = p ∷ points_along (p +ᵖ e) l

-- from each point to the next
unfoldable pub edges_along : List Pt → List Pt
edges_along [] = []
edges_along (p ∷ []) = []
edges_along (p ∷ q ∷ l) = (q -ᵖ p) ∷ edges_along (q ∷ l)

-- the point at i, and the edge from it to the next
abbrev pub nth_point : List Pt → ℕ → Pt
nth_point a i = get_or a i O

abbrev pub edge_at : List Pt → ℕ → Pt
edge_at a i = nth_point a (i + 1) -ᵖ nth_point a i

-- a walk's points: its zero edges dropped, its edges of one direction in a row made one. A segment
-- has three, a point one, an empty contour none.
unfoldable pub unrolled : Bool → List Pt → List Pt
unrolled reflected [] = []
unrolled reflected (c ∷ l) = points_along (point_of (c ∷ l) (begin reflected (c ∷ l))) (grouped (live (walk_edges reflected (c ∷ l))))

-- the corners of two lists of points merged: the lesser edge steps, the first list's on equality,
-- and edges of one direction are one
unfoldable pub merged_of : List Pt → List Pt → List Pt
merged_of [] b = []
merged_of (p ∷ a) [] = []
merged_of (p ∷ a) (q ∷ b) = corners_from (p +ᵖ q) (join (edges_along (p ∷ a)) (edges_along (q ∷ b)))

-- ---- what unrolling gives, and merging asks

-- the edge e has not the direction of the first of l
abbrev pub Off : Pt → List Pt → Type 0
Off e [] = Unit {0}
Off e (f ∷ l) = is_equal (angle_cmp e f) ≡ false

-- no two neighbouring edges have one direction
abbrev pub Apart : List Pt → Type 0
Apart [] = Unit {0}
Apart (e ∷ l) = Off e l × Apart l

-- points whose edges are nonzero, each of another direction than the one before
pub record Turning (a : List Pt) : Type 0 where
  pub nonzero : All Nz (edges_along a)
  pub apart : Apart (edges_along a)

-- ---- the merge, a corner a turn

-- after a tie: whether the second list's edge f steps before the first list's edges m
unfoldable pub second_next : List Pt → Pt → Bool
second_next [] f = true
second_next (g ∷ m) f = is_greater (angle_cmp g f)

-- the points of a but the last, moved by q: what is merged of a with q alone
unfoldable pub rest_of : Pt → List Pt → List Pt
rest_of q [] = []
rest_of q (p ∷ []) = []
rest_of q (p ∷ r ∷ a) = (p +ᵖ q) ∷ rest_of q (r ∷ a)
