-- Document 01's examples of pairs, and the premise and strict convexity on contours that meet them
-- and that do not, by computation, each group one statement over a list. In order: tests over a
-- list of contours, from every start and both ways; the contours; once round; strictly convex;
-- pairs. Nothing cites this file. Assumes nothing.
use mathlib.Core.Path.{◌≡◌, refl}
use mathlib.Core.Bool.{Bool, true, false, not, cond}
use mathlib.Core.List.{List, [], ◌∷◌, ◌++◌, map, reverse}
use Prim.Native.Nat.{ℕ}
use lib.ListN.{length}
use lib.IntN.{pos, negsuc}
use Rattle.integers.specs.Lists.{sumℤ, up_to, rotate, links, neighbours}
use Rattle.plane.specs.Plane.{Pt, is_zero, lower, by_cross, angle_cmp}
use Rattle.plane.specs.Contour.{edges, contour_area}
use Rattle.pair.specs.Walk.{below, least_from, greatest_from, least_at, greatest_at, start_at, end_at, winding_terms, winding, begin, next_index, point_of, edge_of, advance}
use Rattle.pair.specs.Pair.{lesser, next_step, belongs, headed, run, pair_step, emit, pair_contour}
use Rattle.pair.specs.Premise.{fresh, without_repeats, turns, how_many, forward, descent, left, round_by, once_round, strictly_convex}
use Rattle.plane.specs.Contour.{last_of}
use Rattle.pair.specs.Berg.{anticlockwise, from_lowest, merge_one, merge_by_angle, corners_from, berg_of, de_berg}

-- ---- tests over a list of contours

unfoldable all_pass : (List Pt → Bool) → List (List Pt) → Bool
all_pass t [] = true
all_pass t (l ∷ L) = cond (t l) (all_pass t L) false

unfoldable none_pass : (List Pt → Bool) → List (List Pt) → Bool
none_pass t [] = true
none_pass t (l ∷ L) = cond (t l) false (none_pass t L)

unfoldable from_every_start : List Pt → List (List Pt)
from_every_start l = map (λ k. rotate k l) (up_to (length l))

-- from every start
unfoldable turned_all : List (List Pt) → List (List Pt)
turned_all [] = []
turned_all (l ∷ L) = from_every_start l ++ turned_all L

-- and the other way round
unfoldable both_ways : List (List Pt) → List (List Pt)
both_ways L = turned_all L ++ turned_all (map reverse L)

-- ---- contours

abbrev p : ℕ → ℕ → Pt
p a b = record { x = pos a; y = pos b }

unfoldable K : List Pt
K = p 0 0 ∷ p 2 0 ∷ p 0 2 ∷ []

unfoldable square : List Pt
square = p 0 0 ∷ p 4 0 ∷ p 4 4 ∷ p 0 4 ∷ []

-- the triangle and the square as they stand; with an in-line corner; with a corner that repeats the
-- one before, twice, and both
unfoldable round_ones : List (List Pt)
round_ones =
    K ∷ (p 0 0 ∷ p 1 0 ∷ p 2 0 ∷ p 0 2 ∷ []) ∷ (p 0 0 ∷ p 2 0 ∷ p 2 0 ∷ p 0 2 ∷ []) ∷
    square ∷ (p 0 0 ∷ p 4 0 ∷ p 4 2 ∷ p 4 4 ∷ p 0 4 ∷ []) ∷ (p 0 0 ∷ p 0 0 ∷ p 0 0 ∷ p 4 0 ∷ p 4 4 ∷ p 0 4 ∷ []) ∷
    (p 0 0 ∷ p 2 0 ∷ p 2 0 ∷ p 4 0 ∷ p 4 4 ∷ p 4 4 ∷ p 0 4 ∷ []) ∷ []

-- every turn above 0, and twice round
unfoldable pentagram : List Pt
pentagram = p 5 0 ∷ p 3 6 ∷ p 1 0 ∷ p 6 4 ∷ p 0 4 ∷ []

-- a point, and repeated; a spike; segments out and back; a figure eight; a hollow; twice round
unfoldable other_ones : List (List Pt)
other_ones =
    (p 5 5 ∷ []) ∷ (p 5 5 ∷ p 5 5 ∷ p 5 5 ∷ []) ∷ (p 0 0 ∷ p 4 0 ∷ p 6 0 ∷ p 4 0 ∷ p 4 4 ∷ []) ∷
    (p 0 0 ∷ p 4 0 ∷ []) ∷ (p 0 0 ∷ p 2 1 ∷ p 4 2 ∷ p 2 1 ∷ []) ∷ (p 0 0 ∷ p 4 4 ∷ p 4 0 ∷ p 0 4 ∷ []) ∷
    (p 0 0 ∷ p 4 0 ∷ p 1 1 ∷ p 0 4 ∷ []) ∷ (square ++ square) ∷ pentagram ∷ []

-- ---- once round

once_round_holds : all_pass once_round (both_ways round_ones) ≡ true
unfolding all_pass from_every_start turned_all both_ways K square round_ones up_to rotate links neighbours lower by_cross angle_cmp edges fresh last_of without_repeats how_many forward descent round_by once_round
once_round_holds = refl

once_round_fails : none_pass once_round ([] ∷ both_ways other_ones) ≡ true
unfolding none_pass from_every_start turned_all both_ways square pentagram other_ones up_to rotate links neighbours lower by_cross angle_cmp edges fresh last_of without_repeats how_many forward descent round_by once_round
once_round_fails = refl

-- ---- strictly convex, counter-clockwise

strictly_convex_holds : all_pass strictly_convex (turned_all (K ∷ square ∷ [])) ≡ true
unfolding all_pass from_every_start turned_all K square up_to rotate links neighbours lower by_cross angle_cmp edges how_many left descent round_by strictly_convex
strictly_convex_holds = refl

-- clockwise; with an in-line corner; with a repeated one; the pentagram and the others
strictly_convex_fails :
    none_pass strictly_convex
    ([] ∷ turned_all (map reverse (K ∷ square ∷ [])) ++ turned_all ((p 0 0 ∷ p 2 0 ∷ p 4 0 ∷ p 4 4 ∷ p 0 4 ∷ []) ∷ (p 0 0 ∷ p 4 0 ∷ p 4 0 ∷ p 4 4 ∷ p 0 4 ∷ []) ∷ []) ++ both_ways other_ones)
    ≡ true
unfolding none_pass from_every_start turned_all both_ways K square pentagram other_ones up_to rotate links neighbours lower by_cross angle_cmp edges how_many left descent round_by strictly_convex
strictly_convex_fails = refl

-- the pentagram has no turn that is not above 0, and two descents
pentagram_turns : ◌≡◌ {A = ℕ × ℕ} (how_many (λ c. not (left c)) (turns pentagram), how_many descent (turns pentagram)) (0, 2)
unfolding pentagram links neighbours lower by_cross angle_cmp edges how_many left descent
pentagram_turns = refl

-- ---- pairs: K + K, and de Berg et al.'s; K - K; a point and K; two points

pairs :
    pair_contour false K K ∷ de_berg K K ∷ pair_contour true K K ∷ pair_contour false (p 5 5 ∷ []) K ∷ pair_contour false (p 5 5 ∷ []) (p 1 2 ∷ []) ∷ []
    ≡ (p 0 0 ∷ p 4 0 ∷ p 0 4 ∷ [])
    ∷ (p 0 0 ∷ p 4 0 ∷ p 0 4 ∷ [])
    ∷ (record { x = pos 0; y = negsuc 1 } ∷ record { x = pos 2; y = negsuc 1 } ∷ p 2 0 ∷ p 0 2 ∷ record { x = negsuc 1; y = pos 2 } ∷ record { x = negsuc 1; y = pos 0 } ∷ [])
    ∷ (p 5 5 ∷ p 7 5 ∷ p 5 7 ∷ [])
    ∷ [] ∷ []
unfolding K sumℤ rotate links neighbours is_zero lower by_cross angle_cmp below least_from greatest_from least_at greatest_at start_at end_at winding_terms winding begin next_index point_of edge_of advance lesser next_step belongs headed run pair_step emit pair_contour edges contour_area anticlockwise from_lowest merge_one merge_by_angle corners_from berg_of de_berg
pairs = refl
