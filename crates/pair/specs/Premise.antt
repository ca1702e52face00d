-- The words of demand 3: once round a convex area above zero, strictly convex, reach (document 01,
-- "Walking a pair"). They speak of the cyclic list of corners alone: its turns and descents, or
-- those of its reverse. Assumes nothing.
use Rattle.std.specs.Prelude.{Bool, true, false, not, cond, List, [], ◌∷◌, map, reverse, ℕ, ◌+◌, eqb, ℤ, pos}
use Rattle.std.specs.Int.Signed.{lt_z}
use Rattle.integers.specs.Lists.{neighbours}
use Rattle.integers.specs.Greatest.{greatest}
use Rattle.plane.specs.Plane.{Pt, negᵖ, eq_pt, cross, dot, angle_cmp, is_equal, is_less}
use Rattle.plane.specs.Contour.{last_of, edges}

-- ---- "corners equal to the one before dropped (the last is before the first; no other repeats are
-- dropped)"

-- those of l, where q is before its first
unfoldable pub fresh : Pt → List Pt → List Pt
fresh q [] = []
fresh q (p ∷ l) = cond (eq_pt q p) (fresh p l) (p ∷ fresh p l)

unfoldable pub without_repeats : List Pt → List Pt
without_repeats [] = []
without_repeats (p ∷ l) = fresh (last_of p l) (p ∷ l)

-- ---- turns and descents

-- the edge into and the edge out of each corner
abbrev pub turns : List Pt → List (Pt × Pt)
turns l = neighbours (edges l)

-- how many pass a test
unfoldable pub how_many : (Pt × Pt → Bool) → List (Pt × Pt) → ℕ
how_many t [] = 0
how_many t (c ∷ l) = cond (t c) 1 0 + how_many t l

-- "every turn goes to one side or straight on, never back", read so that the turns go left:
-- "straight on is 0 with the direction kept"
unfoldable pub forward : Pt × Pt → Bool
forward c = cond (lt_z (pos 0) (cross c.0 c.1)) true (is_equal (angle_cmp c.0 c.1))

-- "the edge out is the lesser one, in the order above"
unfoldable pub descent : Pt × Pt → Bool
descent c = is_less (angle_cmp c.1 c.0)

-- "with every turn above 0"
unfoldable pub left : Pt × Pt → Bool
left c = lt_z (pos 0) (cross c.0 c.1)

abbrev pub both : Bool → Bool → Bool
both s t = cond s t false

-- every turn passes the test, and there is a descent "at exactly one corner"
unfoldable pub round_by : (Pt × Pt → Bool) → List Pt → Bool
round_by t l = both (eqb (how_many (λ c. not (t c)) (turns l)) 0) (eqb (how_many descent (turns l)) 1)

-- ---- the three words

-- "Once round a convex area above zero", whichever way it winds
unfoldable pub once_round : List Pt → Bool
once_round l = cond (round_by forward (without_repeats l)) true (round_by forward (reverse (without_repeats l)))

-- "Strictly convex, counter-clockwise means the same of the corners as they stand, with every turn
-- above 0."
unfoldable pub strictly_convex : List Pt → Bool
strictly_convex l = round_by left l

-- "Reach in direction (u, v) is the greatest u times x plus v times y over the list" (the support
-- function); 0 of no corners
unfoldable pub reach : Pt → List Pt → ℤ
reach d [] = pos 0
reach d (p ∷ l) = greatest (dot d p) (map (dot d) l)

-- "turned through the origin: each corner negated, order kept"
unfoldable pub through_origin : List Pt → List Pt
through_origin l = map negᵖ l
