-- All pairs of two accepted operands, as statements over the buffers that the call leaves; proved
-- in proofs/. Assumes nothing.
use Rattle.std.specs.Prelude.{◌≡◌, Bool, true, false, List, [], ◌++◌, ℕ, ◌+◌, ◌*◌, ◌<◌, length, get_or, ℤ}
use Rattle.integers.specs.Lists.{All, Any}
use Rattle.plane.specs.Plane.{Pt, ◌+ᵖ◌, on_grid}
use Rattle.table.specs.Table.{first_contours, within_bounds}
use Rattle.pair.specs.Walk.{begin, point_of}
use Rattle.pair.specs.Pair.{pair_contour}
use Rattle.pair.specs.Premise.{once_round}
use Rattle.pair.specs.Berg.{de_berg}
use Rattle.pair.specs.Demand.{second, FarthestReach, EitherWay}
use Rattle.minkowski.specs.Pairs.{Operand, operand_parts, pairs_of, pair_contours, result_bounds, pairs_fault, pairs_starts, pairs_corners}

-- ---- the answer in the lent buffers

-- how many pairs
abbrev pub pair_count : Operand → Operand → ℕ
pair_count l r = length (operand_parts l) * length (operand_parts r)

-- the contours that a call leaves in starts and corners that held s and c
abbrev pub result_contours : Bool → Operand → Operand → List ℕ → List ℤ → List (List Pt)
result_contours reflected l r s c = first_contours (pair_count l r) (pairs_starts reflected l r s c) (pairs_corners reflected l r s c)

-- they are the pairs' contours
abbrev pub ResultIsPairs : Type 0
ResultIsPairs =
    (reflected : Bool) (l r : Operand) (s : List ℕ) (c : List ℤ) → pairs_fault reflected l r (length s) (length c) ≡ 0 →
    result_contours reflected l r s c ≡ pair_contours reflected l r

-- ---- demand 3 of the table

-- demand 3's whole sentence of a contour K emitted for A and B: "the one that document 01's two
-- walks give, beginning with the sum of the walks' first points", and the rest of it
pub record EmittedWhole (reflected : Bool) (A B K : List Pt) : Type 0 where
  pub walked : K ≡ pair_contour reflected A B
  pub reach : FarthestReach (point_of A (begin false A) +ᵖ point_of B (begin reflected B)) A (second reflected B) K

-- "Take any left and any right contour of an accepted pair" that go "once round a convex area above
-- zero": the whole contour emitted for them, whatever the other parts are
abbrev pub TableReach : Type 0
TableReach =
    (reflected : Bool) (l r : Operand) (s : List ℕ) (c : List ℤ) → pairs_fault reflected l r (length s) (length c) ≡ 0 →
    (i j : ℕ) → i < length (operand_parts l) → j < length (operand_parts r) →
    once_round (get_or (operand_parts l) i []) ≡ true → once_round (get_or (operand_parts r) j []) ≡ true →
    EmittedWhole reflected (get_or (operand_parts l) i []) (get_or (operand_parts r) j []) (get_or (result_contours reflected l r s c) (i * length (operand_parts r) + j) [])

-- "on strictly convex contours the sum is proved to be de Berg et al.'s"
abbrev pub TableDeBerg : Type 0
TableDeBerg =
    (l r : Operand) (s : List ℕ) (c : List ℤ) → pairs_fault false l r (length s) (length c) ≡ 0 →
    (i j : ℕ) → i < length (operand_parts l) → j < length (operand_parts r) →
    EitherWay (get_or (operand_parts l) i []) → EitherWay (get_or (operand_parts r) j []) →
    get_or (result_contours false l r s c) (i * length (operand_parts r) + j) [] ≡ de_berg (get_or (operand_parts l) i []) (get_or (operand_parts r) j [])

-- ---- where the corners lie

-- each corner of a pair, once round or not, is a corner of one plus a corner of the other as the
-- pair reads it
abbrev pub CornersAreSums : Type 0
CornersAreSums = (reflected : Bool) (A B : List Pt) → All (λ c. Any (λ a. Any (λ b. c ≡ a +ᵖ b) (second reflected B)) A) (pair_contour reflected A B)

-- so every corner of the result lies within the result bounds, and strictly between −2^30 and 2^30
abbrev pub ResultWithin : Type 0
ResultWithin =
    (reflected : Bool) (l r : Operand) (s c : ℕ) → pairs_fault reflected l r s c ≡ 0 →
    All (All (λ p. (within_bounds (result_bounds reflected l.bounds r.bounds) p ≡ true) × (on_grid p ≡ true))) (pair_contours reflected l r)

-- ---- in pieces

-- the pairs of a left operand in two pieces are those of the first and then those of the second
abbrev pub PairsShard : Type 0
PairsShard = (reflected : Bool) (ls ms rs : List (List Pt)) → pairs_of reflected (ls ++ ms) rs ≡ pairs_of reflected ls rs ++ pairs_of reflected ms rs
