-- Demand 3, and what stands beside it, as statements over the definitions of walk, pair and
-- premise. They are proved in proofs/Theorem.antt. Assumes nothing.
use Rattle.std.specs.Prelude.{◌≡◌, Bool, true, false, cond, List, [], ◌∷◌, reverse, ◌⊎◌, ℕ, zero, suc, ◌+◌, ◌≤◌, length, pos, ◌+ℤ◌}
use Rattle.std.specs.Int.Signed.{lt_z}
use Rattle.integers.specs.Lists.{All, Any}
use Rattle.plane.specs.Plane.{Pt, O, ◌+ᵖ◌, is_zero, angle_cmp, is_greater}
use Rattle.pair.specs.declared.Place.{Place}
use Rattle.pair.specs.Walk.{corner_at, winding, begin, point_of, edge_of, advance}
use Rattle.pair.specs.Pair.{pair_contour}
use Rattle.pair.specs.Berg.{de_berg}
use Rattle.pair.specs.Premise.{without_repeats, round_by, forward, once_round, strictly_convex, reach, through_origin}

-- the second contour as a pair reads it: "with the second contour turned through the origin" for a
-- difference
unfoldable pub second : Bool → List Pt → List Pt
second reflected B = cond reflected (through_origin B) B

-- L has at least one point, and "in every whole-number direction its reach is exactly the two
-- reaches added"
pub record SameReach (A B L : List Pt) : Type 0 where
  pub nonempty : L ≡ [] → ⊥
  pub adds : (d : Pt) → reach d L ≡ reach d A +ℤ reach d B

-- K, emitted for A and B, where B stands as `second` reads it and `start` is the sum of the walks'
-- first points
pub record FarthestReach (start : Pt) (A B K : List Pt) : Type 0 where
  pub begins : corner_at K 0 ≡ start
  pub convex : strictly_convex K ≡ true
  pub sums : All (λ c. Any (λ a. Any (λ b. c ≡ a +ᵖ b) B) A) K
  pub reaches : SameReach A B K
  pub contained : (L : List Pt) → SameReach A B L → All (λ c. Any (λ q. q ≡ c) L) K
  pub fewest : (L : List Pt) → SameReach A B L → length K ≤ length L

-- Demand 3, of sums (false) and differences (true)
abbrev pub Demand3 : Type 0
Demand3 =
    (reflected : Bool) (A B : List Pt) → once_round A ≡ true → once_round B ≡ true →
    FarthestReach (point_of A (begin false A) +ᵖ point_of B (begin reflected B)) A (second reflected B) (pair_contour reflected A B)

-- ---- what a walk hands out of a contour once round

-- the edges of n steps from a place
unfoldable pub handed : ℕ → List Pt → Place → List Pt
handed zero l w = []
handed (suc n) l w = edge_of l w ∷ handed n l (advance (length l) w)

-- all edges of a walk, from its start
abbrev pub walk_edges : Bool → List Pt → List Pt
walk_edges reflected l = handed (begin reflected l).remaining l (begin reflected l)

-- the nonzero ones
unfoldable pub live : List Pt → List Pt
live [] = []
live (e ∷ l) = cond (is_zero e) (live l) (e ∷ live l)

unfoldable pub sumᵖ : List Pt → Pt
sumᵖ [] = O
sumᵖ (e ∷ l) = e +ᵖ sumᵖ l

-- no direction comes after the next one's
unfoldable pub ascending : List Pt → Bool
ascending [] = true
ascending (e ∷ []) = true
ascending (e ∷ f ∷ l) = cond (is_greater (angle_cmp e f)) false (ascending (f ∷ l))

pub record WalkedRound (reflected : Bool) (l : List Pt) : Type 0 where
  pub turns : winding reflected l ≡ pos 0 → ⊥
  pub sign : lt_z (pos 0) (winding reflected l) ≡ round_by forward (without_repeats l)
  pub ascends : ascending (live (walk_edges reflected l)) ≡ true
  pub closes : sumᵖ (walk_edges reflected l) ≡ O

-- the winding of a contour once round is not zero, its sign says which way it winds, and the walk's
-- edges ascend in direction and add up to zero
abbrev pub Walked : Type 0
Walked = (reflected : Bool) (l : List Pt) → once_round l ≡ true → WalkedRound reflected l

-- ---- "Pair contours never have more corners than both inputs together."
abbrev pub FewCorners : Type 0
FewCorners = (reflected : Bool) (A B : List Pt) → length (pair_contour reflected A B) ≤ length A + length B

-- ---- "on strictly convex contours the sum is proved to be de Berg et al.'s" (demand 2), clockwise
-- ones turned about first
abbrev pub EitherWay : List Pt → Type 0
EitherWay l = (strictly_convex l ≡ true) ⊎ (strictly_convex (reverse l) ≡ true)

abbrev pub SumIsDeBerg : Type 0
SumIsDeBerg = (A B : List Pt) → EitherWay A → EitherWay B → pair_contour false A B ≡ de_berg A B
