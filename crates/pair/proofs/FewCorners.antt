-- "Pair contours never have more corners than both inputs together" (`few_corners`), of any two
-- contours: a walk has no more edges than its contour has corners, and no step on the way from the
-- edges to the corners adds one. Assumes nothing.
use mathlib.Core.Path.{◌≡◌, refl, ap}
use mathlib.Core.Bool.{Bool, false}
use mathlib.Core.List.{List, [], ◌∷◌}
use Prim.Native.Nat.{ℕ, zero, suc, ◌+◌, ◌≤◌}
use native.Mathlib.Omega.{arith}
use lib.ListN.{length}
use Rattle.integers.proofs.Order.{by_test}
use Rattle.plane.specs.Plane.{Pt, ◌+ᵖ◌, is_zero, angle_cmp, is_equal, is_greater}
use Rattle.pair.specs.declared.Place.{Place}
use Rattle.pair.specs.Walk.{begin, point_of, advance}
use Rattle.pair.specs.Pair.{pair_contour}
use Rattle.pair.specs.Berg.{corners_from}
use Rattle.pair.specs.Demand.{handed, walk_edges, live}
use Rattle.pair.specs.EdgeLists.{step_one, stepped, runs, grouped}
use Rattle.pair.proofs.Places.{begin_remaining}
use Rattle.pair.proofs.Live.{length_live}
use Rattle.pair.proofs.PairSteps.{pair_contour_lem}

-- an edge for each step
pub length_handed : (k : ℕ) (l : List Pt) (w : Place) → length (handed k l w) ≡ k
unfolding handed
length_handed zero l w = refl
length_handed (suc k) l w = ap suc (length_handed k l (advance (length l) w))

-- a and what k makes of n edges more
length-step_one : (a : Pt) (n : ℕ) (k : List Pt → List Pt) → ((l : List Pt) → length (k l) ≡ n + length l) → (l : List Pt) → length (step_one a k l) ≡ suc (n + length l)
unfolding step_one
length-step_one a n k h [] = ap suc (h [])
length-step_one a n k h (b ∷ l) =
    let one : suc (length (k (b ∷ l))) ≡ suc (n + suc (length l)) = ap suc (h (b ∷ l)) in
    let other : suc (length (step_one a k l)) ≡ suc (n + suc (length l)) = omega (arith, length-step_one a n k h l) in
    by_test (is_zero a) (λ z. rw z one)
    (λ z. by_test (is_zero b) (λ y. rw (z, y) other)
    (λ y. by_test (is_greater (angle_cmp a b)) (λ g. rw (z, y, g) other) (λ g. rw (z, y, g) one)))

-- each edge of both lists steps once
pub length_stepped : (m l : List Pt) → length (stepped m l) ≡ length m + length l
unfolding stepped
length_stepped [] l = omega arith
length_stepped (a ∷ m) l = omega (arith, length-step_one a (length m) (stepped m) (length_stepped m) l)

-- a run is one edge
length_runs : (d s : Pt) (l : List Pt) → length (runs d s l) ≤ suc (length l)
unfolding runs
length_runs d s [] = omega arith
length_runs d s (f ∷ l) = by_test (is_equal (angle_cmp d f))
    (λ t. rw t (omega (arith, length_runs d (s +ᵖ f) l))) (λ t. rw t (omega (arith, length_runs f f l)))

pub length_grouped : (l : List Pt) → length (grouped l) ≤ length l
unfolding grouped
length_grouped [] = omega arith
length_grouped (e ∷ l) = length_runs e e l

-- a corner for each edge
pub length-corners_from : (p : Pt) (l : List Pt) → length (corners_from p l) ≡ length l
unfolding corners_from
length-corners_from p [] = refl
length-corners_from p (e ∷ l) = ap suc (length-corners_from (p +ᵖ e) l)

-- corners ≤ edges in groups ≤ nonzero edges ≤ edges of both walks ≤ corners of both contours
pub few_corners : (reflected : Bool) (A B : List Pt) → length (pair_contour reflected A B) ≤ length A + length B
few_corners reflected [] B = unfold pair_contour in omega arith
few_corners reflected (p ∷ A) [] = unfold pair_contour in omega arith
few_corners reflected (p ∷ A) (q ∷ B) =
    bound (point_of (p ∷ A) (begin false (p ∷ A)) +ᵖ point_of (q ∷ B) (begin reflected (q ∷ B))) (walk_edges false (p ∷ A)) (walk_edges reflected (q ∷ B)) (pair_contour_lem reflected (p ∷ A) (q ∷ B) (omega arith) (omega arith))
    (edges_few false (p ∷ A)) (edges_few reflected (q ∷ B))
  where
    edges_few : (reflected : Bool) (l : List Pt) → length (walk_edges reflected l) ≤ length l
    edges_few reflected l = omega (arith, length_handed (begin reflected l).remaining l (begin reflected l), begin_remaining reflected l)

    bound : {K : List Pt} {i j : ℕ} (s : Pt) (m l : List Pt) → K ≡ corners_from s (grouped (live (stepped m l))) → length m ≤ i → length l ≤ j → length K ≤ i + j
    bound {K} s m l e h k = omega (arith, ap length e, length-corners_from s (grouped (live (stepped m l))), length_grouped (live (stepped m l)), length_live (stepped m l), length_stepped m l)
