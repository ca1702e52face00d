-- The merge of two unrolled walks is the pair's contour (`pair_merged`). In order: points and their
-- edges; unrolled walks are `Turning`; the law; how long walks and merges are. Assumes nothing.
use mathlib.Core.Path.{◌≡◌, refl, sym, ◌∙◌, ap, ap₂, subst}
use mathlib.Core.Bool.{Bool, false}
use mathlib.Core.List.{List, [], ◌∷◌}
use Prim.Native.Nat.{ℕ, suc, ◌+◌, ◌-◌, ◌≤◌}
use native.Mathlib.Omega.{arith}
use lib.ListN.{length}
use Rattle.integers.specs.Lists.{All}
use Rattle.integers.proofs.Order.{by_test}
use Rattle.integers.proofs.Tests.{differ}
use Rattle.plane.specs.Plane.{Pt, ◌+ᵖ◌, ◌-ᵖ◌, angle_cmp, is_equal}
use Rattle.plane.specs.Halves.{Nz}
use Rattle.plane.proofs.Directions.{Same, same_refl, same_sym, same_trans}
use Rattle.plane.proofs.Sides.{AddSame, add_same, +ᵖ_sub}
use Rattle.pair.specs.Walk.{begin, point_of}
use Rattle.pair.specs.Pair.{pair_contour}
use Rattle.pair.specs.Demand.{live, walk_edges}
use Rattle.pair.specs.Berg.{corners_from}
use Rattle.pair.specs.EdgeLists.{stepped, runs, grouped, join}
use Rattle.pair.proofs.Join.{grouped_live_stepped}
use Rattle.pair.proofs.Live.{live_nz, length_live}
use Rattle.pair.proofs.Places.{begin_remaining}
use Rattle.pair.proofs.PairSteps.{pair_contour_lem}
use Rattle.pair.proofs.FewCorners.{length_handed, length_stepped, length_grouped, length-corners_from}
use Rattle.pair_points.specs.Points.{points_along, edges_along, unrolled, merged_of, Off, Apart, Turning}
use Rattle.pair_points.proofs.Grouping.{same_test, test_same, runs_on, runs_turn, grouped_nz, join_grouped}

-- ---- points and their edges

-- the first edge leads to the first point after
edges_cons : (p q : Pt) (E : List Pt) → edges_along (p ∷ points_along q E) ≡ (q -ᵖ p) ∷ edges_along (points_along q E)
unfolding points_along edges_along
edges_cons p q [] = refl
edges_cons p q (e ∷ E) = refl

-- (p + e) - p = e
pub edges_points : (p : Pt) (E : List Pt) → edges_along (points_along p E) ≡ E
unfolding points_along
edges_points p [] = unfold edges_along in refl
edges_points p (e ∷ E) = edges_cons p (p +ᵖ e) E ∙ ap₂ ◌∷◌ (+ᵖ_sub p e) (edges_points (p +ᵖ e) E)

-- a point more than edges
pub length_points : (p : Pt) (E : List Pt) → length (points_along p E) ≡ suc (length E)
unfolding points_along
length_points p [] = refl
length_points p (e ∷ E) = ap suc (length_points (p +ᵖ e) E)

pub length_edges : (a : List Pt) → length (edges_along a) ≡ length a - 1
unfolding edges_along
length_edges [] = refl
length_edges (p ∷ []) = refl
length_edges (p ∷ q ∷ a) = omega (arith, length_edges (q ∷ a))

-- ---- the edges of runs are apart

-- a run's sum comes first, and no edge has the direction of the one before
record Run (d : Pt) (r : List Pt) : Type 0 where
  off : (e : Pt) → Nz e → is_equal (angle_cmp e d) ≡ false → Off e r
  apart : Apart r

-- what is off a direction is off each edge of it
pub off_as : {x d s : Pt} → Nz x → Nz d → Nz s → Same s d → is_equal (angle_cmp x d) ≡ false → is_equal (angle_cmp x s) ≡ false
off_as {x} {s} nx nd ns e h = by_test (is_equal (angle_cmp x s)) (λ t. differ (sym h ∙ same_test (same_trans nx ns nd (test_same t) e))) (λ t. t)

-- and an edge of a direction is off what the direction is
pub as_off : {d s f : Pt} → Nz d → Nz s → Nz f → Same s d → is_equal (angle_cmp d f) ≡ false → is_equal (angle_cmp s f) ≡ false
as_off {s} {f} nd ns nf e h = by_test (is_equal (angle_cmp s f)) (λ t. differ (sym h ∙ same_test (same_trans nd ns nf (same_sym e) (test_same t)))) (λ t. t)

runs_apart : {d s : Pt} (l : List Pt) → Nz d → Nz s → Same s d → All Nz l → Run d (runs d s l)
runs_apart {d = d} {s = s} [] nd ns e nl = unfold runs in record { off = λ x nx. off_as nx nd ns e; apart = (tt, tt) }
runs_apart {d = d} {s = s} (f ∷ l) nd ns e nl = by_test (is_equal (angle_cmp d f))
    (λ h. let a : AddSame s f = add_same ns nl.0 (same_trans ns nd nl.0 e (test_same h)) in
    subst (Run d) (sym (runs_on d s f l h))
    (runs_apart {d = d} {s = s +ᵖ f} l nd a.nonzero (same_trans a.nonzero nl.0 nd a.same (same_sym (test_same h))) nl.1))
    (λ h. let r : Run f (runs f f l) = runs_apart {d = f} {s = f} l nl.0 nl.0 (same_refl f) nl.1 in
    subst (Run d) (sym (runs_turn d s f l h))
    (record { off = λ x nx. off_as nx nd ns e; apart = (r.off s ns (as_off nd ns nl.0 e h), r.apart) }))

pub grouped_apart : (l : List Pt) → All Nz l → Apart (grouped l)
unfolding grouped
grouped_apart [] n = tt
grouped_apart (e ∷ l) n = (runs_apart l n.0 n.0 (same_refl e) n.1).apart

-- so an unrolled walk turns at each point
pub turning_unrolled : (reflected : Bool) (l : List Pt) → Turning (unrolled reflected l)
unfolding unrolled
turning_unrolled reflected [] = unfold edges_along in record { nonzero = tt; apart = tt }
turning_unrolled reflected (c ∷ l) = of (point_of (c ∷ l) (begin reflected (c ∷ l))) (live (walk_edges reflected (c ∷ l))) (live_nz (walk_edges reflected (c ∷ l)))
  where
    of : (p : Pt) (E : List Pt) → All Nz E → Turning (points_along p (grouped E))
    of p E n = record {
      nonzero = subst (All Nz) (sym (edges_points p (grouped E))) (grouped_nz E n);
      apart = subst Apart (sym (edges_points p (grouped E))) (grouped_apart E n);
    }

-- ---- the merge of two walks is the pair's contour

-- the merge of points is the join of their edges
pub merged_along : (p q : Pt) (E F : List Pt) → merged_of (points_along p E) (points_along q F) ≡ corners_from (p +ᵖ q) (join E F)
merged_along p q E F = of E F (edges_points p E) (edges_points q F)
  where
    of : (E F : List Pt) {G H : List Pt} → edges_along (points_along p E) ≡ G → edges_along (points_along q F) ≡ H → merged_of (points_along p E) (points_along q F) ≡ corners_from (p +ᵖ q) (join G H)
    of [] [] g h = unfold points_along merged_of in (λ i. corners_from (p +ᵖ q) (join (g i) (h i)))
    of [] (f ∷ F) g h = unfold points_along merged_of in (λ i. corners_from (p +ᵖ q) (join (g i) (h i)))
    of (e ∷ E) [] g h = unfold points_along merged_of in (λ i. corners_from (p +ᵖ q) (join (g i) (h i)))
    of (e ∷ E) (f ∷ F) g h = unfold points_along merged_of in (λ i. corners_from (p +ᵖ q) (join (g i) (h i)))

merged_nil : (a : List Pt) → merged_of a [] ≡ []
unfolding merged_of
merged_nil [] = refl
merged_nil (p ∷ a) = refl

pub pair_merged : (reflected : Bool) (A B : List Pt) → pair_contour reflected A B ≡ merged_of (unrolled false A) (unrolled reflected B)
pair_merged reflected [] B = unfold pair_contour unrolled merged_of in refl
pair_merged reflected (p ∷ A) [] = unfold pair_contour unrolled in sym (merged_nil _)
pair_merged reflected (p ∷ A) (q ∷ B) =
    pair_contour_lem reflected (p ∷ A) (q ∷ B) (omega arith) (omega arith) ∙ ap (corners_from _) (grouped_live_stepped (walk_edges false (p ∷ A)) (walk_edges reflected (q ∷ B)))
    ∙ of (point_of (p ∷ A) (begin false (p ∷ A))) (point_of (q ∷ B) (begin reflected (q ∷ B))) (walk_edges false (p ∷ A)) (walk_edges reflected (q ∷ B))
    ∙ (unfold unrolled in refl)
  where
    of : (s t : Pt) (m l : List Pt) → corners_from (s +ᵖ t) (join (live m) (live l)) ≡ merged_of (points_along s (grouped (live m))) (points_along t (grouped (live l)))
    of s t m l = ap (corners_from (s +ᵖ t)) (sym (join_grouped (live m) (live l) (live_nz m) (live_nz l))) ∙ sym (merged_along s t (grouped (live m)) (grouped (live l)))

-- ---- how long they are

-- a walk has no more edges than its contour corners, so no more points than one more
pub length_unrolled : (reflected : Bool) (l : List Pt) → length (unrolled reflected l) ≤ length l + 1
length_unrolled reflected [] = unfold unrolled in omega arith
length_unrolled reflected (c ∷ l) =
    unfold unrolled in of (point_of (c ∷ l) (begin reflected (c ∷ l))) (walk_edges reflected (c ∷ l))
    (length_handed (begin reflected (c ∷ l)).remaining (c ∷ l) (begin reflected (c ∷ l))) (begin_remaining reflected (c ∷ l))
  where
    of : {k n : ℕ} (p : Pt) (E : List Pt) → length E ≡ k → k ≤ n → length (points_along p (grouped (live E))) ≤ n + 1
    of p E e h = omega (arith, length_points p (grouped (live E)), length_grouped (live E), length_live E)

-- and the merge no more corners than both lists edges
pub length_merged : (a b : List Pt) → length (merged_of a b) ≤ (length a - 1) + (length b - 1)
unfolding merged_of join
length_merged [] b = omega arith
length_merged (p ∷ a) [] = omega arith
length_merged (p ∷ a) (q ∷ b) =
    let E = edges_along (p ∷ a) in
    let F = edges_along (q ∷ b) in
    omega (arith, length-corners_from (p +ᵖ q) (grouped (stepped E F)), length_grouped (stepped E F), length_stepped E F, length_edges (p ∷ a), length_edges (q ∷ b))
