-- Demand 3 of the definitions (`demand3`), the walk's lemma (`walked`) and de Berg et al.'s sum
-- (`sum_is_de_berg`). Assumes nothing.
use mathlib.Core.Path.{◌≡◌, refl, sym, ◌∙◌, ap, ap₂, subst, subst₂}
use mathlib.Core.Bool.{Bool, true, false, cond}
use mathlib.Core.List.{List, [], ◌∷◌, map, map-id, reverse}
use mathlib.Core.Logic.{◌⊎◌, inl, inr, ⊎_elim}
use Prim.Native.Nat.{ℕ, suc, ◌<◌}
use native.Mathlib.Omega.{arith}
use lib.ListN.{length, length-reverse}
use lib.IntN.{ℤ, pos}
use lib.Signed.{◌<ℤ◌, lt_z}
use Rattle.integers.specs.Lists.{All, sumℤ, rotate, neighbours}
use Rattle.integers.proofs.Order.{zarith, by_test, <-≤}
use Rattle.integers.proofs.Tests.{differ, <-lt_z, ≤-lt_z}
use Rattle.plane.specs.Plane.{Pt, O, ◌+ᵖ◌, negᵖ}
use Rattle.plane.specs.Contour.{edges, contour_area}
use Rattle.plane.proofs.Contours.{contour_reverse}
use Rattle.plane.specs.Halves.{Nz}
use Rattle.plane.proofs.Directions.{Lt}
use Rattle.pair.specs.Walk.{corner_at, start_at, least_at, winding, begin, turned, point_of, winding_terms, below}
use Rattle.pair.specs.Pair.{pair_contour}
use Rattle.pair.specs.Premise.{how_many, descent, forward, round_by, without_repeats, once_round, strictly_convex, through_origin}
use Rattle.pair.specs.Berg.{corners_from, anticlockwise, from_lowest, berg_of, de_berg}
use Rattle.pair.specs.Demand.{second, FarthestReach, Demand3, walk_edges, live, sumᵖ, ascending, WalkedRound, Walked, FewCorners, EitherWay, SumIsDeBerg}
use Rattle.pair.specs.EdgeLists.{stepped, grouped, join}
use Rattle.pair.proofs.Start.{start_inside, start_is_least, least_all, greatest_all, least_is}
use Rattle.pair.proofs.Places.{backwards, begin_point, walk_onward, walk_backward, turned_edges}
use Rattle.pair.proofs.PairSteps.{pair_contour_lem}
use Rattle.pair.proofs.FewCorners.{few_corners}
use Rattle.pair.proofs.Repeats.{RoundEdges, once_round_lem, live_round, round_live}
use Rattle.pair.proofs.Convex.{Sorted, Convex, Outline}
use Rattle.pair.proofs.Join.{grouped_live_stepped}
use Rattle.pair.proofs.Counts.{ascending_sorted}
use Rattle.pair.proofs.Farthest.{farthest_outlines}
use Rattle.pair.proofs.Tables.{sum_edges}
use Rattle.pair.proofs.Readings.{corner_rotate, outline_on, winding_on, outline_back, winding_back}
use Rattle.pair.proofs.Turned.{outline_on_neg, winding_on_neg, outline_back_neg, winding_back_neg}
use Rattle.pair.proofs.DeBerg.{berg_corners}
use Rattle.pair.proofs.Sharp.{sharp_nonzero, sharp_round, sharp_live_on, sharp_ascends, sharp_live_back, sharp_back, sharp_back_start, winding_area}

-- ---- one walk

-- a contour that goes round has a corner
filled : (l : List Pt) → RoundEdges (live (edges l)) → 0 < length l
filled [] r = absurd (unfold edges neighbours live how_many in omega (arith, r.once))
filled (c ∷ l) r = omega arith

filled_back : (l : List Pt) → RoundEdges (live (edges (reverse l))) → 0 < length l
filled_back l r = subst (λ n. 0 < n) (length-reverse l) (filled (reverse l) r)

least_start : (l : List Pt) → 0 < length l → All (λ c. below c (corner_at l (start_at false l)) ≡ false) l
unfolding start_at
least_start l h = least_all l h

greatest_start : (l : List Pt) → 0 < length l → All (λ c. below (corner_at l (start_at true l)) c ≡ false) l
unfolding start_at
greatest_start l h = greatest_all l h

-- what a walk hands out, onward and backwards
onward : (reflected : Bool) (l : List Pt) → RoundEdges (live (edges l)) → (pos 0 <ℤ winding reflected l) × Outline (turned reflected (corner_at l (start_at reflected l))) (second reflected l) (live (map (turned reflected) (edges (rotate (start_at reflected l) l))))
unfolding winding second through_origin
onward false l r =
    let h : 0 < length l = filled l r in (
      winding_on l (start_inside false l h) (least_start l h) r,
      subst (λ E. Outline (corner_at l (start_at false l)) l (live E)) (sym (map-id (edges (rotate (start_at false l) l)))) (outline_on l (start_inside false l h) (least_start l h) r),
    )
onward true l r =
    let h : 0 < length l = filled l r in
    (winding_on_neg l (start_inside true l h) (greatest_start l h) r, outline_on_neg l (start_inside true l h) (greatest_start l h) r)

back : (reflected : Bool) (l : List Pt) → RoundEdges (live (edges (reverse l))) → (winding reflected l <ℤ pos 0) × Outline (turned reflected (corner_at l (start_at reflected l))) (second reflected l) (live (map (turned reflected) (edges (backwards (rotate (start_at reflected l) l)))))
unfolding winding second through_origin
back false l r =
    let h : 0 < length l = filled_back l r in (
      winding_back l (start_inside false l h) (least_start l h) r,
      subst (λ E. Outline (corner_at l (start_at false l)) l (live E)) (sym (map-id (edges (backwards (rotate (start_at false l) l))))) (outline_back l (start_inside false l h) (least_start l h) r),
    )
back true l r =
    let h : 0 < length l = filled_back l r in
    (winding_back_neg l (start_inside true l h) (greatest_start l h) r, outline_back_neg l (start_inside true l h) (greatest_start l h) r)

walk_on : (reflected : Bool) (l : List Pt) (r : RoundEdges (live (edges l))) → walk_edges reflected l ≡ map (turned reflected) (edges (rotate (start_at reflected l) l))
walk_on reflected l r = walk_onward reflected l (filled l r) (<-lt_z (onward reflected l r).0)

walk_back : (reflected : Bool) (l : List Pt) (r : RoundEdges (live (edges (reverse l)))) → walk_edges reflected l ≡ map (turned reflected) (edges (backwards (rotate (start_at reflected l) l)))
walk_back reflected l r = walk_backward reflected l (filled_back l r) (<-lt_z (back reflected l r).0)

pub outline_walk : (reflected : Bool) (l : List Pt) → once_round l ≡ true → Outline (point_of l (begin reflected l)) (second reflected l) (live (walk_edges reflected l))
outline_walk reflected l h =
    ⊎_elim (λ r. subst₂ (λ p E. Outline p (second reflected l) (live E)) (sym (begin_point reflected l)) (sym (walk_on reflected l r)) (onward reflected l r).1)
    (λ r. subst₂ (λ p E. Outline p (second reflected l) (live E)) (sym (begin_point reflected l)) (sym (walk_back reflected l r)) (back reflected l r).1) (once_round_lem l h)

filled_once : (l : List Pt) → once_round l ≡ true → 0 < length l
filled_once l h = ⊎_elim (filled l) (filled_back l) (once_round_lem l h)

-- ---- demand 3

pair_is : (reflected : Bool) (A B : List Pt) → 0 < length A → 0 < length B → pair_contour reflected A B ≡ corners_from (point_of A (begin false A) +ᵖ point_of B (begin reflected B)) (join (live (walk_edges false A)) (live (walk_edges reflected B)))
pair_is reflected A B h k = pair_contour_lem reflected A B h k ∙ ap (corners_from (point_of A (begin false A) +ᵖ point_of B (begin reflected B))) (grouped_live_stepped (walk_edges false A) (walk_edges reflected B))

pub demand3 : Demand3
unfolding second
demand3 reflected A B a b =
    subst (FarthestReach (point_of A (begin false A) +ᵖ point_of B (begin reflected B)) A (second reflected B)) (sym (pair_is reflected A B (filled_once A a) (filled_once B b)))
    (farthest_outlines (outline_walk false A a) (outline_walk reflected B b))

-- ---- the walk's lemma

sum_turned : (reflected : Bool) (l : List Pt) → sumᵖ (map (turned reflected) (edges l)) ≡ O
sum_turned reflected l = ap sumᵖ (turned_edges reflected l) ∙ sum_edges (map (turned reflected) l)

pub walked : Walked
walked reflected l h = ⊎_elim on off (once_round_lem l h)
  where
    asc : ascending (live (walk_edges reflected l)) ≡ true
    asc = ascending_sorted (live (walk_edges reflected l)) (outline_walk reflected l h).convex.ascends

    zero_pos : {k : ℤ} → pos 0 <ℤ k → k ≡ pos 0 → ⊥
    zero_pos p e = omega zarith

    zero_neg : {k : ℤ} → k <ℤ pos 0 → k ≡ pos 0 → ⊥
    zero_neg p e = omega zarith

    on : RoundEdges (live (edges l)) → WalkedRound reflected l
    on r = record {
      turns = zero_pos (onward reflected l r).0;
      sign = <-lt_z (onward reflected l r).0 ∙ sym (live_round l r);
      ascends = asc;
      closes = ap sumᵖ (walk_on reflected l r) ∙ sum_turned reflected (rotate (start_at reflected l) l);
    }

    both : {k : ℤ} → pos 0 <ℤ k → k <ℤ pos 0 → ⊥
    both p q = omega zarith

    off : RoundEdges (live (edges (reverse l))) → WalkedRound reflected l
    off r = record {
      turns = zero_neg (back reflected l r).0;
      sign = ≤-lt_z {x = pos 0} {y = winding reflected l} (<-≤ (back reflected l r).0) ∙ by_test (round_by forward (without_repeats l)) (λ t. absurd (both (onward reflected l (round_live l t)).0 (back reflected l r).0)) (λ t. sym t);
      ascends = asc;
      closes = ap sumᵖ (walk_back reflected l r) ∙ sum_turned reflected (backwards (rotate (start_at reflected l) l));
    }

pub few : FewCorners
few = few_corners

-- ---- de Berg et al.

-- what their list reads of a contour is what the walk hands out
record Read (l C : List Pt) : Type 0 where
  size : 0 < length l
  from : point_of l (begin false l) ≡ corner_at C 0
  along : live (walk_edges false l) ≡ edges C
  nonzero : All Nz (edges C)
  strict : Sorted Lt (edges C)

read_on : (l : List Pt) → strictly_convex l ≡ true → Read l (from_lowest (anticlockwise l))
unfolding start_at from_lowest anticlockwise
read_on l h =
    let r : RoundEdges (live (edges l)) = sharp_round l h in
    let f : 0 < length l = filled l r in
    let i : least_at l < length l = start_inside false l f in
    let way : cond (lt_z (contour_area l) (pos 0)) (reverse l) l ≡ l = ap (λ b. cond b (reverse l) l) (≤-lt_z {x = contour_area l} {y = pos 0} (<-≤ (subst (λ k. pos 0 <ℤ k) (winding_area (least_at l) l) (winding_on l i (least_all l f) r)))) in
    subst (λ c. Read l (rotate (least_at c) c)) (sym way) (record {
      size = f;
      from = begin_point false l ∙ sym (corner_rotate l i);
      along = ap live (walk_on false l r ∙ map-id (edges (rotate (least_at l) l))) ∙ sharp_live_on l h i (least_all l f);
      nonzero = subst (All Nz) (sharp_live_on l h i (least_all l f)) (outline_on l i (least_all l f) r).convex.nonzero;
      strict = sharp_ascends l h i (least_all l f);
    })

read_back : (l : List Pt) → strictly_convex (reverse l) ≡ true → Read l (from_lowest (anticlockwise l))
unfolding start_at from_lowest anticlockwise
read_back l h =
    let r : RoundEdges (live (edges (reverse l))) = sharp_round (reverse l) h in
    let f : 0 < length l = filled_back l r in
    let g : 0 < length (reverse l) = filled (reverse l) r in
    let i : least_at l < length l = start_inside false l f in
    let j : least_at (reverse l) < length (reverse l) = start_inside false (reverse l) g in
    let way : cond (lt_z (contour_area l) (pos 0)) (reverse l) l ≡ reverse l = ap (λ b. cond b (reverse l) l) (<-lt_z (subst (λ k. k <ℤ pos 0) (winding_area (least_at l) l) (winding_back l i (least_all l f) r))) in
    subst (λ c. Read l (rotate (least_at c) c)) (sym way) (record {
      size = f;
      from = begin_point false l ∙ sharp_back_start l h i (least_all l f) j (least_all (reverse l) g) ∙ sym (corner_rotate (reverse l) j);
      along = ap live (walk_back false l r ∙ map-id (edges (backwards (rotate (least_at l) l)))) ∙ sharp_live_back l h i (least_all l f) ∙ sharp_back l h i (least_all l f) j (least_all (reverse l) g);
      nonzero = subst (All Nz) (sharp_live_on (reverse l) h j (least_all (reverse l) g)) (outline_on (reverse l) j (least_all (reverse l) g) r).convex.nonzero;
      strict = sharp_ascends (reverse l) h j (least_all (reverse l) g);
    })

read : {l : List Pt} → EitherWay l → Read l (from_lowest (anticlockwise l))
read {l} h = ⊎_elim (read_on l) (read_back l) h

pub sum_is_de_berg : SumIsDeBerg
unfolding de_berg
sum_is_de_berg A B a b =
    let p = read a in
    let q = read b in
    pair_is false A B p.size q.size ∙ ap₂ corners_from (ap₂ ◌+ᵖ◌ p.from q.from) (ap₂ join p.along q.along)
    ∙ sym (berg_corners (from_lowest (anticlockwise A)) (from_lowest (anticlockwise B)) p.nonzero q.nonzero p.strict q.strict)
