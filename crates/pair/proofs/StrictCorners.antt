-- The corners of a convex, strictly ascending list of edges are a strictly convex contour as
-- document 01 defines it (`strictly_convex_lem`): their edges are the list (`edges_corners`), every
-- turn is to the left, and there is one descent, from the last edge to the first. Assumes nothing.
use mathlib.Core.Path.{◌≡◌, refl, sym, ◌∙◌, ap, ap₂}
use mathlib.Core.Bool.{true, not}
use mathlib.Core.List.{List, [], ◌∷◌, ◌++◌, map}
use Prim.Native.Nat.{◌+◌}
use lib.Dec.{eqb}
use Rattle.integers.specs.Lists.{links, neighbours}
use Rattle.integers.proofs.Elements.{all_map}
use Rattle.integers.proofs.Tests.{<-lt_z}
use Rattle.plane.specs.Plane.{Pt, O, ◌+ᵖ◌, ◌-ᵖ◌}
use Rattle.plane.specs.Contour.{edges}
use Rattle.plane.proofs.Vectors.{+ᵖ_assoc, +ᵖ-zero}
use Rattle.plane.proofs.Directions.{Lt, lt_le, nz_not_zero}
use Rattle.pair.specs.Premise.{how_many, descent, left, both, round_by, strictly_convex}
use Rattle.plane.specs.Contour.{last_of}
use Rattle.pair.specs.Berg.{corners_from}
use Rattle.pair.specs.Demand.{sumᵖ}
use Rattle.plane.proofs.Sides.{+ᵖ_sub, lt_ahead, le_behind}
use Rattle.pair.proofs.Convex.{Sorted, Convex}
use Rattle.pair.proofs.Reaches.{convex_nonempty}
use Rattle.pair.proofs.Gaps.{turns_left}
use Rattle.pair.proofs.Repeats.{how_many_perm}
use Rattle.pair.proofs.Counts.{bit, count_cons, count_all, pass_all, perm_last, all_last, links_sorted}

-- ---- the edges of the corners are the edges

-- (q + e) - q = e, from each corner to the next and from the last to p
diff_corners : (q e : Pt) (l : List Pt) {p : Pt} → q +ᵖ sumᵖ (e ∷ l) ≡ p → map (λ c. c.1 -ᵖ c.0) (links q (corners_from (q +ᵖ e) l ++ (p ∷ []))) ≡ e ∷ l
unfolding links corners_from sumᵖ
diff_corners q e [] h = ap (λ v. v ∷ []) (ap (λ v. v -ᵖ q) (sym h ∙ ap (λ v. q +ᵖ v) (+ᵖ-zero e)) ∙ +ᵖ_sub q e)
diff_corners q e (f ∷ l) h = ap₂ ◌∷◌ (+ᵖ_sub q e) (diff_corners (q +ᵖ e) f l (+ᵖ_assoc q e (sumᵖ (f ∷ l)) ∙ h))

-- round a closed list
pub edges_corners : (P : Pt) (l : List Pt) → sumᵖ l ≡ O → edges (corners_from P l) ≡ l
unfolding edges neighbours corners_from
edges_corners P [] z = refl
edges_corners P (e ∷ l) z = diff_corners P e l (ap (λ v. P +ᵖ v) z ∙ +ᵖ-zero P)

-- ---- strictly convex, of the corners as they stand

-- one descent: from the last edge to the first
one_descent : {M : List Pt} → Convex M → Sorted Lt M → how_many descent (neighbours M) ≡ 1
unfolding descent last_of sumᵖ
one_descent {M = []} c s = absurd (convex_nonempty c refl)
one_descent {M = e ∷ []} c s = absurd (nz_not_zero c.nonzero.0 (sym (+ᵖ-zero e) ∙ c.closed))
one_descent {M = e ∷ f ∷ l} c s =
    how_many_perm descent (perm_last e (f ∷ l)) ∙ count_cons descent (last_of e (f ∷ l), e) (links e (f ∷ l))
    ∙ ap₂ (λ b n. bit b + n) (lt_ahead (all_last (Lt e) l s.0))
    (count_all descent (links e (f ∷ l)) (all_map (links e (f ∷ l)) (λ t h. le_behind (lt_le h)) (links_sorted Lt e (f ∷ l) s)))

-- every turn to the left
no_other_turn : {M : List Pt} → Convex M → Sorted Lt M → how_many (λ t. not (left t)) (neighbours M) ≡ 0
unfolding left
no_other_turn {M} c s = pass_all left (neighbours M) (all_map (neighbours M) (λ t h. <-lt_z h) (turns_left c s))

-- document 01's test of both counts
pub strictly_convex_lem : (P : Pt) {M : List Pt} → Convex M → Sorted Lt M → strictly_convex (corners_from P M) ≡ true
unfolding strictly_convex round_by
strictly_convex_lem P {M} c s =
    ap (λ l. both (eqb (how_many (λ t. not (left t)) (neighbours l)) 0) (eqb (how_many descent (neighbours l)) 1)) (edges_corners P M c.closed)
    ∙ ap₂ (λ m n. both (eqb m 0) (eqb n 1)) (no_other_turn c s) (one_descent c s)
