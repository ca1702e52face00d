-- Demand 3 over lists of edges (`FarthestReach` of specs/Demand.antt): the contour of the join of
-- two convex lists is strictly convex, its corners are sums, its reaches are the reaches added, and
-- every list with those reaches contains its corners and so is no shorter. In order: of any two
-- contours that the lists stand for (`farthest_outlines`), and of the lists' own contours
-- (`farthest`). Assumes nothing.
use mathlib.Core.Path.{◌≡◌, refl, sym, ◌∙◌, ap, ap₂, subst}
use mathlib.Core.List.{List, [], ◌∷◌}
use lib.IntN.{◌+ℤ◌}
use Rattle.integers.specs.Lists.{All, Any}
use Rattle.integers.proofs.Elements.{all_map, any_map, all_any, all_image}
use Rattle.integers.proofs.Pigeonhole.{pigeonhole}
use Rattle.plane.specs.Plane.{Pt, ◌+ᵖ◌}
use Rattle.plane.specs.Halves.{Nz}
use Rattle.plane.proofs.Directions.{Lt}
use Rattle.pair.specs.Walk.{corner_at}
use Rattle.pair.specs.Premise.{reach}
use Rattle.pair.specs.Berg.{corners_from}
use Rattle.pair.specs.Demand.{SameReach, FarthestReach}
use Rattle.plane.proofs.Sides.{+ᵖ_cross}
use Rattle.pair.proofs.Convex.{In, in_self, Sorted, Convex, Outline}
use Rattle.pair.proofs.Totals.{cut}
use Rattle.pair.proofs.Splits.{corners_cuts}
use Rattle.pair.specs.EdgeLists.{join}
use Rattle.pair.proofs.Join.{join_strict, cut_join, join_convex}
use Rattle.pair.proofs.Reaches.{convex_nonempty, corners_nonempty, cut_corner, reach_join}
use Rattle.pair.proofs.StrictCorners.{strictly_convex_lem}
use Rattle.pair.proofs.Upper.{distinct_corners}
use Rattle.pair.proofs.Contained.{contains}

-- the contour begins at its first corner
first_corner : (P : Pt) {M : List Pt} → Convex M → corner_at (corners_from P M) 0 ≡ P
unfolding corners_from
first_corner P {M = []} c = absurd (convex_nonempty c refl)
first_corner P {M = e ∷ l} c = refl

module _ {P Q : Pt} {A B E F : List Pt} (a : Outline P A E) (b : Outline Q B F) where
  abbrev K : List Pt
  K = corners_from (P +ᵖ Q) (join E F)

  c : Convex (join E F)
  c = join_convex a.convex b.convex

  s : Sorted Lt (join E F)
  s = join_strict a.convex b.convex

  -- the corner at the cut of r is the sum of both contours' corners there
  sum_at : (r : Pt) → Nz r → Any (λ p. Any (λ q. (P +ᵖ Q) +ᵖ cut r (join E F) ≡ p +ᵖ q) B) A
  sum_at r n =
      any_map A (λ p e. any_map B (λ q f. ap (λ v. (P +ᵖ Q) +ᵖ v) (cut_join a.convex b.convex n) ∙ +ᵖ_cross P Q (cut r E) (cut r F) ∙ sym (ap₂ ◌+ᵖ◌ e f))
      (all_any (corners_from Q F) b.corners (cut_corner n Q b.convex) (λ q h e. subst (In B) e h)))
      (all_any (corners_from P E) a.corners (cut_corner n P a.convex) (λ p h e. subst (In A) e h))

  -- the reaches add
  adds : (d : Pt) → reach d K ≡ reach d A +ℤ reach d B
  adds d = reach_join d P Q a.convex b.convex ∙ sym (ap₂ ◌+ℤ◌ (a.reaches d) (b.reaches d))

  -- each corner is in every list with those reaches
  inside : (L : List Pt) → SameReach A B L → All (In L) K
  inside L h = contains h.nonempty (P +ᵖ Q) c s (λ d. h.adds d ∙ sym (adds d))

  -- demand 3, of the contours A and B that P, E and Q, F stand for
  pub farthest_outlines : FarthestReach (P +ᵖ Q) A B (corners_from (P +ᵖ Q) (join E F))
  farthest_outlines = record {
    begins = first_corner (P +ᵖ Q) c;
    convex = strictly_convex_lem (P +ᵖ Q) c s;
    sums = subst (All (λ k. Any (λ p. Any (λ q. k ≡ p +ᵖ q) B) A)) (sym (corners_cuts (P +ᵖ Q) (join E F) s))
        ((all_image (λ k. Any (λ p. Any (λ q. k ≡ p +ᵖ q) B) A) (λ r. (P +ᵖ Q) +ᵖ cut r (join E F)) (join E F)).1 (all_map (join E F) sum_at c.nonzero));
    reaches = record { nonempty = corners_nonempty (P +ᵖ Q) c; adds = adds };
    contained = inside;
    fewest = λ L h. pigeonhole K L (distinct_corners (P +ᵖ Q) c s) (inside L h);
  }

-- a convex list stands for its own contour
outline_self : (P : Pt) {E : List Pt} → Convex E → Outline P (corners_from P E) E
outline_self P {E} c = record { convex = c; reaches = λ d. refl; corners = in_self (corners_from P E) }

-- demand 3, of the contours of E from P and of F from Q
pub farthest : (P Q : Pt) {E F : List Pt} → Convex E → Convex F → FarthestReach (P +ᵖ Q) (corners_from P E) (corners_from Q F) (corners_from (P +ᵖ Q) (join E F))
farthest P Q e f = farthest_outlines (outline_self P e) (outline_self Q f)
