-- Each corner of a merge is a point of one list plus a point of the other: what holds of every such
-- sum holds of each corner (`merged_sums`). Assumes nothing.
use mathlib.Core.Path.{◌≡◌, refl, sym, ◌∙◌, ap, subst}
use mathlib.Core.List.{List, [], ◌∷◌}
use Rattle.integers.specs.Lists.{All}
use Rattle.integers.proofs.Order.{by_test}
use Rattle.integers.proofs.Elements.{all_map}
use Rattle.plane.specs.Plane.{Pt, ◌+ᵖ◌, is_zero, angle_cmp, is_greater}
use Rattle.plane.proofs.Vectors.{+ᵖ_assoc, +ᵖ_comm, +ᵖ--ᵖ}
use Rattle.pair.specs.Berg.{corners_from}
use Rattle.pair.specs.EdgeLists.{step_one, stepped, join}
use Rattle.pair_points.specs.Points.{points_along, edges_along, merged_of}
use Rattle.pair_points.proofs.OnContour.{first_along, along_grouped}

-- a list of points is its first and its edges
points_edges : (p : Pt) (a : List Pt) → points_along p (edges_along (p ∷ a)) ≡ p ∷ a
unfolding points_along edges_along
points_edges p [] = refl
points_edges p (q ∷ a) = ap (λ l. p ∷ l) (ap (λ r. points_along r (edges_along (q ∷ a))) (+ᵖ--ᵖ p q) ∙ points_edges q a)

-- (p + q) + e = (p + e) + q
step_aside : (p q e : Pt) → (p +ᵖ e) +ᵖ q ≡ (p +ᵖ q) +ᵖ e
step_aside p q e = +ᵖ_assoc p e q ∙ ap (λ r. p +ᵖ r) (+ᵖ_comm e q) ∙ sym (+ᵖ_assoc p q e)

module _ (Q : Pt → Type 0) where
  -- of each point of a and each of b
  abbrev pub EachSum : List Pt → List Pt → Type 0
  EachSum a b = All (λ x. All (λ y. Q (x +ᵖ y)) b) a

  moved : (p q : Pt) (F : List Pt) → All (λ y. Q (p +ᵖ y)) (points_along q F) → All Q (points_along (p +ᵖ q) F)
  unfolding points_along
  moved p q [] h = h
  moved p q (f ∷ F) h = (h.0, subst (λ r. All Q (points_along r F)) (sym (+ᵖ_assoc p q f)) (moved p (q +ᵖ f) F h.1))

  -- the first of each
  both_first : (p q : Pt) (E F : List Pt) → EachSum (points_along p E) (points_along q F) → Q (p +ᵖ q)
  both_first p q E F h = first_along (λ y. Q (p +ᵖ y)) q F (first_along (λ x. All (λ y. Q (x +ᵖ y)) (points_along q F)) p E h)

  -- the first list's edge e steps, or one of the second before it; `rest` is of what comes after e
  module _ (p e : Pt) (E : List Pt) (rest : (q : Pt) (F : List Pt) → EachSum (points_along (p +ᵖ e) E) (points_along q F) → All Q (points_along ((p +ᵖ e) +ᵖ q) (stepped E F))) where
    first_steps : (q : Pt) (F : List Pt) → EachSum (points_along p (e ∷ E)) (points_along q F) → All Q (points_along (p +ᵖ q) (e ∷ stepped E F))
    unfolding points_along
    first_steps q F h = (both_first p q (e ∷ E) F h, subst (λ r. All Q (points_along r (stepped E F))) (step_aside p q e) (rest q F h.1))

    either_steps : (q : Pt) (F : List Pt) → EachSum (points_along p (e ∷ E)) (points_along q F) → All Q (points_along (p +ᵖ q) (step_one e (stepped E) F))
    unfolding points_along step_one
    either_steps q [] h = first_steps q [] h
    either_steps q (f ∷ F) h =
        let g : All Q (points_along (p +ᵖ q) (f ∷ step_one e (stepped E) F)) =
        (both_first p q (e ∷ E) (f ∷ F) h, subst (λ r. All Q (points_along r (step_one e (stepped E) F))) (sym (+ᵖ_assoc p q f)) (either_steps (q +ᵖ f) F (all_map (points_along p (e ∷ E)) (λ x k. k.1) h))) in
        by_test (is_zero e)
        (λ z. rw z (first_steps q (f ∷ F) h))
        (λ z. by_test (is_zero f)
        (λ y. rw (z, y) g)
        (λ y. by_test (is_greater (angle_cmp e f)) (λ t. rw (z, y, t) g) (λ t. rw (z, y, t) (first_steps q (f ∷ F) h))))

  along_stepped : (p q : Pt) (E F : List Pt) → EachSum (points_along p E) (points_along q F) → All Q (points_along (p +ᵖ q) (stepped E F))
  unfolding points_along stepped
  along_stepped p q [] F h = moved p q F h.0
  along_stepped p q (e ∷ E) F h = either_steps p e E (λ q F h. along_stepped (p +ᵖ e) q E F h) q F h

  corners_along : (p : Pt) (E : List Pt) → All Q (points_along p E) → All Q (corners_from p E)
  unfolding points_along corners_from
  corners_along p [] h = tt
  corners_along p (e ∷ E) h = (h.0, corners_along (p +ᵖ e) E h.1)

  pub merged_sums : (a b : List Pt) → EachSum a b → All Q (merged_of a b)
  unfolding merged_of join
  merged_sums [] b h = tt
  merged_sums (p ∷ a) [] h = tt
  merged_sums (p ∷ a) (q ∷ b) h =
      let E = edges_along (p ∷ a) in
      let F = edges_along (q ∷ b) in
      corners_along (p +ᵖ q) (join E F)
      (along_grouped Q (p +ᵖ q) (stepped E F) (along_stepped p q E F (subst (λ l. EachSum l (points_along q F)) (sym (points_edges p a)) (subst (EachSum (p ∷ a)) (sym (points_edges q b)) h))))
