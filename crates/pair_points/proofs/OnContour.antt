-- The points of an unrolled walk are corners of its contour, negated where it is reflected
-- (`unrolled_points`): what holds of those holds of them. Assumes nothing.
use mathlib.Core.Path.{◌≡◌, refl, sym, ◌∙◌, ap, subst}
use mathlib.Core.Bool.{Bool}
use mathlib.Core.List.{List, [], ◌∷◌}
use Prim.Native.Nat.{ℕ, zero, suc}
use native.Mathlib.Omega.{arith}
use lib.ListN.{length}
use Rattle.integers.specs.Lists.{All}
use Rattle.integers.proofs.Order.{by_test}
use Rattle.integers.proofs.Elements.{all_get_d}
use Rattle.plane.specs.Plane.{Pt, O, ◌+ᵖ◌, is_zero, angle_cmp, is_equal}
use Rattle.plane.proofs.Vectors.{+ᵖ_assoc, +ᵖ-zero, is_zero_true}
use Rattle.pair.specs.declared.Place.{Place}
use Rattle.pair.specs.Walk.{begin, point_of, advance, turned, corner_at}
use Rattle.pair.specs.Demand.{live, handed, walk_edges}
use Rattle.pair.specs.EdgeLists.{runs, grouped}
use Rattle.pair.proofs.Places.{Valid, valid_advance, valid_begin, begin_by, point_advance}
use Rattle.pair_points.specs.Points.{points_along, unrolled}
use Rattle.pair_points.proofs.Grouping.{runs_on, runs_turn}

module _ (Q : Pt → Type 0) where
  -- the first point
  pub first_along : (p : Pt) (E : List Pt) → All Q (points_along p E) → Q p
  unfolding points_along
  first_along p [] h = h.0
  first_along p (e ∷ E) h = h.0

  -- zero edges dropped
  along_live : (p : Pt) (E : List Pt) → All Q (points_along p E) → All Q (points_along p (live E))
  unfolding points_along live
  along_live p [] h = h
  along_live p (e ∷ E) h = by_test (is_zero e)
      (λ z. rw z (along_live p E (subst (λ q. All Q (points_along q E)) (ap (λ v. p +ᵖ v) (is_zero_true e z) ∙ +ᵖ-zero p) h.1)))
      (λ z. rw z (h.0, along_live (p +ᵖ e) E h.1))

  -- runs made one
  along_runs : {p : Pt} (d s : Pt) (l : List Pt) → Q p → All Q (points_along (p +ᵖ s) l) → All Q (points_along p (runs d s l))
  unfolding points_along
  along_runs {p = p} d s [] q h = unfold runs in (q, h)
  along_runs {p = p} d s (f ∷ l) q h = by_test (is_equal (angle_cmp d f))
      (λ t. rw (runs_on d s f l t) (along_runs {p = p} d (s +ᵖ f) l q (subst (λ v. All Q (points_along v l)) (+ᵖ_assoc p s f) h.1)))
      (λ t. rw (runs_turn d s f l t) (q, along_runs {p = p +ᵖ s} f f l h.0 h.1))

  pub along_grouped : (p : Pt) (E : List Pt) → All Q (points_along p E) → All Q (points_along p (grouped E))
  unfolding points_along grouped
  along_grouped p [] h = h
  along_grouped p (e ∷ E) h = along_runs e e E h.0 h.1

  -- the points that a walk passes
  along_walk : (n : ℕ) (l : List Pt) {w : Place} → ((v : Place) → Valid (length l) v → v.reflected ≡ w.reflected → Q (point_of l v)) → Valid (length l) w → All Q (points_along (point_of l w) (handed n l w))
  unfolding points_along handed
  along_walk zero l {w} q v = (q w v refl, tt)
  along_walk (suc n) l {w} q v =
      (q w v refl, subst (λ p. All Q (points_along p (handed n l (advance (length l) w)))) (point_advance l w) (along_walk n l (λ u k e. q u k (e ∙ same l w)) (valid_advance v)))
    where
      same : (l : List Pt) (w : Place) → (advance (length l) w).reflected ≡ w.reflected
      same l w = unfold advance in refl

  -- what holds of the corners as the walk reads them holds of its points
  pub unrolled_points : (reflected : Bool) (l : List Pt) → All (λ c. Q (turned reflected c)) l → All Q (unrolled reflected l)
  unfolding unrolled
  unrolled_points reflected [] h = tt
  unrolled_points reflected (c ∷ l) h =
      along_grouped (point_of (c ∷ l) (begin reflected (c ∷ l))) (live (walk_edges reflected (c ∷ l)))
      (along_live (point_of (c ∷ l) (begin reflected (c ∷ l))) (walk_edges reflected (c ∷ l))
      (along_walk (begin reflected (c ∷ l)).remaining (c ∷ l) corner (valid_begin reflected (c ∷ l) (omega arith))))
    where
      begins : (begin reflected (c ∷ l)).reflected ≡ reflected
      begins = begin_by reflected (c ∷ l) (λ w. w.reflected ≡ reflected) (λ e. refl) (λ e. refl) (λ e. refl)

      corner : (v : Place) → Valid (length (c ∷ l)) v → v.reflected ≡ (begin reflected (c ∷ l)).reflected → Q (point_of (c ∷ l) v)
      corner v k e =
          unfold point_of in subst (λ t. Q (turned t (corner_at (c ∷ l) v.index))) (sym (e ∙ begins)) (all_get_d (λ c. Q (turned reflected c)) (c ∷ l) O h v.index k.index)
