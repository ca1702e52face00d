-- Each corner of a pair is a corner of one contour plus a corner of the other (`corners_are_sums`),
-- of any two contours: both walks stay on their contours. Assumes nothing.
use mathlib.Core.Path.{◌≡◌, refl, ap}
use mathlib.Core.Bool.{Bool, true, false, cond}
use mathlib.Core.List.{List, [], ◌∷◌}
use Prim.Native.Nat.{ℕ, zero, suc, ◌<◌}
use native.Mathlib.Omega.{arith}
use lib.ListN.{length}
use Rattle.integers.specs.Lists.{All, Any}
use Rattle.integers.proofs.Order.{by_test}
use Rattle.integers.proofs.Elements.{any_map, any_image, get_d_any}
use Rattle.plane.specs.Plane.{Pt, O, ◌+ᵖ◌, negᵖ}
use Rattle.pair.specs.declared.Place.{Place}
use Rattle.pair.specs.declared.ConvexSum.{ConvexSum}
use Rattle.pair.specs.Walk.{begin, point_of, advance, turned, corner_at}
use Rattle.pair.specs.Pair.{Pick, none, first, second, next_step, step_first, step_second, Heading, unset, along, Run, belongs, headed, run, steps_left, corner, end, sum_point, emitted_by, pair_step, emit, start_of, pair_contour}
use Rattle.pair.specs.Premise.{through_origin}
use Rattle.pair.specs.Demand as demand
use Rattle.pair.proofs.Places.{Valid, valid_advance, valid_begin, begin_by}
use Rattle.minkowski_pairs.specs.Results.{CornersAreSums}

-- a walk on its contour
record On (reflected : Bool) (l : List Pt) (w : Place) : Type 0 where
  valid : Valid (length l) w
  turns : w.reflected ≡ reflected

on_advance : {reflected : Bool} {l : List Pt} {w : Place} → On reflected l w → On reflected l (advance (length l) w)
unfolding advance
on_advance {l = l} {w} o = record { valid = valid_advance o.valid; turns = o.turns }

on_begin : (reflected : Bool) (l : List Pt) → 0 < length l → On reflected l (begin reflected l)
on_begin reflected l h = record {
  valid = valid_begin reflected l h;
  turns = begin_by reflected l (λ w. w.reflected ≡ reflected) (λ e. refl) (λ e. refl) (λ e. refl);
}

-- its point is a corner, negated where the walk is reflected
on_point : {reflected : Bool} {l : List Pt} {w : Place} → On reflected l w → Any (λ c. point_of l w ≡ c) (demand.second reflected l)
unfolding point_of demand.second through_origin
on_point {reflected = false} {l} {w} o = get_d_any (λ c. point_of l w ≡ c) l O w.index o.valid.index (ap (λ t. turned t (corner_at l w.index)) o.turns)
on_point {reflected = true} {l} {w} o =
    (any_image (λ c. point_of l w ≡ c) negᵖ l).1
    (get_d_any (λ c. point_of l w ≡ negᵖ c) l O w.index o.valid.index (ap (λ t. turned t (corner_at l w.index)) o.turns))

module _ (reflected : Bool) (A B : List Pt) where
  -- both walks on their contours
  abbrev Both : ConvexSum → Type 0
  Both s = On false A s.a × On reflected B s.b

  abbrev Stood : Run → Type 0
  Stood r = Both r.at

  abbrev Sum : Pt → Type 0
  Sum c = Any (λ a. Any (λ b. c ≡ a +ᵖ b) (demand.second reflected B)) A

  -- so the sum of their points is a sum of corners
  sum_here : {s : ConvexSum} → Both s → Sum (sum_point A B s)
  sum_here h =
      any_map A (λ a e. any_map (demand.second reflected B) (λ b f. λ i. e i +ᵖ f i) (on_point h.1)) (plain h.0)
    where
      plain : {l : List Pt} {w : Place} → On false l w → Any (λ c. point_of l w ≡ c) l
      plain o = unfold demand.second in on_point o

  -- a run keeps them there
  run_on : (n : ℕ) (h : Heading) {s : ConvexSum} → Both s → Both (run n A B h s).at
  unfolding run
  run_on zero h o = o
  run_on (suc n) h {s} o = by (λ g t k. run_on n g k) (next_step A B s)
    where
      go : ((g : Heading) (t : ConvexSum) → Both t → Both (run n A B g t).at) → (e : Pt) {t : ConvexSum} → Both t → Both (cond (belongs h e) (run n A B (headed h e) t) (record { heading = h; at = s })).at
      go rest e {t} k = by_test (belongs h e) (λ b. rw b (rest (headed h e) t k)) (λ b. rw b o)

      by : ((g : Heading) (t : ConvexSum) → Both t → Both (run n A B g t).at) → (p : Pick) → Stood (elim p [
        | none ↦ record { heading = h; at = s }
        | first e ↦ cond (belongs h e) (run n A B (headed h e) (step_first A s)) (record { heading = h; at = s })
        | second e ↦ cond (belongs h e) (run n A B (headed h e) (step_second B s)) (record { heading = h; at = s })
      ])
      by rest none = o
      by rest (first e) = go rest e (on_advance o.0, o.1)
      by rest (second e) = go rest e (o.0, on_advance o.1)

  emit_sums : (n : ℕ) {s : ConvexSum} → Both s → All Sum (emit n A B s)
  unfolding emit pair_step
  emit_sums zero o = tt
  emit_sums (suc n) {s} o = by (λ t k. emit_sums n k) (run (steps_left s) A B unset s).heading (run_on (steps_left s) unset o)
    where
      by : ((t : ConvexSum) → Both t → All Sum (emit n A B t)) → (h : Heading) {t : ConvexSum} → Both t → All Sum (elim (emitted_by (sum_point A B s) (record { heading = h; at = t })) [ corner p t ↦ p ∷ emit n A B t | end t ↦ [] ])
      by rest unset k = tt
      by rest (along d) {t} k = (sum_here o, rest t k)

pub corners_are_sums : CornersAreSums
unfolding pair_contour
corners_are_sums reflected [] B = tt
corners_are_sums reflected (p ∷ A) [] = tt
corners_are_sums reflected (p ∷ A) (q ∷ B) =
    emit_sums reflected (p ∷ A) (q ∷ B) (steps_left (start_of reflected (p ∷ A) (q ∷ B)))
    (on_begin false (p ∷ A) (omega arith), on_begin reflected (q ∷ B) (omega arith))
