-- A pair's step keeps its promises (`next_by`): its answer by fault (`next_refused`, `next_given`),
-- what an accepted one was judged by (`judged_by`), the faults one by one (`fault_left_7` and the
-- others), a corner and the end from the code's steps (`corner_given`, `end_given`). Assumes
-- nothing.
use Rattle.std.specs.Prelude.{Option, Some, None}
use mathlib.Core.Path.{◌≡◌, refl, sym, ◌∙◌, ap, subst}
use mathlib.Core.Bool.{Bool, true, false, cond}
use mathlib.Core.List.{List, [], ◌∷◌}
use Prim.Native.Nat.{ℕ, ◌<◌}
use native.Mathlib.Omega.{arith}
use lib.Dec.{eqb}
use lib.ListN.{length}
use lib.IntN.{ℤ}
use Rattle.integers.specs.Faults.{first_fault}
use Rattle.integers.proofs.Faults.{first_this, first_next, first_none, first_empty}
use Rattle.plane.specs.Plane.{Pt}
use Rattle.plane.specs.declared.IntPoint.{IntPoint}
use Rattle.plane.specs.declared.IntVector.{IntVector}
use Rattle.plane.specs.Machine.{point}
use Rattle.corners.specs.Corners.{points_of, off_range}
use Rattle.pair.specs.declared.ConvexSum.{ConvexSum}
use Rattle.pair.specs.Pair.{Heading, unset, along, Run, run, steps_left, Emitted, corner, end, sum_point, emitted_by, pair_step}
use Rattle.pair.proofs.PairSteps.{Ran, ended, went, run_unset}
use Rattle.walk.specs.declared.Next.{Next}
use Rattle.walk.specs.declared.Next.TheVariants as next
use Rattle.walk.specs.Calls.{length_broken, misplaced, int_point, pair_step_fault, next_of, pair_stepped_of, next_corner, next_places}
use Rattle.walk.specs.Clauses.{RunOut, emitted_corner, emitted_places, NextBy}
use Rattle.walk.proofs.Answers.{accepts, refuses, by_answer, next_number_lem}
use Rattle.walk.proofs.Promises.{choice_value, strays}
use Rattle.walk_pick.specs.Picking.{Judged}
use Rattle.walk_merge.specs.declared.Going.{Going}
use Rattle.walk_merge.specs.Merging.{heading_by, stop_of}
use Rattle.walk_next.proofs.Leaves.{Placed, run_placed, BothOut, run_out}

-- ---- the faults, each where those before it do not hold

module _ (l r : List ℤ) (s : ConvexSum) where
  abbrev left_placed : Bool
  left_placed = misplaced (length (points_of l)) s.a

  abbrev right_placed : Bool
  right_placed = misplaced (length (points_of r)) s.b

  pub fault_left_7 : length_broken l ≡ true → 7 ≡ pair_step_fault l r s
  unfolding pair_step_fault
  fault_left_7 a = sym (first_this 7 _ a)

  module _ (a : length_broken l ≡ false) where
    pub fault_right_7 : length_broken r ≡ true → 7 ≡ pair_step_fault l r s
    unfolding pair_step_fault
    fault_right_7 b = sym (first_next 7 _ a ∙ first_this 7 _ b)

    module _ (b : length_broken r ≡ false) where
      pub fault_left_23 : left_placed ≡ true → 23 ≡ pair_step_fault l r s
      unfolding pair_step_fault
      fault_left_23 c = sym (first_next 7 _ a ∙ first_next 7 _ b ∙ first_this 23 _ c)

      module _ (c : left_placed ≡ false) where
        pub fault_right_23 : right_placed ≡ true → 23 ≡ pair_step_fault l r s
        unfolding pair_step_fault
        fault_right_23 d = sym (first_next 7 _ a ∙ first_next 7 _ b ∙ first_next 23 _ c ∙ first_this 23 _ d)

        module _ (d : right_placed ≡ false) where
          past : pair_step_fault l r s ≡ first_fault ((2, off_range l) ∷ (2, off_range r) ∷ [])
          unfolding pair_step_fault
          past = first_next 7 _ a ∙ first_next 7 _ b ∙ first_next 23 _ c ∙ first_next 23 ((2, off_range l) ∷ (2, off_range r) ∷ []) d

          pub fault_left_2 : off_range l ≡ true → 2 ≡ pair_step_fault l r s
          fault_left_2 e = sym (past ∙ first_this 2 _ e)

          module _ (e : off_range l ≡ false) where
            pub fault_right_2 : off_range r ≡ true → 2 ≡ pair_step_fault l r s
            fault_right_2 f = sym (past ∙ first_next 2 _ e ∙ first_this 2 _ f)

            pub fault_none : off_range r ≡ false → 0 ≡ pair_step_fault l r s
            fault_none f = sym (past ∙ first_next 2 _ e ∙ first_next 2 _ f ∙ first_empty)

  pub judged_by : pair_step_fault l r s ≡ 0 → Judged l r s
  unfolding pair_step_fault
  judged_by h =
      let a = first_none _ _ (omega arith) h in
      let b = first_none _ _ (omega arith) a.1 in
      let c = first_none _ _ (omega arith) b.1 in
      let d = first_none _ _ (omega arith) c.1 in
      let e = first_none _ _ (omega arith) d.1 in
      let f = first_none _ _ (omega arith) e.1 in
      record { left_short = a.0; right_short = b.0; left_placed_lem = c.0; right_placed_lem = d.0; left_range = e.0; right_range = f.0 }

-- ---- the answer by its fault

module _ (l r : List ℤ) (s : ConvexSum) {f : ℕ} (e : f ≡ pair_step_fault l r s) where
  pub next_refused : (f ≡ 0 → ⊥) → next.Refused f s ≡ pair_stepped_of l r s
  unfolding pair_stepped_of
  next_refused n = ap (λ k. next.Refused k s) e ∙ refuses (next_of (pair_step (points_of l) (points_of r) s)) (next.Refused (pair_step_fault l r s) s) (λ z. n (e ∙ z))

  pub next_given : f ≡ 0 → {a : Next} → a ≡ next_of (pair_step (points_of l) (points_of r) s) → a ≡ pair_stepped_of l r s
  unfolding pair_stepped_of
  next_given z g = g ∙ accepts (next_of (pair_step (points_of l) (points_of r) s)) (next.Refused (pair_step_fault l r s) s) (sym e ∙ z)

-- ---- one corner, or the end

module _ (A B : List Pt) (s : ConvexSum) where
  -- where the steps stop
  abbrev stops : Run
  stops = run (steps_left s) A B unset s

  -- both walks stand there
  pub stands : next_places (next_of (pair_step A B s)) ≡ stops.at
  unfolding pair_step
  stands = by stops.heading refl
    where
      by : (h : Heading) → stops.heading ≡ h → next_places (next_of (emitted_by (sum_point A B s) stops)) ≡ stops.at
      by unset e = rw e
      by (along d) e = rw e

  -- a corner takes a step
  pub falls : (next_corner (next_of (pair_step A B s)) ≡ [] → ⊥) → steps_left stops.at < steps_left s
  unfolding pair_step
  falls n = by (run_unset A B (steps_left s) s (omega arith))
    where
      by : Ran A B s stops → steps_left stops.at < steps_left s
      by (ended u c) = absurd (n (rw u))
      by (went d u f c) = f

  -- the end is told where no edge is left
  pub out : {t : ConvexSum} → next_of (pair_step A B s) ≡ next.End t → BothOut A B s t
  unfolding pair_step
  out {t} h = by stops.heading refl
    where
      by : (k : Heading) → stops.heading ≡ k → BothOut A B s t
      by unset e =
          let q : next.End stops.at ≡ next.End t = sym (rw e) ∙ h in
          subst (BothOut A B s) (cc) (run_out (steps_left s) (omega arith) e)
      by (along d) e =
          absurd (let q : next.Corner (record { x = (sum_point A B s).x; y = (sum_point A B s).y }) stops.at ≡ next.End t = sym (rw e) ∙ h in let z : ◌≡◌ {A = ℕ} 0 1 = cc in omega (arith, z))

-- by the steps that the code took, to g
module _ (A B : List Pt) (s : ConvexSum) (g : Going) (e : stop_of g ≡ run (steps_left s) A B unset s) where
  -- the answer, whether an edge is begun or not
  abbrev told : Option IntVector → Next
  told h = next_of (emitted_by (sum_point A B s) (record { heading = heading_by h; at = g.at }))

  pub corner_given : {d : IntVector} → g.heading ≡ Some d → {p : IntPoint} → point p ≡ sum_point A B s → next.Corner p g.at ≡ next_of (pair_step A B s)
  unfolding pair_step
  corner_given {d} h q = ap (λ c. next.Corner (int_point c) g.at) q ∙ ap told (sym h) ∙ ap (λ r. next_of (emitted_by (sum_point A B s) r)) e

  pub end_given : g.heading ≡ None → next.End g.at ≡ next_of (pair_step A B s)
  unfolding pair_step
  end_given h = ap told (sym h) ∙ ap (λ r. next_of (emitted_by (sum_point A B s) r)) e

-- ---- the promises

corner_told : (e : Emitted) → next_corner (next_of e) ≡ emitted_corner e
corner_told (corner p t) = refl
corner_told (end t) = refl

places_told : (e : Emitted) → next_places (next_of e) ≡ emitted_places e
places_told (corner p t) = refl
places_told (end t) = refl

pub next_by : (l r : List ℤ) (s : ConvexSum) → NextBy l r s (pair_stepped_of l r s)
unfolding pair_stepped_of
next_by l r s = record {
  answer = refl;
  number = next_number_lem l r s;
  corner = choice_value next_corner (pair_step_fault l r s) _ _ ∙ ap (λ c. cond (eqb (pair_step_fault l r s) 0) c []) (corner_told (pair_step (points_of l) (points_of r) s));
  places = choice_value next_places (pair_step_fault l r s) _ _ ∙ ap (λ t. cond (eqb (pair_step_fault l r s) 0) t s) (places_told (pair_step (points_of l) (points_of r) s));
  stays = λ h. let p = stays h in (p.left, p.right);
  fewer = fewer;
  ends = ends;
  free = (strays (length (points_of l)) s.a, strays (length (points_of r)) s.b);
}
  where
    taken : pair_step_fault l r s ≡ 0 → pair_stepped_of l r s ≡ next_of (pair_step (points_of l) (points_of r) s)
    taken h = sym (accepts (next_of (pair_step (points_of l) (points_of r) s)) (next.Refused (pair_step_fault l r s) s) h)

    -- a fault, or none
    by_fault : {X : Type 0} → (pair_step_fault l r s ≡ 0 → X) → (pair_stepped_of l r s ≡ next.Refused (pair_step_fault l r s) s → X) → X
    by_fault f g = by_answer (pair_step_fault l r s) refl (λ z e. f z) (λ n e. g (sym e))

    stays : pair_step_fault l r s ≡ 0 → Placed (points_of l) (points_of r) (next_places (pair_stepped_of l r s))
    stays h =
        let j = judged_by l r s h in
        subst (Placed (points_of l) (points_of r)) (sym (ap next_places (taken h) ∙ stands (points_of l) (points_of r) s))
        (run_placed (steps_left s) unset (record { left = j.left_placed_lem; right = j.right_placed_lem }))

    fewer : (next_corner (pair_stepped_of l r s) ≡ [] → ⊥) → steps_left (next_places (pair_stepped_of l r s)) < steps_left s
    fewer n =
        by_fault (λ h. subst (λ t. steps_left t < steps_left s) (sym (ap next_places (taken h) ∙ stands (points_of l) (points_of r) s)) (falls (points_of l) (points_of r) s (λ z. n (ap next_corner (taken h) ∙ z))))
        (λ e. absurd (n (ap next_corner e)))

    ends : (t : ConvexSum) → pair_stepped_of l r s ≡ next.End t → RunOut (points_of l) s.a t.a × RunOut (points_of r) s.b t.b
    ends t h =
        by_fault (λ z. let o = out (points_of l) (points_of r) s (sym (taken z) ∙ h) in (o.left, o.right))
        (λ e. absurd (let q : next.Refused (pair_step_fault l r s) s ≡ next.End t = sym e ∙ h in let z : ◌≡◌ {A = ℕ} 0 1 = cc in omega (arith, z)))
