-- The steps of one edge: which edges belong to it (`fresh_belongs`, `zero_belongs`,
-- `by_direction`), the direction after one (`took_headed`, `took_zero`, `took_fresh`), a run that
-- stops or goes on (`run_none`, `run_first`, `run_second`), and one turn of the code's loop
-- (`stopped`, `went_on`, `took_first`, `left_first`), where both walks stay judged (`first_judged`,
-- `second_judged`). Assumes nothing.
use Rattle.std.specs.Prelude.{Some, None}
use mathlib.Core.Path.{◌≡◌, refl, sym, ◌∙◌, ap, subst}
use mathlib.Core.Bool.{Bool, true, false, cond}
use mathlib.Core.List.{List}
use Prim.Native.Nat.{ℕ, zero, suc, ◌<◌}
use native.Mathlib.Omega.{arith}
use lib.ListN.{length}
use lib.IntN.{ℤ}
use Rattle.plane.specs.Plane.{Pt, is_zero, angle_cmp, is_equal}
use Rattle.plane.specs.declared.IntVector.{IntVector}
use Rattle.plane.specs.Machine.{vector, Short}
use Rattle.corners.specs.Corners.{points_of}
use Rattle.pair.specs.declared.ConvexSum.{ConvexSum}
use Rattle.pair.specs.Walk.{advance}
use Rattle.pair.specs.Pair.{none, first, second, next_step, step_first, step_second, Heading, unset, Run, belongs, headed, run, steps_left}
use Rattle.walk.proofs.Answers.{advance_placed}
use Rattle.walk_pick.specs.Picking.{Judged}
use Rattle.walk_pick.proofs.Picks.{first_left, second_left}
use Rattle.walk_merge.specs.declared.Going.{Going}
use Rattle.walk_merge.specs.Merging.{heading_by, heading_of, HeadingShort, stop_of, final_of, Took, MayStep, GoesOn}

-- ---- which edges belong

pub fresh_belongs : (e : Pt) → true ≡ belongs unset e
unfolding belongs
fresh_belongs e = refl

module _ (v : IntVector) (e : Pt) where
  pub zero_belongs : is_zero e ≡ true → true ≡ belongs (heading_by (Some v)) e
  unfolding belongs
  zero_belongs z = rw z

  pub by_direction : is_zero e ≡ false → {t : Bool} → is_equal (angle_cmp (vector v) e) ≡ t → t ≡ belongs (heading_by (Some v)) e
  unfolding belongs
  by_direction z f = sym f ∙ rw z

-- ---- the direction after an edge

module _ {g : Going} {v : IntVector} {t : ConvexSum} where
  -- one begun stays
  pub took_headed : {d : IntVector} → g.heading ≡ Some d → HeadingShort g.heading → Took g (vector v) t (record { heading = Some d; at = t })
  unfolding headed
  took_headed {d} h s = record {
    heads = ap (λ o. headed (heading_by o) (vector v)) (sym h);
    at = refl;
    short = subst HeadingShort h s;
  }

  -- a zero edge begins none
  pub took_zero : g.heading ≡ None → is_zero (vector v) ≡ true → Took g (vector v) t (record { heading = None; at = t })
  unfolding headed
  took_zero h z = record { heads = rw (h, z); at = refl; short = tt }

  pub took_fresh : g.heading ≡ None → is_zero (vector v) ≡ false → Short v → Took g (vector v) t (record { heading = Some v; at = t })
  unfolding headed
  took_fresh h z s = record { heads = rw (h, z); at = refl; short = s }

-- ---- a run stops or goes on

module _ (A B : List Pt) (h : Heading) (s : ConvexSum) where
  abbrev here : Run
  here = record { heading = h; at = s }

  pub run_none : (n : ℕ) → none ≡ next_step A B s → run n A B h s ≡ here
  unfolding run
  run_none zero p = refl
  run_none (suc n) p = rw (sym p, run)

  -- with the first walk's edge e, after which both stand at t
  pub run_first : {e : Pt} → first e ≡ next_step A B s → run (steps_left s) A B h s ≡ cond (belongs h e) (run (steps_left (step_first A s)) A B (headed h e) (step_first A s)) here
  unfolding run advance
  run_first {e} p =
      let k : steps_left s ≡ suc (steps_left (step_first A s)) = omega (arith, (first_left A B s p).0) in
      ap (λ n. run n A B h s) k ∙ rw (sym p, run)

  pub run_second : {e : Pt} → second e ≡ next_step A B s → run (steps_left s) A B h s ≡ cond (belongs h e) (run (steps_left (step_second B s)) A B (headed h e) (step_second B s)) here
  unfolding run advance
  run_second {e} p =
      let k : steps_left s ≡ suc (steps_left (step_second B s)) = omega (arith, (second_left A B s p).0) in
      ap (λ n. run n A B h s) k ∙ rw (sym p, run)

-- ---- both walks stay judged

module _ {l r : List ℤ} {s : ConvexSum} (j : Judged l r s) where
  pub first_judged : Judged l r (step_first (points_of l) s)
  first_judged = record {
    left_short = j.left_short;
    right_short = j.right_short;
    left_placed_lem = advance_placed (length (points_of l)) s.a j.left_placed_lem;
    right_placed_lem = j.right_placed_lem;
    left_range = j.left_range;
    right_range = j.right_range;
  }

  pub second_judged : Judged l r (step_second (points_of r) s)
  second_judged = record {
    left_short = j.left_short;
    right_short = j.right_short;
    left_placed_lem = j.left_placed_lem;
    right_placed_lem = advance_placed (length (points_of r)) s.b j.right_placed_lem;
    left_range = j.left_range;
    right_range = j.right_range;
  }

-- ---- one turn of the loop

module _ (l r : List ℤ) (g : Going) (ready : MayStep l r g) where
  abbrev A : List Pt
  A = points_of l

  abbrev B : List Pt
  B = points_of r

  -- where the steps will stop from here
  abbrev ahead : Run
  ahead = run (steps_left g.at) A B (heading_of g) g.at

  pub stopped : none ≡ next_step A B g.at → final_of A B g ≡ stop_of g
  unfolding final_of
  stopped p = run_none A B (heading_of g) g.at (steps_left g.at) p

  pub went_on : {e : Pt} {t : ConvexSum} {h : Going} → Took g e t h → Judged l r t → steps_left g.at ≡ suc (steps_left t) → ahead ≡ run (steps_left t) A B (headed (heading_of g) e) t → GoesOn l r g h
  unfolding final_of
  went_on {e} {t} {h} k j n f = record {
    ready = record { judged = subst (Judged l r) (sym k.at) j; short = k.short };
    same = (λ i. run (steps_left (k.at i)) A B (k.heads i) (k.at i)) ∙ sym f;
    fewer = less;
  }
    where
      less : steps_left h.at < steps_left g.at
      less = rw k.at (omega arith)

  -- an edge that belongs is taken
  pub took_first : {e : Pt} → first e ≡ next_step A B g.at → belongs (heading_of g) e ≡ true → {t : ConvexSum} {h : Going} → t ≡ step_first A g.at → Took g e t h → GoesOn l r g h
  unfolding advance
  took_first {e} p b {t} {h} u k =
      went_on k (subst (Judged l r) (sym u) (first_judged ready.judged)) (omega (arith, (first_left A B g.at p).0) ∙ ap (λ z. suc (steps_left z)) (sym u))
      (run_first A B (heading_of g) g.at p ∙ ap (λ z. cond z (run (steps_left (step_first A g.at)) A B (headed (heading_of g) e) (step_first A g.at)) (stop_of g)) b ∙ ap (λ z. run (steps_left z) A B (headed (heading_of g) e) z) (sym u))

  pub took_second : {e : Pt} → second e ≡ next_step A B g.at → belongs (heading_of g) e ≡ true → {t : ConvexSum} {h : Going} → t ≡ step_second B g.at → Took g e t h → GoesOn l r g h
  unfolding advance
  took_second {e} p b {t} {h} u k =
      went_on k (subst (Judged l r) (sym u) (second_judged ready.judged)) (omega (arith, (second_left A B g.at p).0) ∙ ap (λ z. suc (steps_left z)) (sym u))
      (run_second A B (heading_of g) g.at p ∙ ap (λ z. cond z (run (steps_left (step_second B g.at)) A B (headed (heading_of g) e) (step_second B g.at)) (stop_of g)) b ∙ ap (λ z. run (steps_left z) A B (headed (heading_of g) e) z) (sym u))

  -- one that does not is left
  pub left_first : {e : Pt} → first e ≡ next_step A B g.at → belongs (heading_of g) e ≡ false → final_of A B g ≡ stop_of g
  unfolding final_of
  left_first {e} p b =
      run_first A B (heading_of g) g.at p ∙ ap (λ z. cond z (run (steps_left (step_first A g.at)) A B (headed (heading_of g) e) (step_first A g.at)) (stop_of g)) b

  pub left_second : {e : Pt} → second e ≡ next_step A B g.at → belongs (heading_of g) e ≡ false → final_of A B g ≡ stop_of g
  unfolding final_of
  left_second {e} p b =
      run_second A B (heading_of g) g.at p ∙ ap (λ z. cond z (run (steps_left (step_second B g.at)) A B (headed (heading_of g) e) (step_second B g.at)) (stop_of g)) b

-- ---- the loop's first

-- the steps not begun
abbrev begun : ConvexSum → Going
begun s = record { heading = None; at = s }

pub ready_first : {l r : List ℤ} {s : ConvexSum} → Judged l r s → MayStep l r (begun s)
ready_first j = record { judged = j; short = tt }

pub final_first : (A B : List Pt) (s : ConvexSum) → final_of A B (begun s) ≡ run (steps_left s) A B unset s
unfolding final_of
final_first A B s = refl
