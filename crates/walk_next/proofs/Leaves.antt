-- What the steps of one edge leave: both walks on their contours (`run_placed`), and both run out
-- where no edge was begun (`run_out`). Assumes nothing.
use mathlib.Core.Path.{◌≡◌, refl, sym, ◌∙◌, ap, subst}
use mathlib.Core.Bool.{true, false, cond}
use mathlib.Core.List.{List, ◌∷◌}
use Prim.Native.Nat.{ℕ, zero, suc, ◌-◌, ◌≤◌, ◌<◌}
use native.Mathlib.Omega.{arith}
use lib.ListN.{length}
use Rattle.integers.proofs.Order.{by_test, cond_ind}
use Rattle.plane.specs.Plane.{Pt, is_zero}
use Rattle.pair.specs.declared.Place.{Place}
use Rattle.pair.specs.declared.ConvexSum.{ConvexSum}
use Rattle.pair.specs.Walk.{edge_of, advance}
use Rattle.pair.specs.Pair.{Pick, none, first, second, next_step, step_first, step_second, Heading, unset, along, Run, belongs, headed, run, steps_left}
use Rattle.pair.specs.Demand.{handed, live}
use Rattle.pair.proofs.PairSteps.{run_along}
use Rattle.walk.specs.Calls.{misplaced}
use Rattle.walk.specs.Clauses.{after_steps, RunOut}
use Rattle.walk.proofs.Answers.{advance_placed}
use Rattle.walk_pick.proofs.Picks.{Picked, none_left, first_steps, second_steps, picked}

-- ---- both walks stay on their contours

pub record Placed (A B : List Pt) (s : ConvexSum) : Type 0 where
  pub left : misplaced (length A) s.a ≡ false
  pub right : misplaced (length B) s.b ≡ false

-- where the steps stop that begin with this pick
abbrev after : List Pt → List Pt → ℕ → Heading → ConvexSum → Pick → Run
after A B n h s none = record { heading = h; at = s }
after A B n h s (first e) = cond (belongs h e) (run n A B (headed h e) (step_first A s)) (record { heading = h; at = s })
after A B n h s (second e) = cond (belongs h e) (run n A B (headed h e) (step_second B s)) (record { heading = h; at = s })

run_after : (A B : List Pt) (n : ℕ) (h : Heading) (s : ConvexSum) → run (suc n) A B h s ≡ after A B n h s (next_step A B s)
unfolding run
run_after A B n h s = by refl
  where
    by : {k : Pick} → k ≡ next_step A B s → run (suc n) A B h s ≡ after A B n h s k
    by {k = none} p = rw (sym p, run)
    by {k = first e} p = rw (sym p, run)
    by {k = second e} p = rw (sym p, run)

after_placed : {A B : List Pt} (n : ℕ) (h : Heading) {s : ConvexSum} → Placed A B s → ((g : Heading) (t : ConvexSum) → Placed A B t → Placed A B (run n A B g t).at) → (k : Pick) → Placed A B (after A B n h s k).at
after_placed n h p ih none = p
after_placed {A} {B} n h {s} p ih (first e) = cond_ind (belongs h e) (λ (r : Run). Placed A B r.at)
    (λ t. ih (headed h e) (step_first A s) (record { left = advance_placed (length A) s.a p.left; right = p.right })) (λ t. p)
after_placed {A} {B} n h {s} p ih (second e) = cond_ind (belongs h e) (λ (r : Run). Placed A B r.at)
    (λ t. ih (headed h e) (step_second B s) (record { left = p.left; right = advance_placed (length B) s.b p.right })) (λ t. p)

pub run_placed : {A B : List Pt} (n : ℕ) (h : Heading) {s : ConvexSum} → Placed A B s → Placed A B (run n A B h s).at
unfolding run
run_placed zero h p = p
run_placed {A} {B} (suc n) h {s} p = subst (λ (r : Run). Placed A B r.at) (sym (run_after A B n h s)) (after_placed n h p (λ g t q. run_placed n g q) (next_step A B s))

-- ---- run out

-- with no step left
out_done : (l : List Pt) {w : Place} → w.remaining ≡ 0 → RunOut l w w
unfolding handed live after_steps
out_done l {w} h = record { idle = ap (λ k. live (handed k l w)) h; over = sym (ap (λ k. after_steps k (length l) w) h); done = h }

-- a zero edge is stepped over
out_step : {l : List Pt} {w : Place} {t : Place} → 0 < w.remaining → is_zero (edge_of l w) ≡ true → RunOut l (advance (length l) w) t → RunOut l w t
unfolding handed live after_steps advance
out_step {l} {w} h z o =
    let k : w.remaining ≡ suc (w.remaining - 1) = omega arith in
    record {
      idle = ap (λ m. live (handed m l w)) k ∙ ap (λ b. cond b (live (handed (w.remaining - 1) l (advance (length l) w))) (edge_of l w ∷ live (handed (w.remaining - 1) l (advance (length l) w)))) z ∙ o.idle;
      over = o.over ∙ sym (ap (λ m. after_steps m (length l) w) k);
      done = o.done;
    }

pub record BothOut (A B : List Pt) (s t : ConvexSum) : Type 0 where
  pub left : RunOut A s.a t.a
  pub right : RunOut B s.b t.b

-- an edge begun is never unset again
differs : {d : Pt} → along d ≡ unset → ⊥
differs {d} e = let z : ◌≡◌ {A = ℕ} 0 1 = cc in omega (arith, z)

-- the direction after the edge e where none was begun
abbrev begun_by : Pt → Heading
begun_by e = cond (is_zero e) unset (along e)

module _ (A B : List Pt) (n : ℕ) (s : ConvexSum) where
  -- where no edge was begun by the steps from h and t, both walks ran out from u
  abbrev OutFrom : Heading → ConvexSum → ConvexSum → Type 0
  OutFrom h t u = (run n A B h t).heading ≡ unset → BothOut A B u (run n A B h t).at

  first_out : 0 < s.a.remaining → steps_left (step_first A s) ≤ n → OutFrom unset (step_first A s) (step_first A s) → OutFrom (begun_by (edge_of A s.a)) (step_first A s) s
  first_out q f ih = by_test (is_zero (edge_of A s.a))
      (λ z. subst (λ b. OutFrom (cond b unset (along (edge_of A s.a))) (step_first A s) s) (sym z) (λ u. let o = ih u in record { left = out_step q z o.left; right = o.right }))
      (λ z. subst (λ b. OutFrom (cond b unset (along (edge_of A s.a))) (step_first A s) s) (sym z) (λ u. absurd (differs (sym (run_along A B n (edge_of A s.a) (step_first A s) f).heads ∙ u))))

  second_out : 0 < s.b.remaining → steps_left (step_second B s) ≤ n → OutFrom unset (step_second B s) (step_second B s) → OutFrom (begun_by (edge_of B s.b)) (step_second B s) s
  second_out q f ih = by_test (is_zero (edge_of B s.b))
      (λ z. subst (λ b. OutFrom (cond b unset (along (edge_of B s.b))) (step_second B s) s) (sym z) (λ u. let o = ih u in record { left = o.left; right = out_step q z o.right }))
      (λ z. subst (λ b. OutFrom (cond b unset (along (edge_of B s.b))) (step_second B s) s) (sym z) (λ u. absurd (differs (sym (run_along A B n (edge_of B s.b) (step_second B s) f).heads ∙ u))))

  after_out : steps_left s ≤ suc n → ((t : ConvexSum) → steps_left t ≤ n → OutFrom unset t t) → {k : Pick} → Picked A B s k → (after A B n unset s k).heading ≡ unset → BothOut A B s (after A B n unset s k).at
  unfolding belongs headed advance
  after_out h ih {k = none} (none_left a b) u = record { left = out_done A a; right = out_done B b }
  after_out h ih {k = first e} (first_steps q) u = first_out q (omega arith) (ih (step_first A s) (omega arith)) u
  after_out h ih {k = second e} (second_steps q) u = second_out q (omega arith) (ih (step_second B s) (omega arith)) u

pub run_out : {A B : List Pt} (n : ℕ) {s : ConvexSum} → steps_left s ≤ n → (run n A B unset s).heading ≡ unset → BothOut A B s (run n A B unset s).at
unfolding run
run_out {A} {B} zero {s} h = λ u. record { left = out_done A (omega arith); right = out_done B (omega arith) }
run_out {A} {B} (suc n) {s} h =
    subst (λ (r : Run). r.heading ≡ unset → BothOut A B s r.at) (sym (run_after A B n unset s))
    (after_out A B n s h (λ t k. run_out n k) (picked A B s))
