-- A pair's steps by places are its steps over two lists of edges: laws of `next_step`, `run`,
-- `pair_step`, `emit`, `pair_contour` of specs/Pair.antt. In order: what is still to be stepped
-- (`ways`) and its first edge (`Next`); one edge of the pair, the steps of one run (`Ran`); the
-- corners emitted (`emit_is`), and the contour of a pair (`pair_contour_lem`); more fuel changes
-- nothing (`run_enough`, `emit_enough`). Assumes nothing.
use mathlib.Core.Path.{◌≡◌, refl, sym, ◌∙◌, ap, ap₂, subst}
use mathlib.Core.Bool.{Bool, true, false, cond}
use mathlib.Core.List.{List, [], ◌∷◌}
use Prim.Native.Nat.{ℕ, zero, suc, ◌-◌, ◌≤◌, ◌<◌}
use native.Mathlib.Omega.{arith}
use borrow.Author.Tests.{ne_eqb}
use lib.Dec.{eqb}
use lib.ListN.{length}
use Rattle.integers.proofs.Order.{by_test}
use Rattle.integers.proofs.Ring.{◌:≡ᵖ◌, pt, ringᵖ}
use Rattle.plane.specs.Plane.{Pt, ◌+ᵖ◌, is_zero, angle_cmp, is_equal, is_greater}
use Rattle.plane.proofs.Terms.{◌+E◌}
use Rattle.plane.proofs.Vectors.{+ᵖ_assoc, +ᵖ-zero, is_zero_true}
use Rattle.pair.specs.declared.Place.{Place}
use Rattle.pair.specs.declared.ConvexSum.{ConvexSum}
use Rattle.pair.specs.Walk.{begin, point_of, edge_of, advance}
use Rattle.pair.specs.Pair.{none, first, second, lesser, next_step, step_first, step_second, Heading, unset, along, Run, belongs, headed, run, steps_left, corner, end, sum_point, emitted_by, pair_step, emit, start_of, pair_contour}
use Rattle.pair.specs.Berg.{corners_from}
use Rattle.pair.specs.Demand.{handed, walk_edges, live}
use Rattle.pair.specs.EdgeLists.{step_one, stepped, runs, grouped}
use Rattle.pair.proofs.Places.{point_advance}
use Rattle.pair.proofs.Live.{live_zero, live_keep}

-- ---- what is still to be stepped

-- the edges that a walk still hands out
abbrev pub ahead : List Pt → Place → List Pt
ahead l w = handed w.remaining l w

-- the edges of both walks, in the order in which they step
abbrev pub ways : List Pt → List Pt → ConvexSum → List Pt
ways A B s = stepped (ahead A s.a) (ahead B s.b)

-- a walk with no step left, or its edge and the walk advanced
data Ahead (l : List Pt) (w : Place) : Type 0 where
  done : w.remaining ≡ 0 → ahead l w ≡ [] → Ahead l w
  more : eqb w.remaining 0 ≡ false → w.remaining ≡ suc (advance (length l) w).remaining → ahead l w ≡ edge_of l w ∷ ahead l (advance (length l) w) → Ahead l w

ahead_by : (l : List Pt) (w : Place) → Ahead l w
unfolding handed advance
ahead_by l w = go refl
  where
    go : {k : ℕ} → w.remaining ≡ k → Ahead l w
    go {k = zero} e = done e (ap (λ k. handed k l w) e)
    go {k = suc k} e =
        let r : w.remaining - 1 ≡ k = omega arith in
        more (ne_eqb w.remaining 0 (λ z. absurd (omega arith))) (e ∙ ap suc (sym r)) (ap (λ m. handed m l w) e ∙ ap (λ m. edge_of l w ∷ handed m l (advance (length l) w)) (sym r))

-- the edge e steps, from the state s to the state t
pub record Stepped (A B : List Pt) (s : ConvexSum) (e : Pt) (t : ConvexSum) : Type 0 where
  pub order : ways A B s ≡ e ∷ ways A B t
  pub count : steps_left s ≡ suc (steps_left t)
  pub moves : sum_point A B t ≡ sum_point A B s +ᵖ e

-- what steps next, and how a run goes on with it
pub data Next (A B : List Pt) (s : ConvexSum) : Type 0 where
  stop :
      ways A B s ≡ [] → ((n : ℕ) (h : Heading) → run n A B h s ≡ record { heading = h; at = s }) → Next A B s
  step :
      (e : Pt) (t : ConvexSum) → Stepped A B s e t →
      ((n : ℕ) (h : Heading) → run (suc n) A B h s ≡ cond (belongs h e) (run n A B (headed h e) t) (record { heading = h; at = s })) → Next A B s

module _ (A B : List Pt) (s : ConvexSum) where
  -- none is picked: a run ends where it is
  stopped : next_step A B s ≡ none → (n : ℕ) (h : Heading) → run n A B h s ≡ record { heading = h; at = s }
  unfolding run
  stopped p zero h = refl
  stopped p (suc n) h = rw (p, run)

  -- the first walk steps: (p + e) + q = (p + q) + e
  first_steps : (s.a.remaining ≡ suc (advance (length A) s.a).remaining) → next_step A B s ≡ first (edge_of A s.a) → ways A B s ≡ edge_of A s.a ∷ ways A B (step_first A s) → Next A B s
  unfolding run
  first_steps k p w = step (edge_of A s.a) (step_first A s)
      (record {
        order = w;
        count = omega arith;
        moves = ap (λ c. c +ᵖ point_of B s.b) (point_advance A s.a) ∙ moved (point_of A s.a) (edge_of A s.a) (point_of B s.b);
      })
      (λ n h. rw (p, run))
    where
      moved : (p e q : Pt) → (p +ᵖ e) +ᵖ q ≡ (p +ᵖ q) +ᵖ e
      moved = ringᵖ (pt ∷ pt ∷ pt ∷ []) (λ p e q. (p +E e) +E q :≡ᵖ (p +E q) +E e) tt

  -- the second walk steps: p + (q + e) = (p + q) + e
  second_steps : (s.b.remaining ≡ suc (advance (length B) s.b).remaining) → next_step A B s ≡ second (edge_of B s.b) → ways A B s ≡ edge_of B s.b ∷ ways A B (step_second B s) → Next A B s
  unfolding run
  second_steps k p w = step (edge_of B s.b) (step_second B s)
      (record {
        order = w;
        count = omega arith;
        moves = ap (λ c. point_of A s.a +ᵖ c) (point_advance B s.b) ∙ sym (+ᵖ_assoc (point_of A s.a) (point_of B s.b) (edge_of B s.b));
      })
      (λ n h. rw (p, run))

  -- no step left; one walk's; or the lesser edge, a zero edge first
  pub next : Next A B s
  unfolding next_step lesser stepped step_one
  next = go (ahead_by A s.a) (ahead_by B s.b)
    where
      go : Ahead A s.a → Ahead B s.b → Next A B s
      go (done a la) (done b lb) = stop (rw (la, lb)) (stopped (rw (a, b)))
      go (done a la) (more b rb lb) = second_steps rb (rw (a, b)) (rw (la, lb))
      go (more a ra la) (done b lb) = first_steps ra (rw (a, b)) (rw (la, lb))
      go (more a ra la) (more b rb lb) =
          by_test (is_zero (edge_of A s.a))
          (λ z. first_steps ra (rw (a, b, z)) (rw (la, lb, z)))
          (λ z. by_test (is_zero (edge_of B s.b))
          (λ y. second_steps rb (rw (a, b, z, y)) (rw (la, lb, z, y)))
          (λ y. by_test (is_greater (angle_cmp (edge_of A s.a) (edge_of B s.b)))
          (λ g. second_steps rb (rw (a, b, z, y, g)) (rw (la, lb, z, y, g)))
          (λ g. first_steps ra (rw (a, b, z, y, g)) (rw (la, lb, z, y, g)))))

-- ---- one edge of the pair

-- the corners still to be emitted
abbrev pub to_come : List Pt → List Pt → ConvexSum → List Pt
to_come A B s = corners_from (sum_point A B s) (grouped (live (ways A B s)))

-- steps along d: where p is the corner begun and u the edge so far, the edge ends where the run
-- does
pub record Along (A B : List Pt) (d : Pt) (s : ConvexSum) (r : Run) : Type 0 where
  pub heads : r.heading ≡ along d
  pub fewer : steps_left r.at ≤ steps_left s
  pub corners : (p u : Pt) → sum_point A B s ≡ p +ᵖ u → corners_from p (runs d u (live (ways A B s))) ≡ p ∷ to_come A B r.at

-- steps from a corner: to the end, or to the next corner
pub data Ran (A B : List Pt) (s : ConvexSum) (r : Run) : Type 0 where
  ended : r.heading ≡ unset → to_come A B s ≡ [] → Ran A B s r
  went : (d : Pt) → r.heading ≡ along d → steps_left r.at < steps_left s → to_come A B s ≡ sum_point A B s ∷ to_come A B r.at → Ran A B s r

module _ (A B : List Pt) where
  -- none left: the edge ends here
  along_stop : (d : Pt) (s : ConvexSum) → ways A B s ≡ [] → Along A B d s (record { heading = along d; at = s })
  unfolding live runs grouped corners_from
  along_stop d s w = record { heads = refl; fewer = omega arith; corners = λ p u e. rw w }

  -- another direction: the edge ends here
  along_turn : (d : Pt) {e : Pt} {s t : ConvexSum} → Stepped A B s e t → is_zero e ≡ false → is_equal (angle_cmp d e) ≡ false → Along A B d s (record { heading = along d; at = s })
  unfolding runs grouped corners_from
  along_turn d {e} {t} k z g = record {
    heads = refl;
    fewer = omega arith;
    corners = λ p u c. rw (k.order, live_keep e (ways A B t) z, g) (ap (λ k. p ∷ corners_from k (runs e e (live (ways A B t)))) (sym c));
  }

  -- a zero edge
  along_zero : {d e : Pt} {s t : ConvexSum} {r : Run} → Stepped A B s e t → is_zero e ≡ true → Along A B d t r → Along A B d s r
  along_zero {e} {s} {t} k z a = record {
    heads = a.heads;
    fewer = omega (arith, a.fewer, k.count);
    corners = λ p u c. rw (k.order, live_zero e (ways A B t) z) (a.corners p u (k.moves ∙ ap (λ v. sum_point A B s +ᵖ v) (is_zero_true e z) ∙ +ᵖ-zero (sum_point A B s) ∙ c));
  }

  -- the same direction
  along_on : {d e : Pt} {s t : ConvexSum} {r : Run} → Stepped A B s e t → is_zero e ≡ false → is_equal (angle_cmp d e) ≡ true → Along A B d t r → Along A B d s r
  unfolding runs
  along_on {e} {t} k z g a = record {
    heads = a.heads;
    fewer = omega (arith, a.fewer, k.count);
    corners = λ p u c. rw (k.order, live_keep e (ways A B t) z, g) (a.corners p (u +ᵖ e) (k.moves ∙ ap (λ v. v +ᵖ e) c ∙ +ᵖ_assoc p u e));
  }

  -- zero edges and edges along d belong to the run, and no other
  pub run_along : (n : ℕ) (d : Pt) (s : ConvexSum) → steps_left s ≤ n → Along A B d s (run n A B (along d) s)
  unfolding belongs headed
  run_along zero d s h = elim (next A B s) [
    | stop w ru ↦ subst (Along A B d s) (sym (ru zero (along d))) (along_stop d s w)
    | step e t k ru ↦ absurd (omega (arith, k.count))
  ]
  run_along (suc n) d s h = elim (next A B s) [
    | stop w ru ↦ subst (Along A B d s) (sym (ru (suc n) (along d))) (along_stop d s w)
    | step e t k ru ↦
        subst (Along A B d s) (sym (ru n (along d)))
        (by_test (is_zero e)
        (λ z. rw z (along_zero k z (run_along n d t (omega (arith, k.count)))))
        (λ z. by_test (is_equal (angle_cmp d e))
        (λ g. rw (z, g) (along_on k z g (run_along n d t (omega (arith, k.count)))))
        (λ g. rw (z, g) (along_turn d k z g))))
  ]

  -- zero edges are passed over, and the first that is not gives the direction
  pub run_unset : (n : ℕ) (s : ConvexSum) → steps_left s ≤ n → Ran A B s (run n A B unset s)
  unfolding belongs headed live grouped corners_from
  run_unset zero s h = elim (next A B s) [
    | stop w ru ↦ subst (Ran A B s) (sym (ru zero unset)) (ended refl (rw w))
    | step e t k ru ↦ absurd (omega (arith, k.count))
  ]
  run_unset (suc n) s h = elim (next A B s) [
    | stop w ru ↦ subst (Ran A B s) (sym (ru (suc n) unset)) (ended refl (rw w))
    | step e t k ru ↦
        subst (Ran A B s) (sym (ru n unset))
        (by_test (is_zero e)
        (λ z. rw z (skip k z (run_unset n t (omega (arith, k.count)))))
        (λ z. rw z (begun k z (run_along n e t (omega (arith, k.count))))))
  ]
    where
      skip : {e : Pt} {t : ConvexSum} {r : Run} → Stepped A B s e t → is_zero e ≡ true → Ran A B t r → Ran A B s r
      skip {e} {t} {r} k z a =
          let still : sum_point A B t ≡ sum_point A B s = k.moves ∙ ap (λ v. sum_point A B s +ᵖ v) (is_zero_true e z) ∙ +ᵖ-zero (sum_point A B s) in
          let same : to_come A B s ≡ to_come A B t = ap₂ (λ p l. corners_from p (grouped l)) (sym still) (ap live k.order ∙ live_zero e (ways A B t) z) in
          elim a [
            | ended u c ↦ ended u (same ∙ c)
            | went d u f c ↦ went d u (omega (arith, k.count)) (same ∙ c ∙ ap (λ p. p ∷ to_come A B r.at) still)
          ]

      begun : {e : Pt} {t : ConvexSum} {r : Run} → Stepped A B s e t → is_zero e ≡ false → Along A B e t r → Ran A B s r
      begun {e} {t} k z a =
          went e a.heads (omega (arith, a.fewer, k.count))
          (ap (λ l. corners_from (sum_point A B s) (grouped l)) (ap live k.order ∙ live_keep e (ways A B t) z) ∙ a.corners (sum_point A B s) e k.moves)

  -- ---- the corners emitted

  -- with no step left nothing is to come
  no_steps : (s : ConvexSum) → steps_left s ≤ 0 → to_come A B s ≡ []
  unfolding live grouped corners_from
  no_steps s h = elim (next A B s) [ stop w ru ↦ rw w | step e t k ru ↦ absurd (omega (arith, k.count)) ]

  -- what is emitted is what is to come
  pub emit_is : (n : ℕ) (s : ConvexSum) → steps_left s ≤ n → emit n A B s ≡ to_come A B s
  unfolding emit pair_step
  emit_is zero s h = sym (no_steps s h)
  emit_is (suc n) s h = by (λ t k. emit_is n t k) (run_unset (steps_left s) s (omega arith))
    where
      by : {r : Run} → ((t : ConvexSum) → steps_left t ≤ n → emit n A B t ≡ to_come A B t) → Ran A B s r → elim (emitted_by (sum_point A B s) r) [ corner p t ↦ p ∷ emit n A B t | end t ↦ [] ] ≡ to_come A B s
      by ih (ended u c) = rw u (sym c)
      by {r} ih (went d u f c) = rw u (ap (λ l. sum_point A B s ∷ l) (ih r.at (omega arith)) ∙ sym c)

  -- ---- more fuel changes nothing

  -- any two numbers of steps that are enough emit the same
  pub emit_enough : {n m : ℕ} (s : ConvexSum) → steps_left s ≤ n → steps_left s ≤ m → emit n A B s ≡ emit m A B s
  emit_enough {n} {m} s h k = emit_is n s h ∙ sym (emit_is m s k)

  -- a run stops by itself
  pub run_enough : (n : ℕ) (h : Heading) (s : ConvexSum) → steps_left s ≤ n → run n A B h s ≡ run (steps_left s) A B h s
  run_enough zero h s k = ap (λ m. run m A B h s) (omega arith)
  run_enough (suc n) h s k = elim (next A B s) [
    | stop w ru ↦ ru (suc n) h ∙ sym (ru (steps_left s) h)
    | step e t p ru ↦
        ru n h ∙ ap (λ r. cond (belongs h e) r (record { heading = h; at = s })) (run_enough n (headed h e) t (omega (arith, p.count)))
        ∙ sym (ap (λ m. run m A B h s) p.count ∙ ru (steps_left t) h)
  ]

-- ---- the contour of a pair: the sum of the first points and the two lists of edges tell it all

pub pair_contour_lem :
    (reflected : Bool) (A B : List Pt) → 0 < length A → 0 < length B →
    pair_contour reflected A B ≡ corners_from (point_of A (begin false A) +ᵖ point_of B (begin reflected B)) (grouped (live (stepped (walk_edges false A) (walk_edges reflected B))))
unfolding pair_contour
pair_contour_lem reflected [] B h k = absurd (omega arith)
pair_contour_lem reflected (p ∷ A) [] h k = absurd (omega arith)
pair_contour_lem reflected (p ∷ A) (q ∷ B) h k = emit_is (p ∷ A) (q ∷ B) (steps_left (start_of reflected (p ∷ A) (q ∷ B))) (start_of reflected (p ∷ A) (q ∷ B)) (omega arith)
