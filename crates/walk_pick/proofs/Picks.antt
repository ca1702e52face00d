-- Which walk steps: the lesser edge by the code's tests (`zero_first`, `zero_second`, `not_after`,
-- `after`), the walk by its steps left (`neither`, `only_second`, `only_first`, `both`), and that a
-- walk which steps has a step left (`first_left`, `second_left`); what an edge's reading asks, of a
-- walk that is judged (`edge_ready`). Assumes nothing.
use mathlib.Core.Path.{◌≡◌, sym, ◌∙◌, ap, subst}
use mathlib.Core.Bool.{Bool, true, false, cond}
use mathlib.Core.List.{List}
use Prim.Native.Nat.{ℕ, ◌<◌}
use native.Mathlib.Omega.{arith}
use borrow.Author.Tests.{eqb-true, eqb-false, eq-eqb, ne_eqb}
use lib.Dec.{eqb}
use lib.ListN.{length}
use lib.IntN.{ℤ}
use Rattle.integers.proofs.Order.{by_test, cond_ind}
use Rattle.plane.specs.Plane.{Pt, is_zero, angle_cmp, is_greater}
use Rattle.corners.specs.Corners.{points_of, off_range}
use Rattle.pair.specs.declared.Place.{Place}
use Rattle.pair.specs.declared.ConvexSum.{ConvexSum}
use Rattle.pair.specs.Walk.{next_index, edge_of}
use Rattle.pair.specs.Pair.{Pick, none, first, second, lesser, next_step}
use Rattle.walk.specs.Calls.{length_broken, misplaced, off_at}
use Rattle.walk.proofs.Answers.{index_inside, next_inside}
use Rattle.walk_read.proofs.Grid.{off_nowhere}

-- ---- what an edge's reading asks

pub edge_ready : (l : List ℤ) (w : Place) → length_broken l ≡ false → misplaced (length (points_of l)) w ≡ false → off_range l ≡ false → (length_broken l ≡ false) × (misplaced (length (points_of l)) w ≡ false) × (off_at (points_of l) w.index ≡ false) × (off_at (points_of l) (next_index (length (points_of l)) w) ≡ false)
edge_ready l w a b c =
    (a, b, off_nowhere l c (index_inside (length (points_of l)) w b), off_nowhere l c (next_inside (length (points_of l)) w b))

-- ---- the lesser edge

module _ (a b : Pt) where
  pub zero_first : is_zero a ≡ true → first a ≡ lesser a b
  unfolding lesser
  zero_first h = rw h

  module _ (h : is_zero a ≡ false) where
    pub zero_second : is_zero b ≡ true → second b ≡ lesser a b
    unfolding lesser
    zero_second k = rw (h, k)

    module _ (k : is_zero b ≡ false) where
      pub not_after : is_greater (angle_cmp a b) ≡ false → first a ≡ lesser a b
      unfolding lesser
      not_after g = rw (h, k, g)

      pub after : is_greater (angle_cmp a b) ≡ true → second b ≡ lesser a b
      unfolding lesser
      after g = rw (h, k, g)

-- ---- the walk that steps

module _ (A B : List Pt) (s : ConvexSum) where
  -- by the two tests of steps left
  abbrev chosen : Bool → Bool → Pick
  chosen p q = cond p (cond q none (second (edge_of B s.b))) (cond q (first (edge_of A s.a)) (lesser (edge_of A s.a) (edge_of B s.b)))

  by_tests : {p q : Bool} → eqb s.a.remaining 0 ≡ p → eqb s.b.remaining 0 ≡ q → chosen p q ≡ next_step A B s
  unfolding next_step
  by_tests e f = λ i. chosen (sym e i) (sym f i)

  pub neither : s.a.remaining ≡ 0 → s.b.remaining ≡ 0 → none ≡ next_step A B s
  neither h k = by_tests (eq-eqb s.a.remaining 0 h) (eq-eqb s.b.remaining 0 k)

  pub only_second : {e : Pt} → s.a.remaining ≡ 0 → (s.b.remaining ≡ 0 → ⊥) → e ≡ edge_of B s.b → second e ≡ next_step A B s
  only_second h k e = ap second e ∙ by_tests (eq-eqb s.a.remaining 0 h) (ne_eqb s.b.remaining 0 k)

  pub only_first : {e : Pt} → (s.a.remaining ≡ 0 → ⊥) → s.b.remaining ≡ 0 → e ≡ edge_of A s.a → first e ≡ next_step A B s
  only_first h k e = ap first e ∙ by_tests (ne_eqb s.a.remaining 0 h) (eq-eqb s.b.remaining 0 k)

  pub both : (s.a.remaining ≡ 0 → ⊥) → (s.b.remaining ≡ 0 → ⊥) → lesser (edge_of A s.a) (edge_of B s.b) ≡ next_step A B s
  both h k = by_tests (ne_eqb s.a.remaining 0 h) (ne_eqb s.b.remaining 0 k)

  -- ---- a walk that steps has a step left, and the edge is its own

  pub data Picked : Pick → Type 0 where
    none_left : s.a.remaining ≡ 0 → s.b.remaining ≡ 0 → Picked none
    first_steps : 0 < s.a.remaining → Picked (first (edge_of A s.a))
    second_steps : 0 < s.b.remaining → Picked (second (edge_of B s.b))

  pub picked : Picked (next_step A B s)
  unfolding lesser
  picked =
      by_test (eqb s.a.remaining 0)
      (λ e. by_test (eqb s.b.remaining 0)
      (λ f. subst Picked (by_tests e f) (none_left (eqb-true s.a.remaining 0 e) (eqb-true s.b.remaining 0 f)))
      (λ f. subst Picked (by_tests e f) (second_steps (above s.b.remaining f))))
      (λ e. by_test (eqb s.b.remaining 0)
      (λ f. subst Picked (by_tests e f) (first_steps (above s.a.remaining e)))
      (λ f. subst Picked (by_tests e f)
      (cond_ind (is_zero (edge_of A s.a)) Picked (λ t. first_steps (above s.a.remaining e))
      (λ t. cond_ind (is_zero (edge_of B s.b)) Picked (λ t. second_steps (above s.b.remaining f))
      (λ t. cond_ind (is_greater (angle_cmp (edge_of A s.a) (edge_of B s.b))) Picked
      (λ t. second_steps (above s.b.remaining f)) (λ t. first_steps (above s.a.remaining e)))))))
    where
      above : (k : ℕ) → eqb k 0 ≡ false → 0 < k
      above k e = let n : k ≡ 0 → ⊥ = eqb-false k 0 e in omega arith

  pub first_left : {e : Pt} → first e ≡ next_step A B s → (0 < s.a.remaining) × (e ≡ edge_of A s.a)
  first_left {e} h = by (next_step A B s) (sym h) picked
    where
      by : (p : Pick) → p ≡ first e → Picked p → (0 < s.a.remaining) × (e ≡ edge_of A s.a)
      by none h (none_left a b) = absurd (let z : ◌≡◌ {A = ℕ} 0 1 = cc in omega (arith, z))
      by (first v) h (first_steps k) = (k, cc)
      by (second v) h (second_steps k) = absurd (let z : ◌≡◌ {A = ℕ} 0 1 = cc in omega (arith, z))

  pub second_left : {e : Pt} → second e ≡ next_step A B s → (0 < s.b.remaining) × (e ≡ edge_of B s.b)
  second_left {e} h = by (next_step A B s) (sym h) picked
    where
      by : (p : Pick) → p ≡ second e → Picked p → (0 < s.b.remaining) × (e ≡ edge_of B s.b)
      by none h (none_left a b) = absurd (let z : ◌≡◌ {A = ℕ} 0 1 = cc in omega (arith, z))
      by (first v) h (first_steps k) = absurd (let z : ◌≡◌ {A = ℕ} 0 1 = cc in omega (arith, z))
      by (second v) h (second_steps k) = (k, cc)
