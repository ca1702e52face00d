-- The parts of a group of edges about the centre: a part takes at least one edge and no more than
-- are left (`edges_taken_le`), so s parts are enough for s edges (`group_parts_enough`). Assumes
-- nothing.
use mathlib.Core.Path.{◌≡◌, refl, sym, ◌∙◌, ap}
use mathlib.Core.Bool.{Bool, true, false, cond}
use mathlib.Core.List.{List, [], ◌∷◌}
use Prim.Native.Nat.{ℕ, zero, suc, ◌+◌, ◌-◌, ◌≤◌, ◌<◌}
use native.Mathlib.Omega.{arith}
use borrow.Author.Tests.{eqb-true, eqb-false}
use lib.Dec.{eqb}
use lib.ListN.{length, get_or, take, drop}
use lib.IntN.{pos}
use lib.Signed.{lt_z}
use Rattle.integers.proofs.Order.{by_test}
use Rattle.plane.specs.Plane.{Pt, O, area_two}
use Rattle.split.specs.Splitting.{taking, edges_taken, group_parts}

taking_le : (g a : Pt) (r : ℕ) (l : List Pt) → taking g a r l ≤ r
unfolding taking
taking_le g a zero l = omega arith
taking_le g a (suc r) [] = omega arith
taking_le g a (suc r) (c ∷ l) = by_test (lt_z (pos 0) (area_two g a c)) (λ e. rw e (omega (arith, taking_le g a r l))) (λ e. rw e (omega arith))

pub edges_taken_le : (g : Pt) {s : ℕ} (l : List Pt) → 0 < s → edges_taken g s l ≤ s
edges_taken_le g {s} l h = omega (arith, taking_le g (get_or l 0 O) (s - 1) (drop 2 l))

-- with fuel for each edge, more changes nothing
pub group_parts_enough : (n k : ℕ) (g : Pt) {s : ℕ} (l : List Pt) → s ≤ n → s ≤ k → group_parts n g s l ≡ group_parts k g s l
unfolding group_parts
group_parts_enough zero zero g {s} l h i = refl
group_parts_enough zero (suc k) g {s} l h i = by_test (eqb s 0) (λ e. rw e) (λ e. absurd (eqb-false s 0 e (omega arith)))
group_parts_enough (suc n) zero g {s} l h i = by_test (eqb s 0) (λ e. rw e) (λ e. absurd (eqb-false s 0 e (omega arith)))
group_parts_enough (suc n) (suc k) g {s} l h i =
    by_test (eqb s 0) (λ e. rw e)
    (λ e. ap (λ t. cond (eqb s 0) [] ((g ∷ take (edges_taken g s l + 1) l) ∷ t)) (group_parts_enough n k g (drop (edges_taken g s l) l) (omega arith) (omega arith)))
