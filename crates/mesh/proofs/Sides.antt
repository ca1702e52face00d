-- Tests over triangles and sides, and the side that names a neighbour. In order: a test that no
-- triangle passes (`some_false`), and no side of those that have a neighbour (`mesh_side_false`);
-- how often a neighbour is named (`named_sides`); the side that names it (`opposite_names`,
-- `opposite_only`). Assumes nothing.
use mathlib.Core.Path.{◌≡◌, refl, sym, ◌∙◌, ap}
use mathlib.Core.Bool.{Bool, true, false, cond}
use mathlib.Core.List.{[], ◌∷◌}
use Prim.Native.Nat.{ℕ, zero, suc, ◌+◌, ◌≤◌, ◌<◌}
use native.Mathlib.Omega.{arith}
use borrow.Author.Tests.{eqb-true, eq-eqb, ne_eqb}
use lib.Dec.{eqb}
use lib.ListN.{length, drop, drop_of_length-le}
use lib.Seq.{drop-cons}
use Rattle.integers.proofs.Order.{by_test}
use Rattle.integers.proofs.Tests.{either_false}
use Rattle.mesh.specs.Mesh.{Triangle, Mesh, none, neighbour, after, triangle_at, no_triangle, some_from, some, some_side, shared, named, opposite}

-- ---- no triangle, no side

from_false : (test : ℕ → Triangle → Bool) (j : ℕ) (m : Mesh) (k : ℕ) → some_from test j m ≡ false → k < length m → test (j + k) (triangle_at m k) ≡ false
unfolding some_from
from_false test j [] k h l = absurd (omega arith)
from_false test j (t ∷ m) zero h l = ap (λ i. test i t) (omega arith) ∙ (either_false (test j t) (some_from test (suc j) m) h).0
from_false test j (t ∷ m) (suc k) h l =
    ap (λ i. test i (triangle_at m k)) (omega arith) ∙ from_false test (suc j) m k (either_false (test j t) (some_from test (suc j) m) h).1 (omega arith)

pub some_false : (test : ℕ → Triangle → Bool) (m : Mesh) {k : ℕ} → some test m ≡ false → k < length m → test k (triangle_at m k) ≡ false
some_false test m {k} h l = ap (λ i. test i (triangle_at m k)) (omega arith) ∙ from_false test 0 m k h l

side_false : (test : ℕ → Bool) (i : ℕ) → i < 3 → some_side test ≡ false → test i ≡ false
side_false test zero l h = (either_false (test 0) _ h).0
side_false test (suc zero) l h = (either_false (test 1) (test 2) (either_false (test 0) _ h).1).0
side_false test (suc (suc zero)) l h = (either_false (test 1) (test 2) (either_false (test 0) _ h).1).1
side_false test (suc (suc (suc i))) l h = absurd (omega arith)

shared_false : (t : Triangle) (test : ℕ → ℕ → Bool) (i : ℕ) → (neighbour t i ≡ none → ⊥) → shared t test i ≡ false → test i (neighbour t i) ≡ false
shared_false t test i d h = ap (λ s. cond s false (test i (neighbour t i))) (sym (ne_eqb (neighbour t i) none d)) ∙ h

-- no side of any triangle that has a neighbour there
pub mesh_side_false : (test : ℕ → Triangle → ℕ → ℕ → Bool) (m : Mesh) {k i : ℕ} → k < length m → i < 3 → (neighbour (triangle_at m k) i ≡ none → ⊥)
    → some (λ k t. some_side (shared t (test k t))) m ≡ false → test k (triangle_at m k) i (neighbour (triangle_at m k) i) ≡ false
mesh_side_false test m {k} {i} l s d h =
    shared_false (triangle_at m k) (test k (triangle_at m k)) i d
    (side_false (shared (triangle_at m k) (test k (triangle_at m k))) i s (some_false (λ k t. some_side (shared t (test k t))) m h l))

-- ---- a loop over the triangles: from triangle k on

pub some_turn : (test : ℕ → Triangle → Bool) (m : Mesh) {k : ℕ} → k < length m → some_from test k (drop k m) ≡ cond (test k (triangle_at m k)) true (some_from test (suc k) (drop (suc k) m))
unfolding some_from
some_turn test m {k} h = ap (some_from test k) (drop-cons m k no_triangle h)

pub some_end : (test : ℕ → Triangle → Bool) (m : Mesh) {k : ℕ} → length m ≤ k → some_from test k (drop k m) ≡ false
unfolding some_from
some_end test m {k} h = ap (some_from test k) (drop_of_length-le m h)

-- ---- the side that names a neighbour

one : Bool → ℕ
one t = cond t 1 0

pub named_sides : (t : Triangle) (n : ℕ) → named t n ≡ cond (eqb t.n0 n) 1 0 + cond (eqb t.n1 n) 1 0 + cond (eqb t.n2 n) 1 0
unfolding named
named_sides t n = refl

-- a side that names n, by cases on which do
module _ (t : Triangle) (n : ℕ) (h : named t n ≡ 1) where
  pub opposite_names : neighbour t (opposite t n) ≡ n
  unfolding opposite neighbour named
  opposite_names =
      by_test (eqb t.n0 n) (λ a. rw a (eqb-true t.n0 n a))
      (λ a. rw a (by_test (eqb t.n1 n) (λ b. rw b (eqb-true t.n1 n b))
      (λ b. rw b (by_test (eqb t.n2 n) (λ c. eqb-true t.n2 n c) (λ c. absurd (nobody a b c))))))
    where
      nobody : eqb t.n0 n ≡ false → eqb t.n1 n ≡ false → eqb t.n2 n ≡ false → ⊥
      nobody a b c = zero_one (sym (count a b c) ∙ h)
        where
          count : eqb t.n0 n ≡ false → eqb t.n1 n ≡ false → eqb t.n2 n ≡ false → cond (eqb t.n0 n) 1 0 + cond (eqb t.n1 n) 1 0 + cond (eqb t.n2 n) 1 0 ≡ 0
          count a b c = rw (a, b, c)

          zero_one : ◌≡◌ {A = ℕ} 0 1 → ⊥
          zero_one e = omega (arith, e)

-- the vertex after any is one of the three
pub after_side : (i : ℕ) → after i < 3
unfolding after
after_side zero = omega arith
after_side (suc zero) = omega arith
after_side (suc (suc i)) = omega arith

pub opposite_side : (t : Triangle) (n : ℕ) → opposite t n < 3
unfolding opposite
opposite_side t n =
    by_test (eqb t.n0 n) (λ a. rw a (omega arith)) (λ a. rw a (by_test (eqb t.n1 n) (λ b. rw b (omega arith)) (λ b. rw b (omega arith))))

-- no other side names it
pub opposite_only : (t : Triangle) {n : ℕ} (i : ℕ) → named t n ≡ 1 → i < 3 → neighbour t i ≡ n → i ≡ opposite t n
unfolding opposite neighbour named
opposite_only t {n} zero h l e = rw (eq-eqb t.n0 n e)
opposite_only t {n} (suc zero) h l e =
    by_test (eqb t.n0 n) (λ a. absurd (two (eqb t.n2 n) (rw (a, eq-eqb t.n1 n e) at h))) (λ a. rw (a, eq-eqb t.n1 n e))
  where
    two : (s : Bool) → 1 + 1 + cond s 1 0 ≡ 1 → ⊥
    two true g = omega (arith, g)
    two false g = omega (arith, g)
opposite_only t {n} (suc (suc zero)) h l e =
    by_test (eqb t.n0 n) (λ a. absurd (two (eqb t.n1 n) (rw (a, eq-eqb t.n2 n e) at h)))
    (λ a. by_test (eqb t.n1 n) (λ b. absurd (last (rw (a, b, eq-eqb t.n2 n e) at h))) (λ b. rw (a, b)))
  where
    two : (s : Bool) → 1 + cond s 1 0 + 1 ≡ 1 → ⊥
    two true g = omega (arith, g)
    two false g = omega (arith, g)

    last : 0 + 1 + 1 ≡ 1 → ⊥
    last g = omega (arith, g)
opposite_only t (suc (suc (suc i))) h l e = absurd (omega arith)
