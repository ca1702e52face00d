-- What a point's mark tells: that it has no edge behind the next, or how the two compare. Assumes
-- nothing.
use mathlib.Core.Path.{◌≡◌}
use mathlib.Core.Bool.{true, false}
use mathlib.Core.List.{List}
use Prim.Native.Nat.{ℕ, ◌+◌, ◌<◌}
use native.Mathlib.Omega.{arith}
use borrow.Author.Tests.{ltb-true, ltb-false}
use lib.Dec.{ltb}
use lib.ListN.{length}
use Rattle.integers.proofs.Order.{by_test}
use Rattle.plane.specs.Plane.{Pt, angle_cmp, is_less}
use Rattle.pair_points.specs.Points.{edge_at}
use Rattle.direction_keys.specs.Marks.{mark}

-- what a mark tells
pub data Marked (a : List Pt) (i : ℕ) : ℕ → Type 0 where
  none : i + 1 + 1 ≡ length a → Marked a i 0
  rising : i + 1 + 1 < length a → is_less (angle_cmp (edge_at a (i + 1)) (edge_at a i)) ≡ false → Marked a i 0
  falling : i + 1 + 1 < length a → is_less (angle_cmp (edge_at a (i + 1)) (edge_at a i)) ≡ true → Marked a i 1

pub marked : (a : List Pt) (i : ℕ) → i + 1 < length a → Marked a i (mark a i)
unfolding mark
marked a i h =
    by_test (ltb (i + 1 + 1) (length a))
    (λ e. by_test (is_less (angle_cmp (edge_at a (i + 1)) (edge_at a i)))
    (λ f. rw (e, f) (falling (ltb-true (i + 1 + 1) (length a) e) f))
    (λ f. rw (e, f) (rising (ltb-true (i + 1 + 1) (length a) e) f)))
    (λ e. rw e (none (omega (arith, ltb-false (i + 1 + 1) (length a) e))))
