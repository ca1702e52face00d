-- A key by its steepness: what it is up to the diagonal of its quarter, and past it. Assumes
-- nothing.
use mathlib.Core.Path.{◌≡◌}
use Prim.Native.Nat.{ℕ, ◌+◌, ◌*◌, ◌-◌, ◌≤◌, ◌<◌}
use borrow.Author.Tests.{ltb-true, ltb-false}
use Rattle.integers.proofs.Order.{by_test}
use Rattle.direction_keys.specs.Keys.{one, fraction, Turned, steep, key_of}

-- up to the diagonal, or past it
pub data Leans (q c d k : ℕ) : Type 0 where
  flat : d ≤ c → k ≡ 2 * q * one + fraction d c → Leans q c d k
  past : c < d → k ≡ (2 * q + 2) * one - fraction c d → Leans q c d k

pub leans : (t : Turned) → Leans t.quarter t.along t.across (key_of t)
leans t =
    by_test (steep t)
    (λ e. past (ltb-true t.along t.across e) (rw e))
    (λ e. flat (ltb-false t.along t.across e) (rw e))
