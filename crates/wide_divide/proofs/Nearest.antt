-- A quotient to nearest from a quotient and a remainder: one more where the remainder is at least
-- half the divisor. Assumes nothing.
use mathlib.Core.Path.{◌≡◌, sym}
use Prim.Native.Nat.{ℕ, ◌+◌, ◌*◌, ◌-◌, ◌≤◌, ◌<◌}
use native.Mathlib.Omega.{arith}
use native.Mathlib.Nat.{div-eq_of_lt-le}
use Rattle.wide_divide.specs.declared.Quotient.{Quotient}
use Rattle.wide_divide.specs.Quotients.{Divided, nearest}

module _ {n d : ℕ} {q : Quotient} (g : Divided n d q) where
  pub nearest_up : d - q.remainder ≤ q.remainder → q.quotient + 1 ≡ nearest n d
  nearest_up h = sym (div-eq_of_lt-le {k = q.quotient + 1} (2 * d) {m = 2 * n + d} (omega (arith, g.whole, g.rest)) (omega (arith, g.whole, g.rest)))

  pub nearest_down : q.remainder < d - q.remainder → q.quotient ≡ nearest n d
  nearest_down h = sym (div-eq_of_lt-le {k = q.quotient} (2 * d) {m = 2 * n + d} (omega (arith, g.whole, g.rest)) (omega (arith, g.whole, g.rest)))
