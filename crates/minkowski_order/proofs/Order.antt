-- Pairs in order: the pair at a place (`next_of`), the next place (`row_next`, `row_on`), the first
-- (`order_start`), places further on (`onward_then`, `more_at`). Assumes nothing.
use mathlib.Core.Path.{◌≡◌, refl}
use Prim.Native.Nat.{ℕ, zero, suc, ◌+◌, ◌*◌, ◌<◌, ◌-◌}
use native.Mathlib.Nat.{lt_of_mul-lt-mul_right}
use native.Mathlib.Omega.{arith}
use Rattle.minkowski_order.specs.declared.Place.{Place}
use Rattle.minkowski_order.specs.Order.{InOrder, Onward, More}

-- a pair is left
pub next_of : {left right : ℕ} {s : Place} → More left right 1 s → (s.p < left) × (s.q < right) × (s.n ≡ s.p * right + s.q)
next_of o = o.order.next (omega (arith, o.some))

-- past the last of a row: (p + 1) * right < left * right
pub row_next : {left right : ℕ} (k : ℕ) {s : Place} → More left right 1 s → s.q + 1 ≡ right → Onward left right 1 k s (record { p = s.p + 1; q = 0; n = s.n + 1; k = k })
row_next {right} k {s} o e =
    let r = next_of o in
    let m : s.n + 1 ≡ (s.p + 1) * right = omega (arith, r.2, e) in
    record {
      order = record { next = λ g. (lt_of_mul-lt-mul_right right (omega (arith, g, m)), omega (arith, e), omega (arith, m)) };
      number = refl;
      corners = refl;
    }

-- within a row
pub row_on : {left right : ℕ} (k : ℕ) {s : Place} → More left right 1 s → (s.q + 1 ≡ right → ⊥) → Onward left right 1 k s (record { p = s.p; q = s.q + 1; n = s.n + 1; k = k })
row_on k o e =
    let r = next_of o in
    record { order = record { next = λ g. (r.0, omega (arith, r.1, e), omega (arith, r.2)) }; number = refl; corners = refl }

pub order_start : (left right k : ℕ) → InOrder left right (record { p = 0; q = 0; n = 0; k = k })
order_start left right k = record { next = λ h. (some left right h, some right left (omega (arith, h)), omega arith) }
  where
    some : (l r : ℕ) → 0 < l * r → 0 < l
    some zero r h = omega (arith, h)
    some (suc l) r h = omega arith

-- ---- some pairs on

pub onward_then : {left right : ℕ} {i j k k' : ℕ} {s t u : Place} → Onward left right i k s t → Onward left right j k' t u → Onward left right (i + j) k' s u
onward_then a b = record { order = b.order; number = omega (arith, a.number, b.number); corners = b.corners }

-- a pair is left at a place among m
pub more_one : {left right m : ℕ} {s : Place} → 0 < m → More left right m s → More left right 1 s
more_one h o = record { order = o.order; some = omega (arith, o.some, h); few = o.few }

pub more_at : {left right m j : ℕ} {k : ℕ} {s t : Place} → j < m → More left right m s → Onward left right j k s t → More left right 1 t
more_at h o a = record { order = a.order; some = omega (arith, o.some, a.number); few = o.few }

-- a place with other corners
pub place_with : {left right : ℕ} {m k j : ℕ} {s r : Place} → Onward left right m k s r → Onward left right m j s (record { p = r.p; q = r.q; n = r.n; k = j })
place_with a = record { order = record { next = a.order.next }; number = a.number; corners = refl }
