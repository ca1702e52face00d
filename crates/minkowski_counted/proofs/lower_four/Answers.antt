-- `minkowski_counted::lower_four` meets its contract: as many fewer as they have ties. Assumes
-- nothing.
use mathlib.Core.Path.{◌≡◌, ap}
use Prim.Native.Nat.{ℕ, ◌+◌, ◌-◌, ◌≤◌}
use native.Mathlib.Omega.{arith}
use Rattle.minkowski_order.proofs.Pairs.{as_few, as_count}
use Rattle.minkowski_counted.proofs.lower_four.Goals as goal

-- of at least all edges the ties can be taken off in turn, and then corners stand for edges
module _ {k : ℕ} (a w b x d y e z : ℕ) {A B D E : ℕ} (p : a + w ≡ A) (q : b + x ≡ B) (r : d + y ≡ D) (s : e + z ≡ E) (h : A + B + D + E ≤ k) where
  off : (a ≤ k) × (b ≤ k - a) × (d ≤ k - a - b) × (e ≤ k - a - b - d)
  off = (omega arith, omega arith, omega arith, omega arith)

  off_all : {W X Y Z : ℕ} → w ≡ W → x ≡ X → y ≡ Y → z ≡ Z → k - a - b - d - e + (A + B + D + E) ≡ k + (W + X + Y + Z)
  off_all f g i j = omega arith

pub ties-a-requires : goal.ties-a-requires
ties-a-requires c = let g = c.args in
    let u = c.requires.0 in
    let f = c.four_next-f.ensures in
    (f.first.ordered, omega (arith, f.first.edges, ap (λ v. v.a) c.count_four-c.ensures, as_count f.first, as_few f.first))

pub ties-b-requires : goal.ties-b-requires
ties-b-requires c = let g = c.args in
    let u = c.requires.0 in
    let f = c.four_next-f.ensures in
    (f.second.ordered, omega (arith, f.second.edges, ap (λ v. v.b) c.count_four-c.ensures, as_count f.second, as_few f.second))

pub ties-d-requires : goal.ties-d-requires
ties-d-requires c = let g = c.args in
    let u = c.requires.0 in
    let f = c.four_next-f.ensures in
    (f.third.ordered, omega (arith, f.third.edges, ap (λ v. v.c) c.count_four-c.ensures, as_count f.third, as_few f.third))

pub ties-e-requires : goal.ties-e-requires
ties-e-requires c = let g = c.args in
    let u = c.requires.0 in
    let f = c.four_next-f.ensures in
    (f.fourth.ordered, omega (arith, f.fourth.edges, ap (λ v. v.d) c.count_four-c.ensures, as_count f.fourth, as_few f.fourth))
