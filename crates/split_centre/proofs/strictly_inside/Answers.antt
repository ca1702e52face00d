-- `split_centre::strictly_inside` meets its contract. The loop's invariant: what is asked is
-- whether g is to the left of the edges from a on (`Round`); the measure is the corners left.
-- Assumes nothing.
use mathlib.Core.Path.{◌≡◌, sym, ◌∙◌, ap}
use mathlib.Core.Bool.{true, false, cond}
use mathlib.Core.List.{List, map}
use Prim.Native.Nat.{ℕ, ◌+◌, ◌≤◌, ◌<◌}
use native.Mathlib.Omega.{arith}
use lib.ListN.{length, length-map}
use lib.IntN.{ℤ, pos}
use lib.Signed.{le_z, lt_z}
use mir.Syntax.{w64}
use Rattle.integers.specs.Lists.{neighbours}
use Rattle.integers.proofs.Bits.{got}
use Rattle.plane.specs.declared.IntPoint.{IntPoint}
use Rattle.plane.specs.Plane.{area_two}
use Rattle.plane.specs.Machine.{point, OnGrid}
use Rattle.points.specs.Points.{corner_of, corner_in}
use Rattle.split.specs.Splitting.{left_of_all}
use Rattle.split_centre.proofs.Reading.{corner_read}
use Rattle.split_centre.proofs.Inside.{ahead, inside_start, inside_turn, inside_end, test_right, test_left}
use Rattle.split_centre.proofs.strictly_inside.Invariants.{Round}
use Rattle.split_centre.proofs.strictly_inside.Goals as goal

module _ (cs : List (List ℤ)) (g : IntPoint) where
  starts : {a : IntPoint} → 3 ≤ length cs → (point a ≡ corner_in cs 0) × OnGrid a → Round cs g a 1
  starts {a} h e = record { left = inside_start (point g) (map corner_of cs) (omega (arith, h, length-map cs corner_of)) (corner_read cs 0 e.0); on = e.1 }

  -- b is corner i, and u the doubled area of a b g read back
  module _ {a b : IntPoint} {i : ℕ} {u : ℤ} (h : i < length cs) (r : Round cs g a i) (e : (point b ≡ corner_in cs i) × OnGrid b) (k : u ≡ area_two (point a) (point b) (point g)) where
    next : left_of_all (point g) (neighbours (map corner_of cs)) ≡ cond (lt_z (pos 0) (area_two (point a) (point b) (point g))) (ahead (point g) (map corner_of cs) (point b) (i + 1)) false
    next = r.left ∙ inside_turn (point g) (map corner_of cs) (point a) (omega (arith, h, length-map cs corner_of)) (corner_read cs i e.0)

    refused : le_z u (pos 0) ≡ true → false ≡ left_of_all (point g) (neighbours (map corner_of cs))
    refused t = sym (next ∙ rw (test_right k t))

    turns : le_z u (pos 0) ≡ false → Round cs g b (i + 1)
    turns t = record { left = next ∙ rw (test_left k t); on = e.1 }

  ends : {a b : IntPoint} {i : ℕ} {u : ℤ} → length cs ≤ i → Round cs g a i → point b ≡ corner_in cs 0 → u ≡ area_two (point a) (point b) (point g) → lt_z (pos 0) u ≡ left_of_all (point g) (neighbours (map corner_of cs))
  ends {a} {i} h r e k =
      ap (lt_z (pos 0)) k ∙ sym (r.left ∙ inside_end (point g) (map corner_of cs) (point a) i (omega (arith, h, length-map cs corner_of)) (corner_read cs 0 e))

pub loop-i-init : goal.loop-i-init
loop-i-init c = starts c.args.contour.now c.args.g c.requires.2 c.point_at-a.ensures

pub returns-then-area_two-le0 : goal.returns-then-area_two-le0
returns-then-area_two-le0 c = let k = c.area_two in
    refused c.args.contour.now c.args.g (omega arith) c.loop-i.invariant c.point_at-b.ensures
    (got w64 k.result k.type_inv ∙ k.ensures.0) c.if-area_two-le0.true

pub loop-i-preserved : goal.loop-i-preserved
loop-i-preserved c = let k = c.area_two in
    turns c.args.contour.now c.args.g (omega arith) c.loop-i.invariant c.point_at-b.ensures
    (got w64 k.result k.type_inv ∙ k.ensures.0) c.if-area_two-le0.false

pub returns : goal.returns
returns c = let k = c.area_two-2 in
    ends c.args.contour.now c.args.g (omega arith) c.loop-i.invariant c.point_at.ensures.0 (got w64 k.result k.type_inv ∙ k.ensures.0)
