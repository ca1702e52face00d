-- `split_centre::add_edge` meets its contract: the area's sum fits, and the cross is kept. Assumes
-- nothing.
use mathlib.Core.Path.{◌≡◌, ◌∙◌, ap₂}
use borrow.Author.Rules.{rules}
use lib.IntN.{◌+ℤ◌, ◌*ℤ◌}
use mir.Syntax.{w64}
use mir.Val.{to_z, of_z}
use Rattle.integers.proofs.Bits.{kept, got, add_is, cast_fits}
use Rattle.plane.specs.Plane.{cross}
use Rattle.plane.specs.Machine.{vector}
use Rattle.wide.specs.Words.{value}
use Rattle.split_centre.proofs.add_edge.Goals as goal

pub returns : goal.returns
returns c = let s = c.args.s in
    let a = c.args.a in
    let b = c.args.b in
    let area_kept : to_z w64 (of_z w64 s.area) ≡ s.area = kept {w = w64} {z = s.area} (search rules) in
    let cross_is : to_z w64 (of_z w64 c.cross_product-cross.result) ≡ cross (vector a) (vector b) = got w64 c.cross_product-cross.result c.cross_product-cross.type_inv ∙ c.cross_product-cross.ensures.0 in
    let ax : to_z w64 (of_z w64 a.x) ≡ a.x = kept {w = w64} {z = a.x} (search rules) in
    let ay : to_z w64 (of_z w64 a.y) ≡ a.y = kept {w = w64} {z = a.y} (search rules) in
    let bx : to_z w64 (of_z w64 b.x) ≡ b.x = kept {w = w64} {z = b.x} (search rules) in
    let by : to_z w64 (of_z w64 b.y) ≡ b.y = kept {w = w64} {z = b.y} (search rules) in
    record {
      area = add_is {w = w64} area_kept cross_is (cast_fits (ap₂ ◌+ℤ◌ area_kept cross_is) c.requires.0.area);
      x = c.add_moment.ensures ∙ (λ i. value s.x +ℤ (ax i +ℤ bx i) *ℤ cross_is i);
      y = c.add_moment-2.ensures ∙ (λ i. value s.y +ℤ (ay i +ℤ by i) *ℤ cross_is i);
    }
