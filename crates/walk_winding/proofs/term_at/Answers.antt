-- `walk_winding::term_at` meets its contract: the two corners by their places. Assumes nothing.
use mathlib.Core.Path.{sym, ◌∙◌, ap, subst}
use Prim.Native.Nat.{◌+◌}
use native.Mathlib.Omega.{arith}
use mir.Syntax.{w64}
use Rattle.integers.proofs.Bits.{got}
use Rattle.plane.specs.Plane.{◌-ᵖ◌, cross}
use Rattle.plane.specs.Machine.{CrossSize}
use Rattle.corners.specs.Corners.{points_of}
use Rattle.corners.proofs.Corners.{length_points}
use Rattle.pair.specs.Walk.{corner_at}
use Rattle.walk_read.proofs.Grid.{grid_at}
use Rattle.walk_winding.specs.Winding.{round_to}
use Rattle.walk_winding.proofs.Windings.{term_is}
use Rattle.walk_winding.proofs.term_at.Goals as goal

pub overflow_add-s : goal.overflow_add-s
overflow_add-s c = omega (arith, length_points c.args.contour.now)

pub overflow_add-s-2 : goal.overflow_add-s-2
overflow_add-s-2 c = omega (arith, length_points c.args.contour.now)

pub overflow_add-s-3 : goal.overflow_add-s-3
overflow_add-s-3 c = omega (arith, length_points c.args.contour.now)

pub subtract-from-requires : goal.subtract-from-requires
subtract-from-requires c = let l = c.args.contour.now in
    let off = c.requires.0 in (
      grid_at l {i = c.round_to.result} off (omega (arith, c.corner_count-n.ensures, c.round_to.ensures.1))
          c.corner_at-a.ensures,
      grid_at l off c.requires.1 c.corner_at-origin.ensures,
    )

pub subtract-to-requires : goal.subtract-to-requires
subtract-to-requires c = let l = c.args.contour.now in
    let off = c.requires.0 in (
      grid_at l {i = c.round_to-2.result} off (omega (arith, c.corner_count-n.ensures, c.round_to-2.ensures.1))
          c.corner_at-b.ensures,
      grid_at l off c.requires.1 c.corner_at-origin.ensures,
    )

pub returns : goal.returns
returns c = let l = points_of c.args.contour.now in
    let n = c.corner_count-n.ensures in
    let a =
    c.corner_at-a.ensures
    ∙ ap (corner_at l) (c.round_to.ensures.0 ∙ ap (λ k. round_to k (c.args.s + c.args.k)) n) in
    let b =
    c.corner_at-b.ensures
    ∙ ap (corner_at l) (c.round_to-2.ensures.0 ∙ ap (λ k. round_to k (c.args.s + c.args.k + 1)) n) in
    let o = c.corner_at-origin.ensures in
    let e =
    c.cross_product.ensures.0
    ∙ (λ i. cross ((c.subtract-from.ensures.0 ∙ (λ j. a j -ᵖ o j)) i) ((c.subtract-to.ensures.0 ∙ (λ j. b j -ᵖ o j)) i)) in (
      got w64 _ c.cross_product.type_inv ∙ e ∙ sym (term_is l c.requires.1 c.requires.2),
      subst CrossSize (sym (got w64 _ c.cross_product.type_inv)) c.cross_product.ensures.1,
    )
