-- `listing_areas::part_area` meets its contract: the invariant is `Fanning` of Wedges. Assumes
-- nothing.
use Rattle.std.proofs.Common.{arith, w64, ap}
use mir.Val.{of_z}
use Rattle.integers.proofs.Bits.{got}
use Rattle.corners.specs.Corners.{points_of}
use Rattle.listing_areas.proofs.Wedges.{fanning_start, fanning_turn, fanning_end, wraps}
use Rattle.listing_areas.proofs.part_area.Goals as goal

pub loop-i-init : goal.loop-i-init
loop-i-init c = (omega arith, fanning_start (points_of c.args.corners.now))

pub loop-i-preserved : goal.loop-i-preserved
loop-i-preserved c = (
  omega (arith, c.wrapping_add_signed-total.type_inv),
  fanning_turn (omega (arith, c.loop-i-test.true, c.corner_count-n.ensures, c.saturating_sub-i-end.ensures)) c.wedge.ensures.0 c.loop-i.invariant.1
      (wraps _ c.wedge.result c.wedge.type_inv (ap (of_z w64) {y = c.wedge.result} (got w64 _ c.wedge.type_inv)) c.wrapping_add_signed-total.ensures),
)

pub returns : goal.returns
returns c = let g = c.loop-i.invariant in
    fanning_end (omega (arith, c.loop-i-test.false, c.corner_count-n.ensures, c.saturating_sub-i-end.ensures)) c.requires.above c.requires.below g.0 g.1
