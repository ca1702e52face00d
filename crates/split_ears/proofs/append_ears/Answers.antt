-- `split_ears::append_ears` meets its contract: the invariant is `Clipping` of Ears. Assumes
-- nothing.
use mathlib.Core.Path.{refl, ◌∙◌}
use Prim.Native.Nat.{◌+◌, ◌-◌, ◌<◌}
use native.Mathlib.Omega.{arith}
use lib.ListN.{length}
use Rattle.points.specs.Points.{corners_in}
use Rattle.split.specs.Splitting.{ear_parts}
use Rattle.split_ears.proofs.Ringing.{length_passed}
use Rattle.split_ears.proofs.Ears.{clipping_start, clipping_within, clipping_room, clipping_turn, clipping_end}
use Rattle.split_ears.proofs.append_ears.Goals as goal

pub loop-i-init : goal.loop-i-init
loop-i-init c = let g = c.args in
    let e = c.ceil_div-part_count.ensures in
    (refl, clipping_start g.contour.now g.starts.now g.points.now g.t g.limit (omega (arith, c.requires.0, c.requires.1)) e.1 e.0 c.requires.3)

pub append_ear-tally-requires : goal.append_ear-tally-requires
append_ear-tally-requires c = let g = c.args in
    let l = c.loop-i in
    let k = c.ceil_div-part_count.result in
    let n = length g.contour.now - 2 in
    let qs = ear_parts g.limit (corners_in g.contour.now) in
    let h : l.i < k = omega arith in
    (clipping_within g.contour.now g.starts.now g.points.now g.t qs n k l.i l.start l.ring l.invariant.1, c.requires.2, l.invariant.1.ringed.steps, clipping_room g.contour.now g.starts.now g.points.now g.t qs n k l.i l.start l.ring l.invariant.1 h c.share-n.ensures c.requires.4)

pub loop-i-preserved : goal.loop-i-preserved
loop-i-preserved c = let g = c.args in
    let l = c.loop-i in
    let a = c.append_ear-tally.ensures in
    let e = length_passed l.ring l.start (c.share-n.result + 1) a.0 in (
      e ∙ l.invariant.0,
      clipping_turn g.contour.now g.starts.now g.points.now g.t (ear_parts g.limit (corners_in g.contour.now))
          (length g.contour.now - 2) c.ceil_div-part_count.result l.i l.start l.ring l.invariant.1 (omega arith)
          c.share-n.ensures a c.next_of-start.ensures,
    )

pub returns : goal.returns
returns c = let g = c.args in
    let l = c.loop-i in
    clipping_end g.contour.now g.starts.now g.points.now g.t (ear_parts g.limit (corners_in g.contour.now)) (length g.contour.now - 2) c.ceil_div-part_count.result l.i l.start l.ring l.invariant.1 (omega arith)
