-- `split_sectors::append_sectors` meets its contract: the invariant is `Sectoring` of Turns.
-- Assumes nothing.
use Prim.Native.Nat.{◌<◌}
use native.Mathlib.Omega.{arith}
use Rattle.plane.specs.Machine.{point}
use Rattle.points.specs.Points.{corner_in, corners_in}
use Rattle.split.specs.Splitting.{centroid_parts}
use Rattle.split_sectors.proofs.Turns.{sectoring_start, sectoring_within, sectoring_room, sectoring_turn, sectoring_end}
use Rattle.split_sectors.proofs.append_sectors.Goals as goal

pub loop-i-init : goal.loop-i-init
loop-i-init c = let g = c.args in
    let e = c.ceil_div-part_count.ensures in
    sectoring_start g.contour.now (point g.centre) g.starts.now g.points.now g.t g.limit e.1 e.0

pub append_group-tally-requires : goal.append_group-tally-requires
append_group-tally-requires c = let g = c.args in
    let l = c.loop-i in
    let k = c.ceil_div-part_count.result in
    let h : l.i < k = omega arith in
    let e = c.share.ensures in
    let qs = centroid_parts g.limit (point g.centre) (corner_in g.contour.now 0) (corners_in g.contour.now) in
    (omega arith, sectoring_within g.contour.now (point g.centre) g.starts.now g.points.now g.t l.invariant h e, c.requires.3, c.requires.4, sectoring_room g.contour.now (point g.centre) g.starts.now g.points.now g.t l.invariant h e c.requires.5)

pub loop-i-preserved : goal.loop-i-preserved
loop-i-preserved c = let g = c.args in
    let l = c.loop-i in
    let h : l.i < c.ceil_div-part_count.result = omega arith in
    let qs = centroid_parts g.limit (point g.centre) (corner_in g.contour.now 0) (corners_in g.contour.now) in
    sectoring_turn g.contour.now (point g.centre) g.starts.now g.points.now g.t l.invariant h c.share.ensures c.append_group-tally.ensures

pub returns : goal.returns
returns c = let g = c.args in
    let l = c.loop-i in
    sectoring_end g.contour.now (point g.centre) g.starts.now g.points.now g.t l.invariant (omega arith)
