-- `split_chords::append_fan_parts` meets its contract: the invariant is `Fanning` of Fans. Assumes
-- nothing.
use Prim.Native.Nat.{◌-◌, ◌<◌}
use native.Mathlib.Omega.{arith}
use lib.ListN.{length}
use Rattle.points.specs.Points.{corners_in}
use Rattle.split.specs.Splitting.{fan_parts}
use Rattle.split_chords.proofs.Fans.{fanning_start, fanning_within, fanning_room, fanning_turn, fanning_end}
use Rattle.split_chords.proofs.append_fan_parts.Goals as goal

pub loop-i-init : goal.loop-i-init
loop-i-init c = let g = c.args in
    let e = c.ceil_div-part_count.ensures in
    fanning_start g.contour.now g.starts.now g.points.now g.t g.limit (omega (arith, c.requires.0, c.requires.1)) e.1 e.0

pub append_fan_part-tally-requires : goal.append_fan_part-tally-requires
append_fan_part-tally-requires c = let g = c.args in
    let l = c.loop-i in
    let k = c.ceil_div-part_count.result in
    let n = length g.contour.now - 2 in
    let qs = fan_parts g.limit (corners_in g.contour.now) in
    let h : l.i < k = omega arith in
    (fanning_within g.contour.now g.starts.now g.points.now g.t l.invariant h c.share-n.ensures, fanning_room g.contour.now g.starts.now g.points.now g.t l.invariant h c.share-n.ensures c.requires.3)

pub loop-i-preserved : goal.loop-i-preserved
loop-i-preserved c = let g = c.args in
    let l = c.loop-i in
    let k = c.ceil_div-part_count.result in
    let h : l.i < k = omega arith in
    fanning_turn g.contour.now g.starts.now g.points.now g.t l.invariant h c.share-n.ensures c.append_fan_part-tally.ensures

pub returns : goal.returns
returns c = let g = c.args in
    let l = c.loop-i in
    fanning_end g.contour.now g.starts.now g.points.now g.t l.invariant (omega arith)
