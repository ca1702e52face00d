-- `split_sectors::append_sector` meets its contract: two pieces are appended, and the part is
-- ended. Assumes nothing.
use mathlib.Core.Path.{refl}
use Prim.Native.Nat.{◌+◌}
use Rattle.plane.specs.Machine.{point}
use Rattle.points.proofs.Points.{appended_more}
use Rattle.convex_contour.proofs.Contours.{kept_yes}
use Rattle.split_chords.proofs.Appending.{room_point, room_run, room_end, part_ended}
use Rattle.split_sectors.specs.Arcs.{arc_of}
use Rattle.split_sectors.proofs.Arcing.{length_arc}
use native.Mathlib.Omega.{arith}
use Rattle.split_sectors.proofs.append_sector.Goals as goal

pub put_point-requires : goal.put_point-requires
put_point-requires c = let g = c.args in
    room_point c.requires.2

pub append_arc-total-requires : goal.append_arc-total-requires
append_arc-total-requires c = let g = c.args in
    let l = arc_of g.contour.now g.start (g.n + 1) in
    let h = room_point c.requires.2 in
    let f = room_run c.requires.2 (kept_yes g.points.now (point g.centre) refl h c.put_point.ensures) in
    (c.requires.0, omega (arith, c.requires.1), omega (arith, f, length_arc g.contour.now g.start (g.n + 1) (omega (arith, c.requires.1))))

pub end_part-requires : goal.end_part-requires
end_part-requires c = let g = c.args in
    let l = arc_of g.contour.now g.start (g.n + 1) in
    let h = room_point c.requires.2 in
    let a = appended_more (kept_yes g.points.now (point g.centre) refl h c.put_point.ensures) c.append_arc-total.ensures in
    (c.requires.2.for_starts, room_end c.requires.2 a)

pub returns : goal.returns
returns c = let g = c.args in
    let l = arc_of g.contour.now g.start (g.n + 1) in
    let h = room_point c.requires.2 in
    let a = appended_more (kept_yes g.points.now (point g.centre) refl h c.put_point.ensures) c.append_arc-total.ensures in
    part_ended c.requires.2 a c.end_part.ensures
