-- `split_chords::append_fan_part` meets its contract: two pieces are appended, and the part is
-- ended. Assumes nothing.
use Prim.Native.Nat.{◌+◌}
use native.Mathlib.Omega.{arith}
use Rattle.points.proofs.Points.{appended_more}
use Rattle.split_chords.proofs.Appending.{length_run, room_point, room_run, part_ended}
use Rattle.split_chords.proofs.append_fan_part.Goals as goal

pub append_point-first-requires : goal.append_point-first-requires
append_point-first-requires c = let g = c.args in
    (omega (arith, c.requires.0), room_point c.requires.1)

pub append_run-count-requires : goal.append_run-count-requires
append_run-count-requires c = let g = c.args in
    let e = length_run g.contour.now g.start (g.size + 1) (omega (arith, c.requires.0)) in
    let f = room_run c.requires.1 c.append_point-first.ensures in
    (omega (arith, c.requires.0), omega (arith, e, f))

pub returns : goal.returns
returns c = let g = c.args in
    let a = appended_more c.append_point-first.ensures c.append_run-count.ensures in
    part_ended c.requires.1 a c.end_part.ensures
