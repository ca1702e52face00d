-- `split_ears::append_ear` meets its contract: two pieces are appended, and the part is ended.
-- Assumes nothing.
use Prim.Native.Nat.{◌+◌}
use native.Mathlib.Omega.{arith}
use Rattle.points.proofs.Points.{appended_more}
use Rattle.split_chords.proofs.Appending.{room_point, room_run, room_end, part_ended}
use Rattle.split_ears.proofs.Ringing.{passed_over, length_after}
use Rattle.split_ears.proofs.append_ear.Goals as goal

pub append_point-first-requires : goal.append_point-first-requires
append_point-first-requires c = let g = c.args in
    (c.requires.0, room_point c.requires.3)

pub overflow_add-n : goal.overflow_add-n
overflow_add-n c = let g = c.args in
    let e = length_after g.contour.now g.ring.now g.start (g.size + 1) in
    let f = room_run c.requires.3 c.append_point-first.ensures in
    omega (arith, e, f, c.append_point-first.ensures.size, c.requires.3.small)

pub append_after-end-requires : goal.append_after-end-requires
append_after-end-requires c = let g = c.args in
    let e = length_after g.contour.now g.ring.now g.start (g.size + 1) in
    let f = room_run c.requires.3 c.append_point-first.ensures in
    (c.requires.0, c.requires.2, omega (arith, e, f))

pub overflow_add-first : goal.overflow_add-first
overflow_add-first c = let g = c.args in
    let e = length_after g.contour.now g.ring.now g.start (g.size + 1) in
    let f = room_run c.requires.3 c.append_point-first.ensures in
    omega (arith, e, f, c.append_point-first.ensures.size, c.requires.3.small)

pub end_part-requires : goal.end_part-requires
end_part-requires c = let g = c.args in
    let a = appended_more c.append_point-first.ensures c.append_after-end.ensures.2 in
    (c.requires.3.for_starts, room_end c.requires.3 a)

pub returns : goal.returns
returns c = let g = c.args in
    let a =
    appended_more
    c.append_point-first.ensures c.append_after-end.ensures.2 in (
      passed_over g.ring.now g.start (g.size + 1) c.set_next.ensures c.append_after-end.ensures.0,
      part_ended
          {p = g.points.now} c.requires.3 a c.end_part.ensures,
    )
