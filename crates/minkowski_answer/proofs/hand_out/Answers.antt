-- `minkowski_answer::hand_out` meets its contract: each refusal and the answer, by the laws of
-- Answer. Assumes nothing.
use mathlib.Core.Path.{sym}
use mathlib.Core.List.{flatten}
use native.Mathlib.Omega.{arith}
use lib.ListN.{length}
use Rattle.corners.proofs.Corners.{length_points}
use Rattle.pair_walks.specs.Walks.{contours_in}
use Rattle.minkowski_answer.proofs.Answer.{starts_refused, corners_refused, handed}
use Rattle.minkowski_answer.proofs.Room.{more_corners, no_more, count_contours, room_for}
use Rattle.minkowski_answer.proofs.hand_out.Goals as goal

pub returns-then-starts-contours : goal.returns-then-starts-contours
returns-then-starts-contours c = let g = c.args in
    let ps = contours_in g.firsts.now g.points.now g.left g.right in
    starts_refused ps g.bounds g.starts.now g.corners.now (omega (arith, count_contours c.requires, c.if-starts-contours.true)) c.refusal.ensures

pub returns-then-no_room : goal.returns-then-no_room
returns-then-no_room c = let g = c.args in
    let ps = contours_in g.firsts.now g.points.now g.left g.right in
    corners_refused ps g.bounds g.starts.now g.corners.now (omega (arith, count_contours c.requires, c.if-starts-contours.false))
    (omega (arith, more_corners (length (flatten ps)) c.no_room.ensures c.if-no_room.true, c.corner_count.ensures, length_points g.corners.now)) c.refusal-then-no_room.ensures

pub append_all-count-requires : goal.append_all-count-requires
append_all-count-requires c = let g = c.args in
    let ps = contours_in g.firsts.now g.points.now g.left g.right in
    (c.requires.walks, room_for c.requires c.if-starts-contours.false (omega (arith, no_more (length (flatten ps)) c.no_room.ensures c.if-no_room.false, c.corner_count.ensures, length_points g.corners.now)))

pub returns : goal.returns
returns c = let g = c.args in
    let ps = contours_in g.firsts.now g.points.now g.left g.right in
    let a = c.append_all-count.ensures in
    handed ps g.bounds g.starts.now g.corners.now (omega (arith, count_contours c.requires, c.if-starts-contours.false))
    (omega (arith, no_more (length (flatten ps)) c.no_room.ensures c.if-no_room.false, c.corner_count.ensures, length_points g.corners.now)) (sym (count_contours c.requires))
    a.count a.starts a.corners
