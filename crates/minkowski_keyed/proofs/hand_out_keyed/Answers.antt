-- `minkowski_keyed::hand_out_keyed` meets its contract: each refusal and the answer, by the laws of
-- minkowski_answer. Assumes nothing.
use mathlib.Core.Path.{sym}
use mathlib.Core.List.{flatten}
use native.Mathlib.Omega.{arith}
use lib.ListN.{length}
use Rattle.corners.proofs.Corners.{length_points}
use Rattle.pair_walks.specs.Walks.{contours_in}
use Rattle.minkowski_answer.proofs.Answer.{starts_refused, corners_refused, handed}
use Rattle.minkowski_answer.proofs.Room.{more_corners, no_more, count_contours, room_for}
use Rattle.minkowski_keyed.proofs.hand_out_keyed.Goals as goal

pub returns-then-starts-contours : goal.returns-then-starts-contours
returns-then-starts-contours c = let g = c.args in
    let ps = contours_in g.firsts.now g.points.now g.left g.right in
    starts_refused ps g.bounds g.starts.now g.corners.now (omega (arith, count_contours c.requires.walks, c.if-starts-contours.true)) c.refusal.ensures

pub returns-then-no_room_keyed : goal.returns-then-no_room_keyed
returns-then-no_room_keyed c = let g = c.args in
    let ps = contours_in g.firsts.now g.points.now g.left g.right in
    corners_refused ps g.bounds g.starts.now g.corners.now (omega (arith, count_contours c.requires.walks, c.if-starts-contours.false))
    (omega (arith, more_corners (length (flatten ps)) c.no_room_keyed.ensures c.if-no_room_keyed.true, c.corner_count-room.ensures, length_points g.corners.now)) c.refusal-then-no_room_keyed.ensures

pub append_keyed-count-requires-clause-room : goal.append_keyed-count-requires-clause-room
append_keyed-count-requires-clause-room c = let g = c.args in
    let ps = contours_in g.firsts.now g.points.now g.left g.right in
    room_for c.requires.walks c.if-starts-contours.false (omega (arith, no_more (length (flatten ps)) c.no_room_keyed.ensures c.if-no_room_keyed.false, c.corner_count-room.ensures, length_points g.corners.now))

pub returns : goal.returns
returns c = let g = c.args in
    let ps = contours_in g.firsts.now g.points.now g.left g.right in
    let a = c.append_keyed-count.ensures in
    handed ps g.bounds g.starts.now g.corners.now (omega (arith, count_contours c.requires.walks, c.if-starts-contours.false))
    (omega (arith, no_more (length (flatten ps)) c.no_room_keyed.ensures c.if-no_room_keyed.false, c.corner_count-room.ensures, length_points g.corners.now)) (sym (count_contours c.requires.walks))
    a.count a.starts a.corners
