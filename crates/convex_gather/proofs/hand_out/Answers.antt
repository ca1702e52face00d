-- `convex_gather::hand_out` meets its contract: each refusal and the answer, by the laws of Answer.
-- Assumes nothing.
use native.Mathlib.Omega.{arith}
use Rattle.corners.proofs.Corners.{length_points}
use Rattle.convex_gather.proofs.Answer.{starts_refused, corners_refused, handed}
use Rattle.convex_gather.proofs.hand_out.Goals as goal

pub returns-then-starts-parts : goal.returns-then-starts-parts
returns-then-starts-parts c = let g = c.args in
    starts_refused g.begins.now g.points.now g.t g.starts.now g.corners.now c.if-starts-parts.true c.refusal.ensures

pub returns-then-corner_count-count : goal.returns-then-corner_count-count
returns-then-corner_count-count c = let g = c.args in
    corners_refused g.begins.now g.points.now g.t g.starts.now g.corners.now c.if-starts-parts.false
    (omega (arith, c.if-corner_count-count.true, c.corner_count.ensures, length_points g.corners.now)) c.refusal-then-corner_count-count.ensures

pub returns : goal.returns
returns c = let g = c.args in
    handed g.begins.now g.points.now g.t g.starts.now g.corners.now c.if-starts-parts.false
    (omega (arith, c.if-corner_count-count.false, c.corner_count.ensures, length_points g.corners.now)) c.copy_starts.ensures c.copy_points.ensures
