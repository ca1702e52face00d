-- `convex_contour::append_run` meets its contract: what it ensures, of the places passed, is the
-- loop's invariant. Assumes nothing.
use native.Mathlib.Omega.{arith}
use borrow.Author.Rules.{rules}
use Rattle.convex_contour.proofs.Contours.{ran_one, ran_start, ran_room, ran_next}
use Rattle.convex_contour.proofs.append_run.Goals as goal

pub loop-i-init : goal.loop-i-init
loop-i-init c = let g = c.args in
    ran_start g.corners.now g.from c.requires

pub append_corner-count-requires : goal.append_corner-count-requires
append_corner-count-requires c = let g = c.args in
    (ran_room g.corners.now g.from c.requires (omega arith) (omega arith) c.loop-i.invariant, search rules, search rules)

pub loop-i-preserved : goal.loop-i-preserved
loop-i-preserved c = let g = c.args in
    ran_next g.corners.now g.from c.requires (omega arith) (omega arith) c.loop-i.invariant c.point_at-c.ensures.0 (ran_one c.point_at-c.ensures.1 c.subtract-way.ensures c.append_corner-count.ensures)
