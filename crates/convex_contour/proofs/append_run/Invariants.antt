-- `convex_contour::append_run` meets its contract: what it ensures, of the places passed, is the
-- loop's invariant. Assumes nothing.
use Rattle.convex_contour.specs.Contour.{between, Ran}
use Rattle.convex_contour.proofs.append_run.Given as goal

abbrev pub invariant-loop-i : goal.invariant-loop-i
invariant-loop-i l = Ran (between l.corners l.from l.i) l.initial.points l.initial.t l.points l.t
