-- `split_chords::append_run` meets its contract: the first k corners are appended. Assumes nothing.
use Rattle.points.specs.Points.{Appended}
use Rattle.split_chords.specs.Runs.{run_of}
use Rattle.split_chords.proofs.append_run.Given as goal

abbrev pub invariant-loop-k : goal.invariant-loop-k
invariant-loop-k l = Appended (run_of l.contour l.i l.k) l.initial.points l.count l.points l.total
