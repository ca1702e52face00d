-- `split_chords::append_run` meets its contract: the first k corners are appended. Assumes nothing.
use native.Mathlib.Omega.{arith}
use Rattle.split_chords.proofs.Appending.{run_turn}
use Rattle.split_chords.proofs.append_run.Goals as goal

pub loop-k-preserved : goal.loop-k-preserved
loop-k-preserved c = let h = c.loop-k-test.true in
    run_turn c.args.contour.now c.args.i c.loop-k.k (omega (arith, h, c.requires.0)) c.loop-k.invariant c.append_point-total.ensures
