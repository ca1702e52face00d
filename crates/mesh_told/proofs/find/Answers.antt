-- `mesh_told::find` meets its contract. The loop's invariant: `Seeking` of Finding. Assumes
-- nothing.
use Rattle.mesh_told.proofs.Finding.{found, seeking_on, not_found}
use Rattle.mesh_told.proofs.find.Goals as goal

pub returns-then-left-lt2 : goal.returns-then-left-lt2
returns-then-left-lt2 c = found c.loop-from.invariant c.loop-from-test.true c.run_end-end.ensures.0 c.run_end-end.ensures.2 c.if-left-lt2.true

pub loop-from-preserved : goal.loop-from-preserved
loop-from-preserved c = seeking_on c.loop-from.invariant c.loop-from-test.true c.run_end-end.ensures.0 c.run_end-end.ensures.2 c.if-left-lt2.false
    c.says_something-count.ensures.0 c.says_something-count.ensures.1

pub returns : goal.returns
returns c = not_found c.loop-from.invariant c.loop-from-test.false
