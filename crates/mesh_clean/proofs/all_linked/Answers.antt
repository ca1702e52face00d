-- `mesh_clean::all_linked` meets its contract: the invariant is `Linking` of Passes. Assumes
-- nothing.
use native.Mathlib.Omega.{arith}
use borrow.Author.Tests.{not-true, not-false}
use Rattle.mesh_clean.proofs.Passes.{linking_row, linking_next, linking_end}
use Rattle.mesh_clean.proofs.all_linked.Goals as goal

pub returns-then-not-s : goal.returns-then-not-s
returns-then-not-s c = linking_row c.args.mesh.now (omega arith) c.loop-k.invariant c.count_row-s.ensures (not-true _ c.if-not-s.true)

pub loop-k-preserved : goal.loop-k-preserved
loop-k-preserved c = linking_next c.args.mesh.now (omega arith) c.loop-k.invariant c.count_row-s.ensures (not-false _ c.if-not-s.false)

pub returns : goal.returns
returns c = linking_end c.args.mesh.now (omega arith) c.loop-k.invariant
