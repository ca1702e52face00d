-- `mesh_told::find` meets its contract. The loop's invariant: `Seeking` of Finding. Assumes
-- nothing.
use Prim.Native.Nat.{◌-◌}
use lib.ListN.{length}
use Rattle.mesh_told.proofs.Finding.{Seeking}
use Rattle.mesh_told.proofs.find.Given as goal

abbrev pub invariant-loop-from : goal.invariant-loop-from
invariant-loop-from l = Seeking l.text l.number l.from l.left l.count

abbrev pub decreases-loop-from : goal.decreases-loop-from
decreases-loop-from l = length l.text - l.from
