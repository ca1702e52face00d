-- `mesh_neighbors::neighbor_fault` meets its contract: the invariant is `Judged` of Earliest.
-- Assumes nothing.
use Rattle.mesh.specs.Rows.{rows_mesh}
use Rattle.mesh_neighbors.proofs.Earliest.{Judged}
use Rattle.faults.specs.Told.{told}
use Rattle.mesh_neighbors.proofs.neighbor_fault.Given as goal

abbrev pub invariant-loop-k : goal.invariant-loop-k
invariant-loop-k l = Judged (rows_mesh l.mesh) l.k (told l.judged)
