-- `mesh_faults::off_grid` meets its contract: no row before k has a coordinate off the grid.
-- Assumes nothing.
use Rattle.mesh.specs.Mesh.{triangle_off}
use Rattle.mesh.proofs.Passes.{Pass}
use Rattle.mesh_faults.proofs.off_grid.Given as goal

abbrev pub invariant-loop-row : goal.invariant-loop-row
invariant-loop-row l = Pass (λ k t. triangle_off t) l.mesh l.row-index
