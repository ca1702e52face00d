-- `mesh_faults::flat` meets its contract: no row before k is flat. Assumes nothing.
use lib.IntN.{pos}
use lib.Signed.{le_z}
use Rattle.mesh.specs.Mesh.{triangle_area}
use Rattle.mesh.proofs.Passes.{Pass}
use Rattle.mesh_faults.proofs.flat.Given as goal

abbrev pub invariant-loop-row : goal.invariant-loop-row
invariant-loop-row l = Pass (λ k t. le_z (triangle_area t) (pos 0)) l.mesh l.row-index
