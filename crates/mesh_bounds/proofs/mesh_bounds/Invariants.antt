-- `mesh_bounds::mesh_bounds` meets its contract. The loop's invariant: the bounds of the whole are
-- those so far with the rows that are left brought in. Assumes nothing.
use mathlib.Core.Path.{◌≡◌}
use lib.ListN.{drop}
use Rattle.mesh.specs.Rows.{rows_mesh}
use Rattle.mesh_bounds.specs.Bounds.{widened_by, vertices_of, mesh_bounds}
use Rattle.mesh_bounds.proofs.mesh_bounds.Given as goal

abbrev pub invariant-loop-row : goal.invariant-loop-row
invariant-loop-row l = widened_by l.b (vertices_of (rows_mesh (drop l.row-index l.rows))) ≡ mesh_bounds (rows_mesh l.rows)
