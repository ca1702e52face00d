-- `mesh_neighbors::row_fault` meets its contract: each side by Side, the three by Earliest. Assumes
-- nothing.
use native.Mathlib.Omega.{arith}
use Rattle.mesh.specs.Mesh.{after}
use Rattle.mesh.specs.Rows.{rows_mesh}
use Rattle.mesh_neighbors.proofs.Earliest.{three_told}
use Rattle.mesh_neighbors.proofs.Side.{side_read}
use Rattle.mesh_neighbors.proofs.row_fault.Goals as goal

pub returns : goal.returns
unfolding after
returns c = let rows = c.args.mesh.now in
    let k = c.args.k in
    three_told (rows_mesh rows) k
    (side_read rows c.requires (omega arith) c.neighbor_of-n0.ensures c.neighbor_of-n1.ensures c.neighbor_of-n2.ensures
    c.vertex_of-v1.ensures c.vertex_of-v2.ensures c.side_fault-first.ensures)
    (side_read rows c.requires (omega arith) c.neighbor_of-n1.ensures c.neighbor_of-n2.ensures c.neighbor_of-n0.ensures
    c.vertex_of-v2.ensures c.vertex_of-v0.ensures c.side_fault-second.ensures)
    (side_read rows c.requires (omega arith) c.neighbor_of-n2.ensures c.neighbor_of-n0.ensures c.neighbor_of-n1.ensures
    c.vertex_of-v0.ensures c.vertex_of-v1.ensures c.side_fault-third.ensures) c.earlier_of.ensures
    c.earlier_of-2.ensures
