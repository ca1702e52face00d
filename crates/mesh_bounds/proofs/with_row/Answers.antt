-- `mesh_bounds::with_row` meets its contract: vertex by vertex. Assumes nothing.
use Rattle.mesh.specs.Rows.{row_triangle}
use Rattle.mesh_bounds.proofs.Widening.{three_points}
use Rattle.mesh_bounds.proofs.with_row.Goals as goal

pub returns : goal.returns
returns c = three_points (row_triangle c.args.row) c.args.b
    c.vertex_of.ensures c.vertex_of-2.ensures c.vertex_of-3.ensures c.with_point-one.ensures c.with_point-two.ensures c.with_point.ensures
