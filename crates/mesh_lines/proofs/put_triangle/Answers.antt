-- `mesh_lines::put_triangle` meets its contract: one put after another. Assumes nothing.
use mathlib.Core.Path.{refl}
use mathlib.Core.List.{[]}
use Rattle.mesh_fields.proofs.Puts.{put_then, put_stops, put_none}
use Rattle.mesh_lines.specs.Lines.{is_triangle}
use Rattle.mesh_lines.proofs.put_triangle.Goals as goal

pub returns-then-put_neighbours : goal.returns-then-put_neighbours
unfolding is_triangle
returns-then-put_neighbours c = put_then c.put_points.ensures c.if-put_points.true refl (put_then c.put_neighbours.ensures c.if-put_neighbours.true refl (put_none c.ends.ensures))

pub returns-else-put_neighbours : goal.returns-else-put_neighbours
unfolding is_triangle
returns-else-put_neighbours c = put_then c.put_points.ensures c.if-put_points.true refl (put_stops c.put_neighbours.ensures _ [] c.if-put_neighbours.false)

pub returns-else-put_points : goal.returns-else-put_points
unfolding is_triangle
returns-else-put_points c = put_stops c.put_points.ensures _ _ c.if-put_points.false
