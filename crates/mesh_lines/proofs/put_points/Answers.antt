-- `mesh_lines::put_points` meets its contract: one put after another. Assumes nothing.
use mathlib.Core.Path.{refl}
use native.Mathlib.Omega.{arith}
use Rattle.mesh_fields.proofs.Puts.{put_then, put_stops}
use Rattle.mesh_lines.specs.Lines.{are_points}
use Rattle.mesh_lines.proofs.put_points.Goals as goal

pub returns-then-put_point_at-2 : goal.returns-then-put_point_at-2
unfolding are_points
returns-then-put_point_at-2 c = put_then c.put_point_at.ensures c.if-put_point_at.true refl
    (put_then c.put_point_at-then-put_point_at.ensures c.if-put_point_at-2.true (omega arith) c.put_point_at-then-put_point_at-2.ensures)

pub returns-else-put_point_at-2 : goal.returns-else-put_point_at-2
unfolding are_points
returns-else-put_point_at-2 c = put_then c.put_point_at.ensures c.if-put_point_at.true refl (put_stops c.put_point_at-then-put_point_at.ensures _ _ c.if-put_point_at-2.false)

pub returns-else-put_point_at : goal.returns-else-put_point_at
unfolding are_points
returns-else-put_point_at c = put_stops c.put_point_at.ensures _ _ c.if-put_point_at.false
