-- `mesh_lines::put_neighbours` meets its contract: one put after another. Assumes nothing.
use mathlib.Core.Path.{refl}
use native.Mathlib.Omega.{arith}
use Rattle.mesh_fields.proofs.Puts.{put_then, put_stops}
use Rattle.mesh_lines.specs.Lines.{are_neighbours}
use Rattle.mesh_lines.proofs.put_neighbours.Goals as goal

pub returns-then-put_neighbour_at-2 : goal.returns-then-put_neighbour_at-2
unfolding are_neighbours
returns-then-put_neighbour_at-2 c = put_then c.put_neighbour_at.ensures c.if-put_neighbour_at.true refl
    (put_then c.put_neighbour_at-then-put_neighbour_at.ensures c.if-put_neighbour_at-2.true (omega arith) c.put_neighbour_at-then-put_neighbour_at-2.ensures)

pub returns-else-put_neighbour_at-2 : goal.returns-else-put_neighbour_at-2
unfolding are_neighbours
returns-else-put_neighbour_at-2 c = put_then c.put_neighbour_at.ensures c.if-put_neighbour_at.true refl (put_stops c.put_neighbour_at-then-put_neighbour_at.ensures _ _ c.if-put_neighbour_at-2.false)

pub returns-else-put_neighbour_at : goal.returns-else-put_neighbour_at
unfolding are_neighbours
returns-else-put_neighbour_at c = put_stops c.put_neighbour_at.ensures _ _ c.if-put_neighbour_at.false
