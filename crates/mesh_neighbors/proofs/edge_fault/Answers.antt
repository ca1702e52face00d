-- `mesh_neighbors::edge_fault` meets its contract: both ends in turn. Assumes nothing.
use mathlib.Core.Path.{sym, ◌∙◌}
use Rattle.mesh_neighbors.specs.Earliest.{edge_fault}
use Rattle.mesh_neighbors.proofs.edge_fault.Goals as goal
use Rattle.mesh_neighbors.proofs.edge_fault.Goals.{else-same_point-via-then-same_point+else-same_point-2, else-same_point-via-else-same_point}

pub returns-then-same_point-2 : goal.returns-then-same_point-2
unfolding edge_fault
returns-then-same_point-2 c = rw (sym c.same_point.ensures ∙ c.if-same_point.true, sym c.same_point-then-same_point.ensures ∙ c.if-same_point-2.true)

pub returns-else-same_point : goal.returns-else-same_point
unfolding edge_fault
returns-else-same_point c = elim c.else-same_point.branch [
  | else-same_point-via-then-same_point+else-same_point-2 w ↦ rw (sym c.same_point.ensures ∙ w.if-same_point.true, sym w.same_point-then-same_point.ensures ∙ w.if-same_point-2.false)
  | else-same_point-via-else-same_point w ↦ rw (sym c.same_point.ensures ∙ w.if-same_point.false)
]
