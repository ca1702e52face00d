-- `mesh_faults::too_large` meets its contract: the invariant is `Sum` of Areas. Assumes nothing.
use Rattle.mesh_faults.proofs.Areas.{Sum}
use Rattle.mesh_faults.proofs.too_large.Given as goal

abbrev pub invariant-loop-row : goal.invariant-loop-row
invariant-loop-row l = Sum l.mesh l.row-index l.total
