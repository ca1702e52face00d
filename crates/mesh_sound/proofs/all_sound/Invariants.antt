-- `mesh_sound::all_sound` meets its contract: the invariant is `Going` of Passes. Assumes nothing.
use Rattle.mesh_sound.proofs.Passes.{Going}
use Rattle.mesh_sound.proofs.all_sound.Given as goal

abbrev pub invariant-loop-row : goal.invariant-loop-row
invariant-loop-row l = Going l.mesh l.row-index l.total
