-- `mesh_clean::all_linked` meets its contract: the invariant is `Linking` of Passes. Assumes
-- nothing.
use Rattle.mesh_clean.proofs.Passes.{Linking}
use Rattle.mesh_clean.proofs.all_linked.Given as goal

abbrev pub invariant-loop-k : goal.invariant-loop-k
invariant-loop-k l = Linking l.mesh l.k l.s
