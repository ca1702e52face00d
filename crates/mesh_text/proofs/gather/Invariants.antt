-- `mesh_text::gather` meets its contract. The loop's invariant: `Going` of Gatherings. Assumes
-- nothing.
use Prim.Native.Nat.{◌-◌}
use lib.ListN.{length}
use Rattle.mesh_text.proofs.Gatherings.{Going}
use Rattle.mesh_text.proofs.gather.Given as goal

abbrev pub invariant-loop-at : goal.invariant-loop-at
invariant-loop-at l = Going l.text l.initial.words l.at l.line l.count l.words

abbrev pub decreases-loop-at : goal.decreases-loop-at
decreases-loop-at l = length l.text - l.at
