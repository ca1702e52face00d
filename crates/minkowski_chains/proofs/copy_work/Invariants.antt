-- `minkowski_chains::copy_work` meets its contract: the corners before k are put. Assumes nothing.
use Prim.Native.Nat.{◌+◌}
use Rattle.pair_merge.specs.Putting.{CornersPut}
use Rattle.minkowski_chains.specs.Contours.{work_corners}
use Rattle.minkowski_chains.proofs.copy_work.Given as goal

abbrev pub invariant-loop-k : goal.invariant-loop-k
invariant-loop-k l = CornersPut (work_corners l.k l.work) l.initial.out l.at l.out (l.at + l.k)
