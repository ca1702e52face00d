-- `pair_chains::count_on` meets its contract. The loop's invariant: what is counted and what is
-- still to be counted is the whole. Assumes nothing.
use Prim.Native.Nat.{◌+◌, ◌-◌}
use lib.ListN.{length}
use Rattle.pair_chains.specs.Chains.{chain}
use Rattle.pair_chains.proofs.Lanes.{Counting}
use Rattle.pair_chains.proofs.count_on.Given as goal

abbrev pub invariant-loop-a : goal.invariant-loop-a
invariant-loop-a l = Counting l.numbers l.end (l.initial.a.k + length (chain l.numbers l.end l.initial.a.i l.initial.a.j)) l.a

abbrev pub decreases-loop-a : goal.decreases-loop-a
decreases-loop-a l = l.end - (l.a.i + l.a.j)
