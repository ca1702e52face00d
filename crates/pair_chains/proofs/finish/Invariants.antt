-- `pair_chains::finish` meets its contract. The loop's invariant: where the lane stands. Assumes
-- nothing.
use Prim.Native.Nat.{◌+◌, ◌-◌}
use Rattle.pair_chains.specs.Chains.{contour_from}
use Rattle.pair_chains.proofs.Chains.{Stands}
use Rattle.pair_chains.proofs.finish.Given as goal

abbrev pub invariant-loop-out : goal.invariant-loop-out
invariant-loop-out l = Stands l.points l.numbers l.end (contour_from l.points l.numbers l.end l.initial.a.i l.initial.a.j) l.initial.out l.initial.a.k l.a l.out

abbrev pub decreases-loop-out : goal.decreases-loop-out
decreases-loop-out l = l.end - (l.a.i + l.a.j)
