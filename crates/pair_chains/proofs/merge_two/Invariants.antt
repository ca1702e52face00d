-- `pair_chains::merge_two` meets its contract. The loop's invariant: where each lane stands.
-- Assumes nothing.
use Prim.Native.Nat.{◌+◌, ◌-◌}
use Rattle.pair_chains.proofs.Lanes.{Of}
use Rattle.pair_chains.proofs.merge_two.Given as goal

abbrev pub invariant-lanes : goal.invariant-lanes
invariant-lanes l = Of l.points l.numbers (l.x) l.initial.out l.at l.a l.out × Of l.points l.numbers (l.y) l.initial.work 0 l.b l.work

abbrev pub decreases-lanes : goal.decreases-lanes
decreases-lanes l = l.x.end - (l.a.i + l.a.j)
