-- `pair_chains::merge_four` meets its contract. The loop's invariant: where each lane stands.
-- Assumes nothing.
use Prim.Native.Nat.{◌+◌, ◌-◌}
use Rattle.pair_chains.proofs.Lanes.{Of}
use Rattle.pair_chains.proofs.merge_four.Given as goal

abbrev pub invariant-lanes : goal.invariant-lanes
invariant-lanes l = Of l.points l.numbers l.x.a l.initial.out l.at l.a l.out × Of l.points l.numbers l.x.b l.initial.wb 0 l.b l.wb × Of l.points l.numbers l.x.c l.initial.wc 0 l.c l.wc × Of l.points l.numbers l.x.d l.initial.wd 0 l.d l.wd

abbrev pub decreases-lanes : goal.decreases-lanes
decreases-lanes l = l.x.a.end - (l.a.i + l.a.j)
