-- `pair_chains::count_four` meets its contract. The loop's invariant: what each lane has still to
-- count. Assumes nothing.
use Prim.Native.Nat.{◌+◌, ◌-◌}
use lib.ListN.{length}
use Rattle.pair_chains.specs.Chains.{chain_of}
use Rattle.pair_chains.proofs.Lanes.{Counting}
use Rattle.pair_chains.proofs.count_four.Given as goal

abbrev pub invariant-lanes : goal.invariant-lanes
invariant-lanes l = Counting l.numbers l.x.a.end (length (chain_of l.numbers l.x.a)) l.a × Counting l.numbers l.x.b.end (length (chain_of l.numbers l.x.b)) l.b × Counting l.numbers l.x.c.end (length (chain_of l.numbers l.x.c)) l.c × Counting l.numbers l.x.d.end (length (chain_of l.numbers l.x.d)) l.d

abbrev pub decreases-lanes : goal.decreases-lanes
decreases-lanes l = l.x.a.end - (l.a.i + l.a.j)
