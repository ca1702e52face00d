-- `minkowski_counted::lower_one` meets its contract: as many fewer as it has ties. Assumes nothing.
use native.Mathlib.Omega.{arith}
use Rattle.minkowski_order.proofs.Pairs.{as_few, as_count}
use Rattle.minkowski_counted.proofs.lower_one.Goals as goal

pub ties-t-requires : goal.ties-t-requires
ties-t-requires c = let x = c.pair_next-x.ensures in (x.ordered, omega (arith, x.edges, c.count_one-c.ensures, as_count x, as_few x))
