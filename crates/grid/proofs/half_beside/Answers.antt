-- `grid::half_beside` meets its contract. Assumes nothing.
use mathlib.Core.Path.{sym, ap}
use lib.IntN.{negsuc}
use lib.Ieee.{fin, neg, of_bits}
use Rattle.grid.proofs.half_beside.Goals as goal

pub returns-then-v : goal.returns-then-v
unfolding of_bits neg
returns-then-v c = ap (λ s. fin s 1 (negsuc 0)) (sym c.if-v.true)

pub returns-else-v : goal.returns-else-v
unfolding of_bits neg
returns-else-v c = ap (λ s. fin s 1 (negsuc 0)) (sym c.if-v.false)
