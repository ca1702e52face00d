-- `minkowski_order::pair_at` meets its contract: four first places. Assumes nothing.
use mathlib.Core.Path.{◌∙◌}
use borrow.Author.Rules.{rules}
use Rattle.minkowski_order.specs.Order.{pair_from, pair_at}
use Rattle.minkowski_order.proofs.pair_at.Goals as goal

pub returns : goal.returns
unfolding pair_at
returns c = c.pair_from.ensures ∙ (λ i. pair_from (c.first.ensures.0 i) (c.first-2.ensures.0 i) (c.first-3.ensures.0 i) (c.first-4.ensures.0 i))
