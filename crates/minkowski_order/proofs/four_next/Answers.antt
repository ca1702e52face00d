-- `minkowski_order::four_next` meets its contract: a place on from a place, four times. Assumes
-- nothing.
use mathlib.Core.Path.{subst}
use Prim.Native.Nat.{◌+◌}
use native.Mathlib.Omega.{arith}
use borrow.Author.Rules.{rules}
use Rattle.minkowski_order.specs.Order.{IsPair}
use Rattle.minkowski_order.proofs.Order.{onward_then, more_one, more_at}
use Rattle.minkowski_order.proofs.four_next.Goals as goal

pub returns : goal.returns
returns c = let g = c.args in
    let o1 = c.after-t.ensures in
    let o2 = onward_then o1 c.after-u.ensures in
    let o3 = onward_then o2 c.after-v.ensures in
    record {
      first = c.pair_next.ensures;
      second = subst (λ n. IsPair g.firsts.now g.points.now g.numbers.now g.left g.right n c.pair_next-2.result) o1.number c.pair_next-2.ensures;
      third = subst (λ n. IsPair g.firsts.now g.points.now g.numbers.now g.left g.right n c.pair_next-3.result) o2.number c.pair_next-3.ensures;
      fourth = subst (λ n. IsPair g.firsts.now g.points.now g.numbers.now g.left g.right n c.pair_next-4.result) o3.number c.pair_next-4.ensures;
      place = onward_then o3 c.after.ensures;
    }
