-- `pair_merge::merge` meets its contract. The loop's invariant: what is still to come is the merge
-- of the points from i and from j on. Assumes nothing.
use mathlib.Core.Path.{sym, ◌∙◌}
use native.Mathlib.Omega.{arith}
use Rattle.pair_merge.proofs.Merging.{turn_room, turn_less, turn_greater, turn_both, turn_first}
use Rattle.pair_merge.proofs.merge.Goals as goal

pub put_sum-requires : goal.put_sum-requires
put_sum-requires c = let l = c.loop-i in
    let f = c.loop-i-test.true in
    let g = c.if-j-m.true in
    (l.invariant.0, c.requires.1.grid, l.invariant.1, c.requires.3.grid, turn_room c.requires.1 c.requires.3 l.i l.j (omega (arith, f)) (omega (arith, g, l.invariant.1)) l.invariant.2 c.requires.4)

pub loop-i-preserved-in-Less : goal.loop-i-preserved-in-Less
loop-i-preserved-in-Less c = let l = c.loop-i in
    let f = c.loop-i-test.true in
    let g = c.if-j-m.true in
    (omega (arith, f), l.invariant.1, turn_less c.requires.1 c.requires.3 l.i l.j (omega (arith, f)) (omega (arith, g, l.invariant.1)) l.invariant.2 c.put_sum.ensures (sym c.edge_cmp-order.ensures ∙ c.in-Less.is))

pub loop-i-preserved-in-Greater : goal.loop-i-preserved-in-Greater
loop-i-preserved-in-Greater c = let l = c.loop-i in
    let f = c.loop-i-test.true in
    let g = c.if-j-m.true in
    (l.invariant.0, omega (arith, g, l.invariant.1), turn_greater c.requires.1 c.requires.3 l.i l.j (omega (arith, f)) (omega (arith, g, l.invariant.1)) l.invariant.2 c.put_sum.ensures (sym c.edge_cmp-order.ensures ∙ c.in-Greater.is))

pub loop-i-preserved-then-second_next : goal.loop-i-preserved-then-second_next
loop-i-preserved-then-second_next c = let l = c.loop-i in
    let f = c.loop-i-test.true in
    let g = c.if-j-m.true in (
      omega (arith, f),
      omega (arith, g, l.invariant.1),
      turn_both c.requires.1 c.requires.3 l.i l.j (omega (arith, f)) (omega (arith, g, l.invariant.1)) l.invariant.2
          c.put_sum.ensures (sym c.edge_cmp-order.ensures ∙ c.in-Equal.is) (sym c.second_next.ensures ∙ c.if-second_next.true),
    )

pub loop-i-preserved : goal.loop-i-preserved
loop-i-preserved c = let l = c.loop-i in
    let f = c.loop-i-test.true in
    let g = c.if-j-m.true in (
      omega (arith, f),
      l.invariant.1,
      turn_first c.requires.1 c.requires.3 l.i l.j (omega (arith, f)) (omega (arith, g, l.invariant.1))
          l.invariant.2 c.put_sum.ensures (sym c.edge_cmp-order.ensures ∙ c.in-Equal.is)
          (sym c.second_next.ensures ∙ c.if-second_next.false),
    )
