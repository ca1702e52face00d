-- `pair_unroll_all::unroll_all` meets its contract: the invariant is `Unrolling` of Parts. Assumes
-- nothing.
use native.Mathlib.Omega.{arith}
use Rattle.std.proofs.Common.{add_assoc}
use Rattle.table.specs.Table.{table_parts}
use Rattle.table.proofs.Rules.{sound, count_parts, count_corners}
use Rattle.pair_unroll_all.proofs.Parts.{unrolling_start, unrolling_room, unrolling_leaves, unrolling_count, unrolling_turn, unrolling_end, some_leaves}
use Rattle.pair_unroll_all.proofs.unroll_all.Goals as goal

pub overflow_sub-parts : goal.overflow_sub-parts
overflow_sub-parts c = omega (arith, (sound _ _ c.requires.whole).some)

pub bounds-firsts-done : goal.bounds-firsts-done
bounds-firsts-done c = omega (arith, c.requires.for_firsts, (sound _ _ c.requires.whole).some)

pub loop-p-init : goal.loop-p-init
loop-p-init c = unrolling_start c.args.reflected (table_parts c.args.starts.now c.args.corners.now) c.args.done c.args.points.now c.args.firsts.now

pub unroll_part-requires : goal.unroll_part-requires
unroll_part-requires c = let ps = table_parts c.args.starts.now c.args.corners.now in
    let n = count_parts _ _ c.requires.whole in
    let k = c.loop-p.invariant in
    record {
      whole = c.requires.whole;
      ranged = c.requires.ranged;
      inside = c.loop-p-test.true;
      room = unrolling_room c.args.reflected ps c.args.done k (omega (arith, n, c.loop-p-test.true)) (omega (arith, n, count_corners _ _ c.requires.whole, c.requires.for_points, k.appended.points_size));
    }

pub returns-in_default : goal.returns-in_default
returns-in_default c = let ps = table_parts c.args.starts.now c.args.corners.now in
    some_leaves (unrolling_leaves c.args.reflected ps c.args.done c.loop-p.invariant (omega (arith, count_parts _ _ c.requires.whole, c.loop-p-test.true)) (c.unroll_part.ensures.leaves c.in_default.is))

pub put_start-requires : goal.put_start-requires
put_start-requires c = let n = count_parts _ _ c.requires.whole in
    let ps = table_parts c.args.starts.now c.args.corners.now in
    let k = c.loop-p.invariant in
    let t = c.loop-p-test.true in
    let u = c.unroll_part.ensures.to _ c.in-Some.is in (
      omega (arith, t, k.appended.starts_size, c.requires.for_firsts),
      omega (arith, unrolling_count c.args.reflected ps c.args.done k (omega (arith, n, t)) u, count_corners _ _ c.requires.whole, c.requires.for_points, c.requires.small, t),
    )

pub loop-p-preserved : goal.loop-p-preserved
loop-p-preserved c = let n = count_parts _ _ c.requires.whole in
    let ps = table_parts c.args.starts.now c.args.corners.now in
    let k = c.loop-p.invariant in
    let t = c.loop-p-test.true in
    let u = c.unroll_part.ensures.to _ c.in-Some.is in
    unrolling_turn c.args.reflected ps c.args.done k (omega (arith, n, t)) u (omega (arith, t, k.appended.starts_size, c.requires.for_firsts)) (rw (add_assoc c.args.done c.loop-p.p 1) at c.put_start.ensures)

pub returns : goal.returns
returns c = unrolling_end c.args.reflected (table_parts c.args.starts.now c.args.corners.now) c.args.done c.loop-p.invariant (omega (arith, count_parts _ _ c.requires.whole, c.loop-p-test.false))
