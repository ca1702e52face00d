-- `listing_lines::put_listing` meets its contract. The loop's invariant: after the first line, the
-- lines of the parts before k are put. Assumes nothing.
use native.Mathlib.Omega.{arith}
use Rattle.table.specs.Table.{table_parts}
use Rattle.table.proofs.Rules.{sound, count_parts}
use Rattle.listing_lines.proofs.Putting.{putting_room, putting_step}
use Rattle.listing_lines.proofs.Lines.{lines_start, lines_next, lines_done, listing_put, head-fits}
use Rattle.listing_lines.proofs.put_listing.Goals as goal

pub overflow_sub-parts : goal.overflow_sub-parts
overflow_sub-parts c = omega (arith, (sound _ _ c.requires.0.whole).some)

pub put_head-at-requires : goal.put_head-at-requires
put_head-at-requires c = let t = c.total_area-total.ensures in
    record { whole = c.requires.0.whole; sum = t; room = head-fits (table_parts c.args.starts.now c.args.corners.now) c.args.out.now t c.requires.1 }

pub loop-k-init : goal.loop-k-init
loop-k-init c = lines_start (table_parts c.args.starts.now c.args.corners.now) c.args.out.now c.total_area-total.ensures c.requires.1 c.put_head-at.ensures

pub put_line-at-requires : goal.put_line-at-requires
put_line-at-requires c = let ps = table_parts c.args.starts.now c.args.corners.now in
    record {
      listable = c.requires.0;
      inside = omega (arith, c.loop-k-test.true);
      sum = c.total_area-total.ensures;
      room = putting_room (lines_next _ ps c.loop-k.invariant (omega (arith, c.loop-k-test.true, count_parts _ _ c.requires.0.whole)));
    }

pub loop-k-preserved : goal.loop-k-preserved
loop-k-preserved c = let ps = table_parts c.args.starts.now c.args.corners.now in
    putting_step (lines_next _ ps c.loop-k.invariant (omega (arith, c.loop-k-test.true, count_parts _ _ c.requires.0.whole))) c.put_line-at.ensures

pub returns : goal.returns
returns c = let ps = table_parts c.args.starts.now c.args.corners.now in
    listing_put ps c.args.out.now c.total_area-total.ensures c.requires.1 c.put_head-at.ensures (lines_done _ ps c.loop-k.invariant (omega (arith, c.loop-k-test.false, count_parts _ _ c.requires.0.whole)))
