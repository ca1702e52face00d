-- `listing_areas::total_area` meets its contract. The loop's invariant: the areas added and those
-- of the parts left make the total. Assumes nothing.
use Rattle.std.proofs.Common.{◌≡◌, ℕ, ◌+◌, ◌^◌, ◌<◌, List, [], get_or, drop, ℤ, arith}
use Rattle.table.specs.Table.{table_parts, part_count}
use Rattle.table.proofs.Rules.{sound, count_parts}
use Rattle.listing.specs.Listing.{area_of, total_area}
use Rattle.listing_areas.specs.Areas.{Listable}
use Rattle.listing_areas.proofs.Totals.{totals_turn, totals_end}
use Rattle.listing_areas.proofs.total_area.Goals as goal

-- what is added and what is left are within the total
turn : {starts : List ℕ} {corners : List ℤ} {k : ℕ} (total : ℕ) {area : ℕ} → Listable starts corners → k < part_count starts → area ≡ area_of (get_or (table_parts starts corners) k [])
    → total + total_area (drop k (table_parts starts corners)) ≡ total_area (table_parts starts corners)
    → (total + area + total_area (drop (k + 1) (table_parts starts corners)) ≡ total_area (table_parts starts corners)) × (total + area < 2 ^ 63)
turn {starts = s} {corners = c} {k} total h l e p =
    let q = totals_turn (table_parts s c) k (omega (arith, count_parts s c h.whole, l)) in (omega (arith, q, e, p), omega (arith, q, e, p, h.below))

pub overflow_sub-parts : goal.overflow_sub-parts
overflow_sub-parts c = omega (arith, (sound _ _ c.requires.whole).some)

pub overflow_add-total : goal.overflow_add-total
overflow_add-total c = record { fits = omega (arith, (turn _ c.requires c.loop-k-test.true c.area_at-total.ensures c.loop-k.invariant).1) }

pub loop-k-preserved : goal.loop-k-preserved
loop-k-preserved c = (turn _ c.requires c.loop-k-test.true c.area_at-total.ensures c.loop-k.invariant).0

pub returns : goal.returns
returns c = omega (arith, c.loop-k.invariant, totals_end (table_parts c.args.starts.now c.args.corners.now) c.loop-k.k (omega (arith, c.loop-k-test.false, count_parts _ _ c.requires.whole)))
