-- `placement::placement` meets its contract: refused by its fault, or where the place lies. Assumes
-- nothing.
use mathlib.Core.Path.{sym, ◌∙◌, ap}
use Rattle.integers.proofs.Bits.{kept}
use Rattle.plane.proofs.Size.{on_grid_both}
use Rattle.table.specs.Table.{table_parts}
use Rattle.placement.specs.declared.Placed.TheVariants.{At}
use Rattle.placement.specs.Placement.{place_fault, contact_by}
use Rattle.placement.proofs.Faults.{accepted}
use Rattle.placement.proofs.Contours.{made, told_refused, told_at}
use Rattle.placement.proofs.placement.Goals as goal

pub returns-then-fault-ne0 : goal.returns-then-fault-ne0
returns-then-fault-ne0 c = let z = made (kept c.ranges.x) (kept c.ranges.y) in
    told_refused c.args.starts.now c.args.corners.now _ (c.place_fault-fault.ensures ∙ ap (place_fault c.args.starts.now c.args.corners.now) z) c.if-fault-ne0.true

pub placed_by-requires : goal.placed_by-requires
placed_by-requires c = let a = accepted _ _ _ (sym c.place_fault-fault.ensures ∙ c.if-fault-ne0.false) in
    let g = on_grid_both _ a.1 in
    (a.0, record { x_small = g.0; y_small = g.1 })

pub returns : goal.returns
returns c = let z = made (kept c.ranges.x) (kept c.ranges.y) in
    let ps = table_parts c.args.starts.now c.args.corners.now in
    ap At (c.placed_by.ensures ∙ ap (λ p. contact_by p ps) z)
    ∙ told_at c.args.starts.now c.args.corners.now _ (c.place_fault-fault.ensures ∙ ap (place_fault c.args.starts.now c.args.corners.now) z) c.if-fault-ne0.false
