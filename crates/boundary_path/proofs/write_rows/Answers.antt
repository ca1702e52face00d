-- `boundary_path::write_rows` meets its contract. Assumes nothing.
use mathlib.Core.Path.{◌∙◌, sym, ap, subst}
use Prim.Native.Nat.{◌-◌}
use native.Mathlib.Omega.{arith}
use borrow.Author.Rules.{rules}
use lib.Dec.{T}
use lib.ListN.{take}
use Rattle.corners.specs.Corners.{with_corner}
use Rattle.corners.proofs.Corners.{length_points}
use Rattle.path.specs.declared.PathItem.TheVariants.{Close}
use Rattle.path.specs.Path.{initial_point, is_on_grid, corner_of}
use Rattle.path.specs.Judging.{is_drawn}
use Rattle.path.proofs.Turns.{Writing, writing_begun, writing_now, writing_next, writing_done}
use Rattle.path.proofs.Writing.{every_at}
use Rattle.boundary_path.specs.Rows.{items_of}
use Rattle.boundary_path.proofs.Rows.{length_items, first_length, first_item}
use Rattle.boundary_path.proofs.write_rows.Goals as goal

pub offset_bounds-rows-i : goal.offset_bounds-rows-i
offset_bounds-rows-i c = omega (arith, c.loop-i-test.true, c.requires.0.items, length_items c.args.rows.now)

pub bounds-rows-i : goal.bounds-rows-i
bounds-rows-i c = omega (arith, c.loop-i-test.true, c.requires.0.items, length_items c.args.rows.now)

pub reach_row-at-requires : goal.reach_row-at-requires
reach_row-at-requires c = let h = c.loop-i-test.true in
    let rows = c.args.rows.now in
    let i = c.loop-i.i in
    let n = c.args.n in
    subst (λ x. T (is_drawn x)) (sym (first_item rows c.requires.0.items Close h)) (every_at is_drawn (take n (items_of rows)) i Close (omega (arith, h, first_length rows c.requires.0.items)) c.requires.1)

pub write_corner-requires : goal.write_corner-requires
write_corner-requires c = let h = c.loop-i-test.true in
    let rows = c.args.rows.now in
    let J = c.loop-i.invariant in
    let n = c.args.n in (
      subst (λ p. T (is_on_grid c.args.frame p)) (sym c.reach_row-at.ensures) (writing_now J Close (omega (arith, h, first_length rows c.requires.0.items)) (first_item rows c.requires.0.items Close h)),
      omega (arith, h, c.requires.0.room, J.long, length_points c.args.corners.now, length_points c.loop-i.corners),
    )

pub loop-i-preserved : goal.loop-i-preserved
loop-i-preserved c = let h = c.loop-i-test.true in
    let rows = c.args.rows.now in
    let n = c.args.n in
    writing_next c.loop-i.invariant Close (omega (arith, h, first_length rows c.requires.0.items)) (first_item rows c.requires.0.items Close h) c.reach_row-at.ensures
    (c.write_corner.ensures ∙ ap (λ p. with_corner c.loop-i.corners c.loop-i.i (corner_of c.args.frame p)) c.reach_row-at.ensures)

pub returns : goal.returns
returns c = let h = c.loop-i-test.false in
    writing_done c.loop-i.invariant (omega (arith, h, first_length c.args.rows.now c.requires.0.items))
