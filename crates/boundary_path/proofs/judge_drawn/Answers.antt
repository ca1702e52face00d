-- `boundary_path::judge_drawn` meets its contract. Assumes nothing.
use mathlib.Core.Path.{◌≡◌, ◌∙◌, sym, ap, subst}
use mathlib.Core.Bool.{false}
use mathlib.Core.List.{[]}
use Prim.Native.Nat.{◌+◌, ◌-◌, ◌<◌, ◌≤◌}
use native.Mathlib.Omega.{arith}
use borrow.Author.Rules.{rules}
use borrow.Author.Tests.{not-true, not-false}
use lib.Dec.{eqb}
use lib.ListN.{length, get_or}
use Rattle.path.specs.declared.PathItem.TheVariants.{Close}
use Rattle.path.specs.Path.{closes}
use Rattle.path.proofs.Whole.{Drawing, drawing_begun, drawing_else, drawing_far, drawing_next, drawing_done, broken_whole, next_drawn}
use Rattle.boundary_path.specs.Rows.{item_of, items_of}
use Rattle.boundary_path.proofs.Rows.{length_items, row_item}
use Rattle.boundary_path.proofs.judge_drawn.Goals as goal

pub offset_bounds-rows-i : goal.offset_bounds-rows-i
offset_bounds-rows-i c = omega (arith, c.loop-i-test.true, c.requires.last, length_items c.args.rows.now)

pub bounds-rows-i : goal.bounds-rows-i
bounds-rows-i c = omega (arith, c.loop-i-test.true, c.requires.last, length_items c.args.rows.now)

pub returns-then-not-is_next : goal.returns-then-not-is_next
returns-then-not-is_next c = let rows = c.args.rows.now in
    let h : c.loop-i.i + 1 < length (items_of rows) = omega (arith, c.loop-i-test.true, c.requires.last) in
    c.broken.ensures
    ∙ broken_whole c.args.frame (items_of rows) (drawing_else c.loop-i.invariant Close h (row_item rows _ Close (omega (arith, h, length_items rows))) (sym c.is_next.ensures ∙ c.if-not-is_next.true))

pub returns-then-not-is_within : goal.returns-then-not-is_within
returns-then-not-is_within c = let rows = c.args.rows.now in
    let h : c.loop-i.i + 1 < length (items_of rows) = omega (arith, c.loop-i-test.true, c.requires.last) in
    c.broken-then-not-is_within.ensures
    ∙ broken_whole c.args.frame (items_of rows) (drawing_far c.loop-i.invariant Close h (row_item rows _ Close (omega (arith, h, length_items rows))) (sym c.is_next.ensures ∙ c.if-not-is_next.false)
    c.reach_row-at.ensures (sym c.is_within.ensures ∙ c.if-not-is_within.true))

pub loop-i-preserved : goal.loop-i-preserved
loop-i-preserved c = let rows = c.args.rows.now in
    let h : c.loop-i.i + 1 < length (items_of rows) = omega (arith, c.loop-i-test.true, c.requires.last) in
    drawing_next c.loop-i.invariant Close h (row_item rows _ Close (omega (arith, h, length_items rows))) (sym c.is_next.ensures ∙ c.if-not-is_next.false) c.reach_row-at.ensures
    (sym c.is_within.ensures ∙ c.if-not-is_within.false) c.off_so_far-off.ensures

pub returns : goal.returns
returns c = let is = items_of c.args.rows.now in
    let i = c.loop-i.i in
    let e : i ≡ c.args.n = omega (arith, c.loop-i-test.false) in
    c.closed.ensures
    ∙ drawing_done c.args.frame is c.loop-i.invariant Close (omega (arith, e, c.requires.behind)) (omega (arith, e, c.requires.last)) (ap (λ k. closes (get_or is k Close)) e ∙ c.requires.close)
