-- `boundary_path::judge_rows` meets its contract. Assumes nothing.
use mathlib.Core.Path.{◌≡◌, ◌∙◌, ap}
use Prim.Native.Nat.{◌-◌}
use native.Mathlib.Omega.{arith}
use borrow.Author.Rules.{rules}
use borrow.Author.Tests.{eq-eqb, ne_eqb}
use lib.ListN.{length, get_or}
use Rattle.path.specs.declared.PathItem.TheVariants.{Close}
use Rattle.path.specs.Path.{closes}
use Rattle.path.proofs.Whole.{short_whole, open_whole}
use Rattle.boundary_path.specs.Rows.{items_of}
use Rattle.boundary_path.proofs.Rows.{length_items, closes_at}
use Rattle.boundary_path.proofs.judge_rows.Goals as goal

pub returns-then-items-lt2 : goal.returns-then-items-lt2
returns-then-items-lt2 c = let rows = c.args.rows.now in
    c.broken.ensures ∙ short_whole c.args.frame (items_of rows) (omega (arith, c.if-items-lt2.true, length_items rows))

pub returns-then-last-ne-CLOSE : goal.returns-then-last-ne-CLOSE
returns-then-last-ne-CLOSE c = let rows = c.args.rows.now in
    let h = c.if-items-lt2.false in
    let n : length (items_of rows) ≡ length rows = length_items rows in
    c.broken-then-last-ne-CLOSE.ensures
    ∙ open_whole c.args.frame (items_of rows) Close (omega (arith, h, n)) (ap (λ m. closes (get_or (items_of rows) (m - 1) Close)) n ∙ closes_at rows (omega (arith, h)) ∙ ne_eqb _ 5 c.if-last-ne-CLOSE.true)

pub judge_drawn-requires : goal.judge_drawn-requires
judge_drawn-requires c = let rows = c.args.rows.now in
    let h = c.if-items-lt2.false in
    record {
      behind = omega (arith, h);
      last = omega (arith, h, length_items rows);
      close = closes_at rows (omega (arith, h)) ∙ eq-eqb _ 5 c.if-last-ne-CLOSE.false;
    }
