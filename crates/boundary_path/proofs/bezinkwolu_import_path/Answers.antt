-- `boundary_path::bezinkwolu_import_path` meets its contract. Assumes nothing.
use mathlib.Core.Path.{sym}
use lib.ListN.{length}
use Rattle.path.proofs.Judging.{told_whole}
use Rattle.path.proofs.Writing.{may_write, may_draw, left_is}
use Rattle.boundary_path.specs.Rows.{items_of}
use Rattle.boundary_path.proofs.Rows.{length_items}
use borrow.Author.Rules.{rules}
use Rattle.boundary_path.proofs.bezinkwolu_import_path.Goals as goal

pub write_rows-requires : goal.write_rows-requires
write_rows-requires c = let a = c.args in
    let is = items_of a.path.now in
    let e = told_whole a.frame is (length a.corners.now) c.judge_rows-judged.ensures (sym (length_items a.path.now)) c.told-counts.ensures in
    (may_write a.frame is a.corners.now e c.corners_told-n.ensures, may_draw a.frame is a.corners.now e c.corners_told-n.ensures)

pub returns-clause-told : goal.returns-clause-told
returns-clause-told c = let a = c.args in
    let is = items_of a.path.now in
    let e = told_whole a.frame is (length a.corners.now) c.judge_rows-judged.ensures (sym (length_items a.path.now)) c.told-counts.ensures in
    e

pub returns-clause-corners : goal.returns-clause-corners
returns-clause-corners c = let a = c.args in
    let is = items_of a.path.now in
    let e = told_whole a.frame is (length a.corners.now) c.judge_rows-judged.ensures (sym (length_items a.path.now)) c.told-counts.ensures in
    left_is a.frame is a.corners.now e c.corners_told-n.ensures c.write_rows.ensures
