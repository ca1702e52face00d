-- `boundary_path::judge_drawn` meets its contract. Assumes nothing.
use mathlib.Core.Path.{◌≡◌, ◌∙◌, sym, ap, subst}
use mathlib.Core.Bool.{false}
use mathlib.Core.List.{[]}
use Prim.Native.Nat.{◌+◌, ◌-◌, ◌<◌, ◌≤◌}
use native.Mathlib.Omega.{arith}
use borrow.Author.Rules.{rules}
use borrow.Author.Tests.{not-true, not-false}
use lib.Dec.{eqb}
use lib.ListN.{length, get_or}
use Rattle.path.specs.declared.PathItem.TheVariants.{Close}
use Rattle.path.specs.Path.{closes}
use Rattle.path.proofs.Whole.{Drawing, drawing_begun, drawing_else, drawing_far, drawing_next, drawing_done, broken_whole, next_drawn}
use Rattle.boundary_path.specs.Rows.{item_of, items_of}
use Rattle.boundary_path.proofs.Rows.{length_items, row_item}
use Rattle.boundary_path.proofs.judge_drawn.Given as goal

abbrev pub invariant-loop-i : goal.invariant-loop-i
invariant-loop-i l = Drawing l.frame (items_of l.rows) l.at l.off l.i
