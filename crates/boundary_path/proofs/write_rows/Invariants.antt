-- `boundary_path::write_rows` meets its contract. Assumes nothing.
use mathlib.Core.Path.{◌∙◌, sym, ap, subst}
use Prim.Native.Nat.{◌-◌}
use native.Mathlib.Omega.{arith}
use borrow.Author.Rules.{rules}
use lib.Dec.{T}
use lib.ListN.{take}
use Rattle.corners.specs.Corners.{with_corner}
use Rattle.corners.proofs.Corners.{length_points}
use Rattle.path.specs.declared.PathItem.TheVariants.{Close}
use Rattle.path.specs.Path.{initial_point, is_on_grid, corner_of}
use Rattle.path.specs.Judging.{is_drawn}
use Rattle.path.proofs.Turns.{Writing, writing_begun, writing_now, writing_next, writing_done}
use Rattle.path.proofs.Writing.{every_at}
use Rattle.boundary_path.specs.Rows.{items_of}
use Rattle.boundary_path.proofs.Rows.{length_items, first_length, first_item}
use Rattle.boundary_path.proofs.write_rows.Given as goal

abbrev pub invariant-loop-i : goal.invariant-loop-i
invariant-loop-i l = Writing l.frame (take l.n (items_of l.rows)) initial_point l.initial.corners l.at l.i l.corners
