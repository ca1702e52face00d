-- `mesh_faults::too_large` meets its contract: the invariant is `Sum` of Areas. Assumes nothing.
use mathlib.Core.Path.{sym, ◌∙◌, ap, subst}
use Prim.Native.Nat.{◌+◌}
use native.Mathlib.Omega.{arith}
use borrow.Author.Rules.{rules}
use lib.IntN.{pos, ◌+ℤ◌}
use lib.Signed.{◌≤ℤ◌}
use mir.Syntax.{w64}
use mir.Val.{to_z}
use Rattle.integers.proofs.Bits.{kept, got}
use Rattle.mesh_sound.specs.Totals.{added_of}
use Rattle.mesh_sound.proofs.Totals.{total_of, past_of}
use Rattle.mesh_faults.proofs.Areas.{Sum, sum_start, sum_next, sum_past, sum_end, row_above}
use Rattle.mesh.proofs.Passes.{row_on_grid}
use Rattle.mesh_faults.proofs.too_large.Goals as goal

pub loop-row-init : goal.loop-row-init
loop-row-init c = sum_start c.args.mesh.now

pub area_of-requires : goal.area_of-requires
area_of-requires c = row_on_grid c.args.mesh.now (omega arith) c.requires.0

pub add_area-requires : goal.add_area-requires
add_area-requires c = let a = got w64 c.area_of.result c.area_of.type_inv ∙ c.area_of.ensures.0 in
    (c.loop-row.invariant.low, subst (λ z. pos 0 ≤ℤ z) (sym a) (row_above c.args.mesh.now c.requires.1 {k = c.loop-row.row-index} (omega arith)))

pub returns-in_default : goal.returns-in_default
returns-in_default c = let rows = c.args.mesh.now in
    let a = got w64 c.area_of.result c.area_of.type_inv ∙ c.area_of.ensures.0 in
    sum_past rows c.requires.1 (omega arith) c.loop-row.invariant (past_of (ap (λ z. added_of (to_z w64 c.loop-row.total-bits +ℤ z)) (sym a) ∙ sym c.add_area.ensures ∙ c.in_default.is))

pub loop-row-preserved : goal.loop-row-preserved
loop-row-preserved c = let rows = c.args.mesh.now in
    let a = got w64 c.area_of.result c.area_of.type_inv ∙ c.area_of.ensures.0 in
    let q = total_of c.in-Some.next (ap (λ z. added_of (to_z w64 c.loop-row.total-bits +ℤ z)) (sym a) ∙ sym c.add_area.ensures ∙ c.in-Some.is) in
    (subst (Sum rows (c.loop-row.row-index + 1)) (sym (kept {w = w64} {z = c.in-Some.next} (search rules) ∙ q.0)) (sum_next rows c.requires.1 (omega arith) c.loop-row.invariant q.1))

pub returns : goal.returns
returns c = sum_end c.args.mesh.now (omega arith) c.loop-row.invariant
