-- `mesh_sound::all_sound` meets its contract: the invariant is `Going` of Passes. Assumes nothing.
use mathlib.Core.Path.{sym, ◌∙◌, ap, subst}
use Prim.Native.Nat.{◌+◌}
use native.Mathlib.Omega.{arith}
use borrow.Author.Rules.{rules}
use lib.IntN.{pos, ◌+ℤ◌}
use lib.Signed.{◌≤ℤ◌}
use mir.Syntax.{w64}
use mir.Val.{to_z}
use Rattle.integers.proofs.Bits.{kept, got}
use Rattle.mesh_sound.specs.Totals.{added_of}
use Rattle.mesh_sound.proofs.Totals.{total_of, past_of}
use Rattle.mesh_sound.proofs.Passes.{Going, going_row, going_past, going_next, going_end, row_on, row_above}
use Rattle.mesh_sound.proofs.all_sound.Goals as goal

pub returns-then-not-row_sound : goal.returns-then-not-row_sound
returns-then-not-row_sound c = going_row c.args.mesh.now c.loop-row.row-index (omega arith) c.loop-row.invariant (sym c.row_sound.ensures ∙ c.if-not-row_sound.true)

pub area_of-requires : goal.area_of-requires
area_of-requires c = row_on c.args.mesh.now c.loop-row.row-index (omega arith) (sym c.row_sound.ensures ∙ c.if-not-row_sound.false)

pub add_area-requires : goal.add_area-requires
add_area-requires c =
    let a = got w64 c.area_of.result c.area_of.type_inv ∙ c.area_of.ensures.0 in
    (c.loop-row.invariant.low, subst (λ z. pos 0 ≤ℤ z) (sym a) (row_above c.args.mesh.now c.loop-row.row-index (omega arith) (sym c.row_sound.ensures ∙ c.if-not-row_sound.false)))

pub returns-in_default : goal.returns-in_default
returns-in_default c =
    let a = got w64 c.area_of.result c.area_of.type_inv ∙ c.area_of.ensures.0 in
    going_past c.args.mesh.now c.loop-row.row-index (omega arith) c.loop-row.invariant (sym c.row_sound.ensures ∙ c.if-not-row_sound.false) (past_of (ap (λ z. added_of (to_z w64 c.loop-row.total-bits +ℤ z)) (sym a) ∙ sym c.add_area.ensures ∙ c.in_default.is))

pub loop-row-preserved : goal.loop-row-preserved
loop-row-preserved c =
    let rows = c.args.mesh.now in
    let a = got w64 c.area_of.result c.area_of.type_inv ∙ c.area_of.ensures.0 in
    let q = total_of c.in-Some.next (ap (λ z. added_of (to_z w64 c.loop-row.total-bits +ℤ z)) (sym a) ∙ sym c.add_area.ensures ∙ c.in-Some.is) in
    (subst (Going rows (c.loop-row.row-index + 1)) (sym (kept {w = w64} {z = c.in-Some.next} (search rules) ∙ q.0)) (going_next rows c.loop-row.row-index (omega arith) c.loop-row.invariant (sym c.row_sound.ensures ∙ c.if-not-row_sound.false) q.1))

pub returns : goal.returns
returns c = going_end c.args.mesh.now (omega arith) c.loop-row.invariant
