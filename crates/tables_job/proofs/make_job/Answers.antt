-- `tables_job::make_job` meets its contract: the fault first, then the operation and the two
-- operands, one after another. Assumes nothing.
use mathlib.Core.Path.{sym, ◌∙◌, ap}
use Prim.Native.Nat.{◌≤◌}
use native.Mathlib.Omega.{arith}
use borrow.Author.Rules.{rules}
use lib.ListN.{length}
use lib.Seq.{length-take-le}
use Rattle.tables_job.proofs.Making.{good, left_writable, right_writable, job_put, refused_job, made_job}
use Rattle.faults.specs.Told.{told}
use Rattle.faults.proofs.Numbers.{not_0}
use Rattle.tables_job.proofs.make_job.Goals as goal

pub table_size-right-requires : goal.table_size-right-requires
table_size-right-requires c = let g = good _ (sym c.tables_fault.ensures ∙ (ap told c.in_default.is)) in
    omega (arith, g.length_is)

pub slice_bounds-put_bytes-end : goal.slice_bounds-put_bytes-end
slice_bounds-put_bytes-end c = let g = good _ (sym c.tables_fault.ensures ∙ (ap told c.in_default.is)) in
    sym (length-take-le 4 c.args.bytes.now (omega (arith, g.length_is)))

pub put_operand-requires : goal.put_operand-requires
put_operand-requires c = let g = good _ (sym c.tables_fault.ensures ∙ (ap told c.in_default.is)) in
    left_writable _ g (search rules)

pub put_operand-size-requires : goal.put_operand-size-requires
put_operand-size-requires c = let g = good _ (sym c.tables_fault.ensures ∙ (ap told c.in_default.is)) in
    right_writable _ g c.table_size-right.ensures.size (search rules)

pub returns-in-Err : goal.returns-in-Err
returns-in-Err c =
    let p = refused_job c.args.bytes.now c.args.out.now (c.number.ensures ∙ ap told (sym c.in-Err.is) ∙ c.tables_fault.ensures) (not_0 c.in-Err.fault c.number.ensures) in
    record { told = p.0; bytes = p.1.0; counted = p.1.1 }

pub returns : goal.returns
returns c =
    let B = c.args.bytes.now in
    let z = sym c.tables_fault.ensures ∙ (ap told c.in_default.is) in
    let h : 147516 ≤ length c.args.out.now = search rules in
    let p = made_job B c.args.out.now z h (job_put B (good B z) c.table_size-right.ensures.size h c.put_bytes.ensures c.put_operand.ensures c.put_operand-size.ensures) in
    record { told = p.0; bytes = p.1.0; counted = p.1.1 }
