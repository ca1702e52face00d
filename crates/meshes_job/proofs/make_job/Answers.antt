-- `meshes_job::make_job` meets its contract: a refusal of the operation or of a file, or the job of
-- both files. Assumes nothing.
use mathlib.Core.Path.{sym, ◌∙◌}
use Prim.Native.Nat.{◌≤◌}
use native.Mathlib.Omega.{arith}
use lib.ListN.{length}
use lib.Seq.{length-take-le}
use Rattle.corners.proofs.Corners.{whole_corners}
use Rattle.meshes_job.proofs.Making.{enough, operation_refused, rest_taken, files_refused, few_left_parts, few_right_parts, job_room, job_answered}
use borrow.Author.Rules.{rules}
use Rattle.meshes_job.proofs.make_job.Goals as goal

pub returns-then-fault-ne0 : goal.returns-then-fault-ne0
returns-then-fault-ne0 c = let p = operation_refused c.args.bytes.now c.args.out.now c.operation_fault-fault.ensures c.if-fault-ne0.true in
    record { told = p.0; bytes = p.1.0; counted = p.1.1 }

pub slice_bounds-take_two-count : goal.slice_bounds-take_two-count
slice_bounds-take_two-count c = enough c.args.bytes.now (sym c.operation_fault-fault.ensures ∙ c.if-fault-ne0.false)

pub slice_bounds-take_two-start : goal.slice_bounds-take_two-start
slice_bounds-take_two-start c = enough c.args.bytes.now (sym c.operation_fault-fault.ensures ∙ c.if-fault-ne0.false)

pub returns-then-two-ne0 : goal.returns-then-two-ne0
returns-then-two-ne0 c = let p = files_refused c.args.bytes.now (sym c.operation_fault-fault.ensures ∙ c.if-fault-ne0.false) (rest_taken c.args.bytes.now c.take_two-two.ensures) c.args.out.now c.if-two-ne0.true in
    record { told = p.0; bytes = p.1.0; counted = p.1.1 }

pub word_at-op-requires : goal.word_at-op-requires
word_at-op-requires c = enough c.args.bytes.now (sym c.operation_fault-fault.ensures ∙ c.if-fault-ne0.false)

pub front-requires : goal.front-requires
front-requires c = whole_corners _ _ ((rest_taken c.args.bytes.now c.take_two-two.ensures).left_held c.if-two-ne0.false).corners_in

pub front-requires-2 : goal.front-requires-2
front-requires-2 c = whole_corners _ _ ((rest_taken c.args.bytes.now c.take_two-two.ensures).right_held c.if-two-ne0.false).corners_in

pub returns : goal.returns
returns c = let h : 114748 ≤ length c.args.out.now = search rules in
    let p = job_answered c.args.bytes.now (sym c.operation_fault-fault.ensures ∙ c.if-fault-ne0.false) (rest_taken c.args.bytes.now c.take_two-two.ensures) c.if-two-ne0.false c.front.ensures c.front-2.ensures h c.word_at-op.ensures c.put_job-size.ensures in
    record { told = p.0; bytes = p.1.0; counted = p.1.1 }
