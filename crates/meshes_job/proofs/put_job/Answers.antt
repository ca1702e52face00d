-- `meshes_job::put_job` meets its contract: the operation, then either operand. Assumes nothing.
use native.Mathlib.Omega.{arith}
use Rattle.meshes_job.proofs.Making.{right_room, end_small, job_put}
use borrow.Author.Rules.{rules}
use Rattle.meshes_job.proofs.put_job.Goals as goal

pub put_operand-end-requires : goal.put_operand-end-requires
put_operand-end-requires c = let a = c.args in
    right_room a.op a.left a.left_starts.now a.left_corners.now a.right a.right_starts.now a.right_corners.now a.out.now c.requires c.put_word.ensures c.put_operand-at.ensures

pub overflow_mul-result : goal.overflow_mul-result
overflow_mul-result c = let a = c.args in
    omega (arith, end_small a.op a.left a.left_starts.now a.left_corners.now a.right a.right_starts.now a.right_corners.now a.out.now c.requires c.put_word.ensures c.put_operand-at.ensures c.put_operand-end.ensures)

pub returns : goal.returns
returns c = let a = c.args in
    job_put a.op a.left a.left_starts.now a.left_corners.now a.right a.right_starts.now a.right_corners.now a.out.now c.requires c.put_word.ensures c.put_operand-at.ensures c.put_operand-end.ensures
