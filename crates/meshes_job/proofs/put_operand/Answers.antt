-- `meshes_job::put_operand` meets its contract: bounds, counts, starts and numbers, one after
-- another. Assumes nothing.
use mathlib.Core.Path.{refl, ◌∙◌}
use native.Mathlib.Omega.{arith}
use Rattle.corners.proofs.Corners.{length_points}
use Rattle.meshes_job.proofs.Putting.{operand_put}
use borrow.Author.Rules.{rules}
use Rattle.meshes_job.proofs.put_operand.Goals as goal

pub overflow_cast-corner_count : goal.overflow_cast-corner_count
overflow_cast-corner_count c = omega (arith, c.corner_count.ensures, length_points c.args.corners.now, c.requires.few_numbers)

pub returns : goal.returns
returns c = let a = c.args in
    operand_put a.b a.starts.now a.corners.now a.k a.out.now c.requires refl (c.corner_count.ensures ∙ length_points a.corners.now)
    c.put_bounds.ensures c.put_word.ensures c.put_word-2.ensures c.write_words.ensures c.write_corners.ensures
