-- `mesh_pair::take_two` meets its contract: the left file's refusal, or what is told of both.
-- Assumes nothing.
use mathlib.Core.Path.{◌∙◌}
use Rattle.mesh_pair.proofs.Files.{taken_as, left_refused, both_taken, rest_of}
use Rattle.mesh_pair.proofs.take_two.Goals as goal

pub returns-then-left-ne0 : goal.returns-then-left-ne0
returns-then-left-ne0 c = left_refused (taken_as c.left_end-at.ensures.left c.take_operand-left.ensures) c.if-left-ne0.true _ _

pub returns : goal.returns
returns c = let k = c.left_end-at in
    both_taken (taken_as k.ensures.left c.take_operand-left.ensures) c.if-left-ne0.false
    (taken_as (rest_of c.args.bytes.now k.result ∙ k.ensures.right) c.take_operand-right.ensures)
