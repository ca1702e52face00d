-- `mesh_operand::take_operand` meets its contract: a file's refusal, or its parts and its bounds.
-- Assumes nothing.
use mathlib.Core.Path.{sym, ◌∙◌}
use Rattle.file_parts.proofs.Files.{fault_is}
use Rattle.mesh_operand.proofs.Taking.{taken_refused, taken_held}
use borrow.Author.Rules.{rules}
use Rattle.mesh_operand.proofs.take_operand.Goals as goal

pub returns : goal.returns
returns c = let e = c.split_file-told.ensures in taken_held _ _ (e.counts, (e.starts, (e.corners, e.within))) c.if-told-ne0.false c.file_bounds.ensures
