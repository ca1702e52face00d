-- `mesh_fields::number_or_none` meets its contract. Assumes nothing.
use mathlib.Core.Path.{◌∙◌}
use Rattle.mesh_fields.proofs.Tests.{no_number, numbered}
use Rattle.mesh_fields.proofs.number_or_none.Goals as goal

pub returns-then-is_word : goal.returns-then-is_word
returns-then-is_word c = no_number c.args.entry.now c.is_word.ensures c.if-is_word.true

pub returns-else-is_word : goal.returns-else-is_word
returns-else-is_word c = c.number.ensures ∙ numbered c.args.entry.now c.is_word.ensures c.if-is_word.false
