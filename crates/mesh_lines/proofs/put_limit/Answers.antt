-- `mesh_lines::put_limit` meets its contract. Assumes nothing.
use Rattle.mesh_fields.proofs.Puts.{put_not}
use Rattle.mesh_lines.proofs.Steps.{limit_named, put_number_of, not_named}
use Rattle.mesh_lines.proofs.put_limit.Goals as goal

pub returns-then-is_word : goal.returns-then-is_word
returns-then-is_word c = limit_named c.args.line.now c.field-name.ensures c.is_word.ensures c.if-is_word.true
    (put_number_of c.field.ensures c.put_reading.ensures c.number_or_none.ensures)

pub returns-else-is_word : goal.returns-else-is_word
returns-else-is_word c = put_not c.if-is_word.false (not_named c.args.line.now c.field-name.ensures c.is_word.ensures c.if-is_word.false)
