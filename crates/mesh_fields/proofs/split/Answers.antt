-- `mesh_fields::split` meets its contract: the words in turn. Assumes nothing.
use Rattle.mesh_fields.proofs.Tests.{ear, fan, centroid, no_split}
use Rattle.mesh_fields.proofs.split.Goals as goal

pub returns-then-is_word : goal.returns-then-is_word
returns-then-is_word c = ear c.args.entry.now c.is_word.ensures c.if-is_word.true

pub returns-then-is_word-2 : goal.returns-then-is_word-2
returns-then-is_word-2 c = fan c.args.entry.now c.is_word.ensures c.if-is_word.false c.is_word-else-is_word.ensures c.if-is_word-2.true

pub returns-then-is_word-3 : goal.returns-then-is_word-3
returns-then-is_word-3 c = centroid c.args.entry.now c.is_word.ensures c.if-is_word.false c.is_word-else-is_word.ensures c.if-is_word-2.false
    c.is_word-else-is_word-2.ensures c.if-is_word-3.true

pub returns-else-is_word-3 : goal.returns-else-is_word-3
returns-else-is_word-3 c = no_split c.args.entry.now c.is_word.ensures c.if-is_word.false c.is_word-else-is_word.ensures c.if-is_word-2.false
    c.is_word-else-is_word-2.ensures c.if-is_word-3.false
