-- `meshes_job::operation_fault` meets its contract: test by test. Assumes nothing.
use mathlib.Core.Path.{sym, ◌∙◌}
use native.Mathlib.Omega.{arith}
use borrow.Author.Rules.{rules}
use Rattle.meshes_job.proofs.Putting.{too_short, no_operation, some_operation}
use Rattle.meshes_job.proofs.operation_fault.Goals as goal

pub returns-then-bytes-lt-WORD : goal.returns-then-bytes-lt-WORD
returns-then-bytes-lt-WORD c = too_short c.args.bytes.now c.if-bytes-lt-WORD.true

pub returns-then-word_at-gt-DIFFERENCE : goal.returns-then-word_at-gt-DIFFERENCE
returns-then-word_at-gt-DIFFERENCE c = no_operation c.args.bytes.now c.if-bytes-lt-WORD.false c.word_at.ensures c.if-word_at-gt-DIFFERENCE.true

pub returns : goal.returns
returns c = some_operation c.args.bytes.now c.if-bytes-lt-WORD.false c.word_at.ensures c.if-word_at-gt-DIFFERENCE.false
