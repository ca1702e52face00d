-- `tables_job::put_operand` meets its contract: the bounds, and the table behind them. Assumes
-- nothing.
use Rattle.tables_job.proofs.Operands.{operand_put}
use Rattle.tables_job.proofs.put_operand.Goals as goal

pub returns : goal.returns
returns c = operand_put c.requires c.word_at-parts.ensures c.word_at-count.ensures c.put_bounds.ensures c.put_bytes.ensures
