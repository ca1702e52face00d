-- `tables_job::extreme` meets its contract. The loop's invariant: the word is the extreme one of
-- the first k. Assumes nothing.
use native.Mathlib.Omega.{arith}
use Rattle.tables_job.proofs.Extremes.{extreme_none, extreme_first, extreme_more}
use Rattle.tables_job.proofs.extreme.Goals as goal

pub returns-then-count-eq0 : goal.returns-then-count-eq0
returns-then-count-eq0 c = extreme_none _ _ _ c.if-count-eq0.true

pub loop-k-init : goal.loop-k-init
loop-k-init c = extreme_first _ _ _ c.word_at-word.ensures

pub loop-k-preserved : goal.loop-k-preserved
loop-k-preserved c = extreme_more c.args.greatest c.args.bytes.now c.args.from c.loop-k.k (omega arith) c.loop-k.invariant c.word_at.ensures c.picked-word.ensures
