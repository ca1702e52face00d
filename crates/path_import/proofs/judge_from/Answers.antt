-- `path_import::judge_from` meets its contract: a turn and the end of `Judging`. Assumes nothing.
use mathlib.Core.Path.{refl}
use Rattle.path.proofs.Turns.{judging_next, judging_done}
use Rattle.path_import.proofs.judge_from.Goals as goal

pub loop-item-preserved : goal.loop-item-preserved
loop-item-preserved c = judging_next c.loop-item.invariant _ c.loop-item-test.true refl c.judge_item-judged.ensures

pub returns : goal.returns
returns c = judging_done c.loop-item.invariant c.loop-item-test.false
