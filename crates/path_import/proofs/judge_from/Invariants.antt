-- `path_import::judge_from` meets its contract: the invariant is `Judging` of path's Turns. Assumes
-- nothing.
use Rattle.path.proofs.Turns.{Judging}
use Rattle.path_import.proofs.judge_from.Given as goal

abbrev pub invariant-loop-item : goal.invariant-loop-item
invariant-loop-item l = Judging l.frame l.path l.fn.start l.judged l.item-index
