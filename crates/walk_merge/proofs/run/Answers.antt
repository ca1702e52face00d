-- `walk_merge::run` meets its contract. The loop's invariant: it will stop where the steps from s
-- do. Assumes nothing.
use mathlib.Core.Path.{sym, ◌∙◌}
use Rattle.walk_merge.proofs.Runs.{final_first}
use Rattle.walk_merge.proofs.run.Goals as goal

pub returns : goal.returns
returns c = sym c.in_default.ensures ∙ c.loop-next.invariant.1 ∙ final_first _ _ c.args.s
