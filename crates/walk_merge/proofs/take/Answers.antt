-- `walk_merge::take` meets its contract: a direction once set stays, and a zero edge sets none.
-- Assumes nothing.
use mathlib.Core.Path.{sym, ◌∙◌}
use Rattle.walk_merge.proofs.Runs.{took_headed, took_zero, took_fresh}
use Rattle.walk_merge.proofs.take.Goals as goal

pub returns-in-Some : goal.returns-in-Some
returns-in-Some c = took_headed c.in-Some.is c.requires.0

pub returns-in-None : goal.returns-in-None
returns-in-None c = took_zero c.in-None.is (sym c.is_zero.ensures ∙ c.if-is_zero.true)

pub returns-in-None-2 : goal.returns-in-None-2
returns-in-None-2 c = took_fresh c.in-None-2.is (sym c.is_zero.ensures ∙ c.if-is_zero.false) c.requires.1
