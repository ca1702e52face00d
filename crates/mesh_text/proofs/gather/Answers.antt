-- `mesh_text::gather` meets its contract. The loop's invariant: `Going` of Gatherings. Assumes
-- nothing.
use Rattle.mesh_text.proofs.Gatherings.{going_on, going_wrong, no_first_line, all_gathered}
use Rattle.mesh_text.proofs.gather.Goals as goal

pub loop-at-preserved : goal.loop-at-preserved
loop-at-preserved c = going_on c.loop-at.invariant c.loop-at-test.true c.run_end-end.ensures.0 c.run_end-end.ensures.2 c.take_line-step.ensures c.if-step.true

pub returns-else-step : goal.returns-else-step
returns-else-step c = going_wrong c.loop-at.invariant c.loop-at-test.true c.run_end-end.ensures.0 c.run_end-end.ensures.2 c.take_line-step.ensures c.if-step.false

pub returns-then-count-eq0 : goal.returns-then-count-eq0
returns-then-count-eq0 c = no_first_line c.loop-at.invariant c.loop-at-test.false c.if-count-eq0.true

pub returns : goal.returns
returns c = all_gathered c.loop-at.invariant c.loop-at-test.false c.if-count-eq0.false
