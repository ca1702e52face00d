-- `fields::field_start` meets its contract. The loop's invariant: after n turns field n begins at
-- i. Assumes nothing.
use Rattle.fields.proofs.Places.{first_place, next_place}
use Rattle.fields.proofs.field_start.Goals as goal

pub loop-init : goal.loop-init
loop-init c = (first_place c.args.line.now c.run_end-i.ensures.0, c.run_end-i.ensures.2)

pub loop-preserved : goal.loop-preserved
loop-preserved c = (next_place c.args.line.now c.loop.i c.loop.counter c.loop.invariant.0 c.run_end-end.ensures.0 c.run_end-i-in-loop.ensures.0, c.run_end-i-in-loop.ensures.2)
