-- `convex_ring::ring_end` meets its contract. Assumes nothing.
use mathlib.Core.Path.{sym, ◌∙◌}
use Rattle.convex_ring.proofs.Reading.{around_below, around_back}
use Rattle.convex_ring.proofs.ring_end.Goals as goal

pub returns-then-pending-gt1 : goal.returns-then-pending-gt1
returns-then-pending-gt1 c = (c.point_at.ensures.0 ∙ sym (around_below c.requires c.if-pending-gt1.true), c.point_at.ensures.1)

pub returns-else-pending-gt1 : goal.returns-else-pending-gt1
returns-else-pending-gt1 c = (c.point_at-else-pending-gt1.ensures.0 ∙ sym (around_back c.requires c.if-pending-gt1.false), c.point_at-else-pending-gt1.ensures.1)
