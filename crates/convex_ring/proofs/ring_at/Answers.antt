-- `convex_ring::ring_at` meets its contract. Assumes nothing.
use mathlib.Core.Path.{sym, ◌∙◌}
use Rattle.convex_ring.proofs.Reading.{around_near, around_far}
use Rattle.convex_ring.proofs.ring_at.Goals as goal

pub returns-then-done-i : goal.returns-then-done-i
returns-then-done-i c = (c.point_at.ensures.0 ∙ sym (around_near c.requires.0 c.args.i c.if-done-i.true), c.point_at.ensures.1)

pub returns-else-done-i : goal.returns-else-done-i
returns-else-done-i c = (c.point_at-else-done-i.ensures.0 ∙ sym (around_far c.requires.0 c.requires.1 c.if-done-i.false), c.point_at-else-done-i.ensures.1)
