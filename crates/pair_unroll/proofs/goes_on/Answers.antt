-- `pair_unroll::goes_on` meets its contract: `goes_few`, `goes_some` of Buffered. Assumes nothing.
use mathlib.Core.Path.{◌∙◌, ap₂}
use native.Mathlib.Omega.{arith}
use borrow.Author.Tests.{lt-leb}
use Rattle.plane.specs.Machine.{point}
use Rattle.pair_unroll.specs.Unroll.{straight_on}
use Rattle.pair_unroll.proofs.Buffered.{goes_few, goes_some}
use Rattle.pair_unroll.proofs.goes_on.Goals as goal

pub returns-else-count-from-ge2 : goal.returns-else-count-from-ge2
returns-else-count-from-ge2 c = let a = c.args in lt-leb _ _ c.if-count-from-ge2.false ∙ goes_few (point a.r) a.from a.points.now a.count c.if-count-from-ge2.false

pub returns-then-count-from-ge2 : goal.returns-then-count-from-ge2
returns-then-count-from-ge2 c = let a = c.args in
    c.straight_on.ensures ∙ ap₂ (λ p q. straight_on p q (point a.r)) c.point_at.ensures c.point_at-then-count-from-ge2.ensures
    ∙ goes_some (point a.r) a.from a.points.now a.count (omega (arith, c.if-count-from-ge2.true))
