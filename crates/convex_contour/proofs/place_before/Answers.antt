-- `convex_contour::place_before` meets its contract: the test of `place_before`. Assumes nothing.
use borrow.Author.Tests.{lt-ltb, le-ltb}
use Rattle.convex_contour.specs.Contour.{place_before}
use Rattle.convex_contour.proofs.place_before.Goals as goal

pub returns-then-place-done : goal.returns-then-place-done
unfolding place_before
returns-then-place-done c = rw (lt-ltb _ _ c.if-place-done.true)

pub returns-else-place-done : goal.returns-else-place-done
unfolding place_before
returns-else-place-done c = rw (le-ltb _ _ c.if-place-done.false)
