-- `walk_read::misplaced` meets its contract: the code's tests are the definition's. Assumes
-- nothing.
use mathlib.Core.Path.{◌≡◌}
use mathlib.Core.Bool.{true, false}
use Prim.Native.Nat.{ℕ, ◌≤◌, ◌<◌}
use borrow.Author.Tests.{le-leb, lt-leb}
use lib.Dec.{leb}
use Rattle.pair.specs.declared.Place.{Place}
use Rattle.walk.specs.Calls.{misplaced}
use Rattle.walk_read.proofs.misplaced.Goals as goal

module _ {n : ℕ} (w : Place) where
  by_place : n ≤ w.index → leb n w.index ≡ misplaced n w
  unfolding misplaced
  by_place h = rw (le-leb n w.index h)

  module _ (h : w.index < n) where
    by_start : w.segment ≡ true → n ≤ w.start → leb n w.start ≡ misplaced n w
    unfolding misplaced
    by_start s k = rw (lt-leb n w.index h, s, le-leb n w.start k)

    by_end : w.segment ≡ true → w.start < n → leb n w.end ≡ misplaced n w
    unfolding misplaced
    by_end s k = rw (lt-leb n w.index h, s, lt-leb n w.start k)

    off_segment : w.segment ≡ false → w.segment ≡ misplaced n w
    unfolding misplaced
    off_segment s = rw (lt-leb n w.index h, s)

pub returns-then-w-n : goal.returns-then-w-n
returns-then-w-n c = by_place _ c.if-w-n.true

pub returns-then-w-n-2 : goal.returns-then-w-n-2
returns-then-w-n-2 c = by_start _ c.if-w-n.false c.if-w.true c.if-w-n-2.true

pub returns-else-w-n-2 : goal.returns-else-w-n-2
returns-else-w-n-2 c = by_end _ c.if-w-n.false c.if-w.true c.if-w-n-2.false

pub returns-else-w : goal.returns-else-w
returns-else-w c = off_segment _ c.if-w-n.false c.if-w.false
