-- `walk_read::length_broken` meets its contract: the code's tests are the definition's. Assumes
-- nothing.
use mathlib.Core.Path.{◌≡◌, sym, ◌∙◌}
use mathlib.Core.Bool.{true, false}
use mathlib.Core.List.{List}
use Prim.Native.Nat.{ℕ}
use lib.Dec.{ltb}
use lib.IntN.{ℤ}
use lib.ListN.{length}
use Rattle.corners.specs.Corners.{points_of, ragged}
use Rattle.corners.proofs.Corners.{length_points, is_ragged, not_ragged}
use Rattle.walk.specs.Calls.{length_broken}
use Rattle.table.specs.Table.{max_contour}
use Rattle.walk_read.proofs.length_broken.Goals as goal

module _ (l : List ℤ) where
  odd : ragged l ≡ true → true ≡ length_broken l
  unfolding length_broken
  odd h = rw (is_ragged l h)

  even : ragged l ≡ false → {n : ℕ} → n ≡ length (points_of l) → ltb max_contour n ≡ length_broken l
  unfolding length_broken
  even h e = rw (not_ragged l h, ← length_points l, ← e)

pub returns-then-ragged : goal.returns-then-ragged
returns-then-ragged c = c.if-ragged.true ∙ odd _ (sym c.ragged.ensures ∙ c.if-ragged.true)

pub returns-else-ragged : goal.returns-else-ragged
returns-else-ragged c = even _ (sym c.ragged.ensures ∙ c.if-ragged.false) c.corner_count.ensures
