-- `table::result_broken` meets its contract: the code's tests are the definition's. Assumes
-- nothing.
use mathlib.Core.Path.{◌≡◌, sym, ◌∙◌}
use mathlib.Core.Bool.{Bool, true, false}
use mathlib.Core.List.{List}
use Prim.Native.Nat.{ℕ}
use lib.IntN.{ℤ}
use lib.ListN.{length}
use Rattle.corners.specs.Corners.{points_of, ragged}
use Rattle.corners.proofs.Corners.{length_points, is_ragged, not_ragged}
use Rattle.table.specs.Table.{starts_broken, result_broken}
use Rattle.table.proofs.result_broken.Goals as goal

module _ (s : List ℕ) (c : List ℤ) where
  odd : ragged c ≡ true → true ≡ result_broken s c
  unfolding result_broken
  odd h = rw (is_ragged c h)

  by_starts : ragged c ≡ false → {n : ℕ} → n ≡ length (points_of c) → {r : Bool} → r ≡ starts_broken n n s → r ≡ result_broken s c
  unfolding result_broken
  by_starts h e g = rw (not_ragged c h, ← length_points c, ← e) g

pub returns-then-ragged : goal.returns-then-ragged
returns-then-ragged c = c.if-ragged.true ∙ odd _ _ (sym c.ragged.ensures ∙ c.if-ragged.true)

pub returns-else-ragged : goal.returns-else-ragged
returns-else-ragged c = by_starts _ _ (sym c.ragged.ensures ∙ c.if-ragged.false) c.corner_count-count.ensures c.starts_broken.ensures
