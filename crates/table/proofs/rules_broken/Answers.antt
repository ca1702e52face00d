-- `table::rules_broken` meets its contract: the code's tests are the definition's. Assumes nothing.
use mathlib.Core.Path.{◌≡◌, sym, ◌∙◌}
use mathlib.Core.Bool.{Bool, true, false}
use mathlib.Core.List.{List}
use Prim.Native.Nat.{ℕ, ◌-◌, ◌/◌, ◌<◌, ◌≤◌}
use native.Mathlib.Omega.{arith}
use borrow.Author.Tests.{lt-ltb, le-ltb, ltb-true, ltb-false}
use Rattle.integers.proofs.Tests.{differ}
use lib.IntN.{ℤ}
use lib.ListN.{length}
use Rattle.corners.specs.Corners.{points_of, ragged}
use Rattle.corners.proofs.Corners.{length_points, is_ragged, not_ragged}
use Rattle.table.specs.Table.{starts_broken, table_broken, max_corners, max_parts, max_contour}
use Rattle.table.proofs.rules_broken.Goals as goal
use Rattle.table.proofs.rules_broken.Goals.{then-ragged, else-ragged, then-starts, else-starts}

module _ (s : List ℕ) (c : List ℤ) where
  odd : ragged c ≡ true → true ≡ table_broken s c
  unfolding table_broken
  odd h = rw (is_ragged c h)

  -- n corners
  module _ (h : ragged c ≡ false) {n : ℕ} (e : n ≡ length (points_of c)) where
    half : length c / 2 ≡ n
    half = sym (e ∙ length_points c)

    many_parts : 2049 < length s → true ≡ table_broken s c
    unfolding table_broken
    many_parts k = rw (not_ragged c h, lt-ltb max_parts (length s - 1) (omega arith))

    module _ (k : length s ≤ 2049) where
      many_corners : max_corners < n → true ≡ table_broken s c
      unfolding table_broken
      many_corners l = rw (not_ragged c h, le-ltb max_parts (length s - 1) (omega arith), half, lt-ltb max_corners n l)

      by_starts : n ≤ max_corners → {r : Bool} → r ≡ starts_broken max_contour n s → r ≡ table_broken s c
      unfolding table_broken
      by_starts l g = rw (not_ragged c h, le-ltb max_parts (length s - 1) (omega arith), half, le-ltb max_corners n l) g

pub returns-then-count-gt-MAX_CORNERS : goal.returns-then-count-gt-MAX_CORNERS
returns-then-count-gt-MAX_CORNERS c = c.if-count-gt-MAX_CORNERS.true ∙ elim c.if-ragged.branch [
  | then-ragged r ↦ odd _ _ (sym c.ragged.ensures ∙ r.if-ragged.true)
  | else-ragged r ↦ elim c.if-starts.branch [
    | then-starts w ↦ many_parts _ _ (sym c.ragged.ensures ∙ r.if-ragged.false) c.corner_count-count.ensures (ltb-true 2049 _ (sym r.value-is ∙ w.if-starts.true))
    | else-starts w ↦ many_corners _ _ (sym c.ragged.ensures ∙ r.if-ragged.false) c.corner_count-count.ensures (ltb-false 2049 _ (sym r.value-is ∙ w.if-starts.false)) (ltb-true max_corners _ (sym w.value-is ∙ c.if-count-gt-MAX_CORNERS.true))
  ]
]

pub returns-else-count-gt-MAX_CORNERS : goal.returns-else-count-gt-MAX_CORNERS
returns-else-count-gt-MAX_CORNERS c = elim c.if-starts.branch [
  | then-starts w ↦ differ (sym c.if-count-gt-MAX_CORNERS.false ∙ w.value-is ∙ w.if-starts.true)
  | else-starts w ↦ elim c.if-ragged.branch [
    | then-ragged r ↦ differ (sym w.if-starts.false ∙ r.value-is ∙ r.if-ragged.true)
    | else-ragged r ↦ by_starts _ _ (sym c.ragged.ensures ∙ r.if-ragged.false) c.corner_count-count.ensures (ltb-false 2049 _ (sym r.value-is ∙ w.if-starts.false)) (ltb-false max_corners _ (sym w.value-is ∙ c.if-count-gt-MAX_CORNERS.false)) c.starts_broken.ensures
  ]
]
