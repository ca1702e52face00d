-- A sum's (false) or a difference's (true) answer, over bounds that equal those lent, is the one
-- that the boundary tells (`as_told`). Assumes nothing.
use mathlib.Core.Path.{◌≡◌, ◌∙◌, ap, ap₂}
use mathlib.Core.Bool.{Bool}
use mathlib.Core.List.{List}
use Prim.Native.Nat.{ℕ}
use lib.IntN.{ℤ}
use Rattle.table.specs.declared.IntRect.{IntRect}
use Rattle.minkowski.specs.declared.PairCounts.{PairCounts}
use Rattle.minkowski.specs.Pairs.{pairs_counts, pairs_starts, pairs_corners}
use Rattle.minkowski_faults.specs.Kinds.{operand}
use Rattle.boundary_pairs.specs.declared.Bounds.{Bounds}
use Rattle.boundary_pairs.specs.declared.ToldPairs.{ToldPairs}
use Rattle.boundary_pairs.specs.Told.{rect_of, lent, told_counts}

module _ (reflected : Bool) (ls : List ℕ) (lc : List ℤ) {lb : Bounds} (rs : List ℕ) (rc : List ℤ) {rb : Bounds} (s : List ℕ) (c : List ℤ) where
  -- t is told; s' and c' are what the lent starts and corners hold then
  pub as_told :
      {l r : IntRect} → l ≡ rect_of lb → r ≡ rect_of rb → {x : PairCounts} {t : ToldPairs} {s' : List ℕ} {c' : List ℤ} → t ≡ told_counts x
      → x ≡ pairs_counts reflected (operand ls lc l) (operand rs rc r) s c → s' ≡ pairs_starts reflected (operand ls lc l) (operand rs rc r) s c
      → c' ≡ pairs_corners reflected (operand ls lc l) (operand rs rc r) s c
      → (t ≡ told_counts (pairs_counts reflected (lent ls lc lb) (lent rs rc rb) s c))
      × (s' ≡ pairs_starts reflected (lent ls lc lb) (lent rs rc rb) s c)
      × (c' ≡ pairs_corners reflected (lent ls lc lb) (lent rs rc rb) s c)
  as_told p q e x y z = (
    e ∙ ap told_counts x ∙ ap₂ (λ a b. told_counts (pairs_counts reflected (operand ls lc a) (operand rs rc b) s c)) p q,
    y ∙ ap₂ (λ a b. pairs_starts reflected (operand ls lc a) (operand rs rc b) s c) p q,
    z ∙ ap₂ (λ a b. pairs_corners reflected (operand ls lc a) (operand rs rc b) s c) p q,
  )
