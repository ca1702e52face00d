-- The lines in their pieces: how long each line is (`bounds_length`, `head_length`, `line_length`),
-- and that its pieces put one after another are the line (`bounds_pieces`, `head_pieces`,
-- `line_pieces`). A number z that code reads back is u. Assumes nothing.
use mathlib.Core.Path.{◌≡◌, refl, ◌∙◌, ap}
use mathlib.Core.List.{List, [], ◌∷◌, ◌++◌}
use Prim.Native.Nat.{ℕ, ◌+◌, ◌≤◌}
use native.Mathlib.Omega.{arith}
use lib.IntN.{ℤ}
use lib.ListN.{length, length-append}
use Rattle.plane.specs.Plane.{Pt}
use Rattle.table.specs.declared.IntRect.{IntRect}
use Rattle.corners.specs.Corners.{points_of}
use Rattle.text.specs.Text.{decimal, signed_decimal, space, newline, corners_word, corners_text}
use Rattle.text.specs.Put.{PutText}
use Rattle.text.proofs.Puts.{put_after_lem, put_as}
use Rattle.pair_lines.specs.Lines.{contours_word, bounds_word, bounds_text, pairs_head, pair_line}

-- ---- bounds

pub bounds_length :
    (b : IntRect) → length (bounds_text b) ≡ length (signed_decimal b.min_x) + length (signed_decimal b.max_x) + length (signed_decimal b.min_y) + length (signed_decimal b.max_y) + 11
unfolding bounds_text
bounds_length b = simp length-append (omega arith)

pub bounds_pieces :
    {b : IntRect} {s t u v : ℤ} → s ≡ b.min_x → t ≡ b.max_x → u ≡ b.min_y → v ≡ b.max_y →
    {at k l m r : ℕ} {o o₁ o₂ o₃ o₄ : List ℕ} → at ≤ length o →
    PutText (bounds_word ++ signed_decimal s) at o o₁ k → PutText (space ++ signed_decimal t) k o₁ o₂ l → PutText (space ++ signed_decimal u) l o₂ o₃ m → PutText (space ++ signed_decimal v) m o₃ o₄ r →
    PutText (bounds_text b) at o o₄ r
unfolding bounds_text
bounds_pieces {b} e f g i h p q x y =
    put_as (λ j. (bounds_word ++ signed_decimal (e j)) ++ (space ++ signed_decimal (f j)) ++ (space ++ signed_decimal (g j)) ++ (space ++ signed_decimal (i j)))
    (put_after_lem h (put_after_lem h (put_after_lem h p q) x) y)

-- ---- the head

pub head_length : (n k : ℕ) (b : IntRect) → length (pairs_head n k b) ≡ length (decimal n) + length (decimal k) + length (bounds_text b) + 19
unfolding pairs_head
head_length n k b = simp length-append (omega arith)

pub head_pieces :
    (n k : ℕ) (b : IntRect) {l m x r : ℕ} {o o₁ o₂ o₃ o₄ : List ℕ} →
    PutText (contours_word ++ decimal n) 0 o o₁ l → PutText (corners_word ++ decimal k) l o₁ o₂ m → PutText (bounds_text b) m o₂ o₃ x → PutText newline x o₃ o₄ r →
    PutText (pairs_head n k b) 0 o o₄ r
unfolding pairs_head
head_pieces n k b p q s t = put_after_lem (omega arith) (put_after_lem (omega arith) (put_after_lem (omega arith) p q) s) t

-- ---- a line, of corners lent as numbers

module _ (i j : ℕ) where
  pub line_length : (ps : List Pt) → length (pair_line i j ps) ≡ length (decimal i) + length (decimal j) + length (decimal (length ps)) + length (corners_text ps) + 3
  unfolding pair_line
  line_length ps = simp length-append (omega arith)

  pub line_pieces :
      (l : List ℤ) {n k m x y r : ℕ} {o o₁ o₂ o₃ o₄ o₅ : List ℕ} → n ≡ length (points_of l) →
      PutText (decimal i) 0 o o₁ k → PutText (space ++ decimal j) k o₁ o₂ m → PutText (space ++ decimal n) m o₂ o₃ x → PutText (corners_text (points_of l)) x o₃ o₄ y → PutText newline y o₄ o₅ r →
      PutText (pair_line i j (points_of l)) 0 o o₅ r
  unfolding pair_line
  line_pieces l e p q s t u =
      put_as (ap (λ n. decimal i ++ (space ++ decimal j) ++ (space ++ decimal n) ++ corners_text (points_of l) ++ newline) e)
      (put_after_lem (omega arith) (put_after_lem (omega arith) (put_after_lem (omega arith) (put_after_lem (omega arith) p q) s) t) u)
