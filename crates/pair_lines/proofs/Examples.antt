-- The pairs program's line, computed: "0 0 3 (0,0) (4,0) (0,4)"; an empty contour; a head line.
-- Assumes nothing.
use mathlib.Core.Path.{◌≡◌, refl}
use mathlib.Core.List.{List, [], ◌∷◌, flatten}
use Prim.Native.Nat.{ℕ}
use lib.IntN.{pos, negsuc}
use Rattle.plane.specs.Plane.{Pt}
use Rattle.text.specs.Text.{digits, signed_decimal, corner_text, corners_text}
use Rattle.pair_lines.specs.Lines.{bounds_text, pairs_head, pair_line}

line_computed :
    pair_line 0 0 (record { x = pos 0; y = pos 0 } ∷ record { x = pos 4; y = pos 0 } ∷ record { x = pos 0; y = pos 4 } ∷ [])
    ≡ 48 ∷ 32 ∷ 48 ∷ 32 ∷ 51 ∷ 32 ∷ 40 ∷ 48 ∷ 44 ∷ 48 ∷ 41 ∷ 32 ∷ 40 ∷ 52 ∷ 44 ∷ 48 ∷ 41 ∷ 32 ∷ 40 ∷ 48 ∷ 44 ∷ 52 ∷ 41 ∷ 10 ∷ []
unfolding pair_line corners_text corner_text signed_decimal digits flatten
line_computed = refl

empty_computed : pair_line 12 3 [] ≡ 49 ∷ 50 ∷ 32 ∷ 51 ∷ 32 ∷ 48 ∷ 10 ∷ []
unfolding pair_line corners_text digits flatten
empty_computed = refl

-- "contours 1 corners 3 bounds 0 4 -1 4"
head_computed :
    pairs_head 1 3 (record { min_x = pos 0; max_x = pos 4; min_y = negsuc 0; max_y = pos 4 })
    ≡ 99 ∷ 111 ∷ 110 ∷ 116 ∷ 111 ∷ 117 ∷ 114 ∷ 115 ∷ 32 ∷ 49 ∷ 32 ∷ 99 ∷ 111 ∷ 114 ∷ 110 ∷ 101 ∷ 114 ∷ 115 ∷ 32 ∷ 51 ∷ 32 ∷ 98 ∷ 111 ∷ 117 ∷ 110 ∷ 100 ∷ 115 ∷ 32
    ∷ 48 ∷ 32 ∷ 52 ∷ 32 ∷ 45 ∷ 49 ∷ 32 ∷ 52 ∷ 10 ∷ []
unfolding pairs_head bounds_text signed_decimal digits
head_computed = refl
