-- The lines that the pairs program prints: "It prints `contours N corners N bounds a b c d`, then
-- one line a pair: left part, right part, corner count, corners as in the area listing
-- (`0 0 3 (0,0) (4,0) (0,4)`)". Assumes nothing.
use Rattle.std.specs.Prelude.{Bool, ◌≡◌, ℕ, suc, length, get_or}
use mathlib.Core.List.{List, [], ◌∷◌, ◌++◌, map, flatten}
use Rattle.integers.specs.Lists.{up_to}
use Rattle.plane.specs.Plane.{Pt}
use Rattle.table.specs.declared.IntRect.{IntRect}
use Rattle.text.specs.Text.{decimal, signed_decimal, space, newline, corners_word, corners_text}
use Rattle.pair.specs.Pair.{pair_contour}

-- ---- the head

-- "contours ", " bounds "; " corners " is text's
abbrev pub contours_word : List ℕ
contours_word = 99 ∷ 111 ∷ 110 ∷ 116 ∷ 111 ∷ 117 ∷ 114 ∷ 115 ∷ 32 ∷ []

abbrev pub bounds_word : List ℕ
bounds_word = 32 ∷ 98 ∷ 111 ∷ 117 ∷ 110 ∷ 100 ∷ 115 ∷ 32 ∷ []

-- " bounds a b c d": least x, greatest x, least y, greatest y
unfoldable pub bounds_text : IntRect → List ℕ
bounds_text b =
    (bounds_word ++ signed_decimal b.min_x) ++ (space ++ signed_decimal b.max_x) ++ (space ++ signed_decimal b.min_y) ++ (space ++ signed_decimal b.max_y)

-- "contours N corners N bounds a b c d"
unfoldable pub pairs_head : ℕ → ℕ → IntRect → List ℕ
pairs_head contours corners b = (contours_word ++ decimal contours) ++ (corners_word ++ decimal corners) ++ bounds_text b ++ newline

-- ---- the lines

-- "left part, right part, corner count, corners": part i, part j and their contour
unfoldable pub pair_line : ℕ → ℕ → List Pt → List ℕ
pair_line i j p = decimal i ++ (space ++ decimal j) ++ (space ++ decimal (length p)) ++ corners_text p ++ newline

-- the contours of left part i with the right parts from j on
unfoldable pub row_lines : ℕ → ℕ → List (List Pt) → List ℕ
row_lines i j [] = []
row_lines i j (p ∷ ps) = pair_line i j p ++ row_lines i (suc j) ps

-- the left parts from i on, each with every right part: `pairs_of` in its order
unfoldable pub pair_lines_from : Bool → ℕ → List (List Pt) → List (List Pt) → List ℕ
pair_lines_from reflected i [] rs = []
pair_lines_from reflected i (a ∷ ls) rs = row_lines i 0 (map (pair_contour reflected a) rs) ++ pair_lines_from reflected (suc i) ls rs

-- "one line a pair"
unfoldable pub pair_lines : Bool → List (List Pt) → List (List Pt) → List ℕ
pair_lines reflected ls rs = pair_lines_from reflected 0 ls rs

-- ---- the order: "one line a pair", left part 0 with each right part, then left part 1 ..

abbrev pub LinesInOrder : Type 0
LinesInOrder =
    (reflected : Bool) (ls rs : List (List Pt)) →
    pair_lines reflected ls rs
    ≡ flatten (map (λ i. flatten (map (λ j. pair_line i j (pair_contour reflected (get_or ls i []) (get_or rs j []))) (up_to (length rs)))) (up_to (length ls)))
