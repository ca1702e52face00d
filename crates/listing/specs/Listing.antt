-- The listing (document 01, "The file and its listing"): the bytes that the area program prints.
-- Assumes nothing.
use Rattle.std.specs.Prelude.{cond, ℕ, suc, ◌+◌, ◌*◌, ◌/◌, eqb, length, nat_abs}
use mathlib.Core.List.{List, [], ◌∷◌, ◌++◌, flatten}
use Rattle.plane.specs.Plane.{Pt}
use Rattle.plane.specs.Contour.{contour_area}
use Rattle.text.specs.Text.{decimal, space, newline, corners_word, corners_text, refusal}
use Rattle.listing.specs.File.{file_fault, file_parts}

-- ---- words of the listing

-- "parts ", " area2 "; " corners " is text's
abbrev pub parts_word : List ℕ
parts_word = 112 ∷ 97 ∷ 114 ∷ 116 ∷ 115 ∷ 32 ∷ []

abbrev pub area_word : List ℕ
area_word = 32 ∷ 97 ∷ 114 ∷ 101 ∷ 97 ∷ 50 ∷ 32 ∷ []

-- ---- areas and shares

-- the doubled area of a part; parts run counter-clockwise
abbrev pub area_of : List Pt → ℕ
area_of l = nat_abs (contour_area l)

unfoldable pub total_area : List (List Pt) → ℕ
total_area [] = 0
total_area (p ∷ ps) = area_of p + total_area ps

-- "share in ten-thousandths of the total rounded down"
abbrev pub share_of : ℕ → ℕ → ℕ
share_of total a = a * 10000 / total

-- ---- the lines

-- "The first line gives counts and total doubled area."
unfoldable pub head_line : List (List Pt) → List ℕ
head_line ps =
    parts_word ++ decimal (length ps) ++ (corners_word ++ decimal (length (flatten ps))) ++ (area_word ++ decimal (total_area ps)) ++ newline

-- "A part line gives number, corners, doubled area, share .., and the corners."
unfoldable pub part_line : ℕ → ℕ → List Pt → List ℕ
part_line total k p =
    decimal k ++ (space ++ decimal (length p)) ++ (space ++ decimal (area_of p)) ++ (space ++ decimal (share_of total (area_of p)))
    ++ corners_text p ++ newline

unfoldable pub part_lines : ℕ → ℕ → List (List Pt) → List ℕ
part_lines total k [] = []
part_lines total k (p ∷ ps) = part_line total k p ++ part_lines total (suc k) ps

unfoldable pub listing_of : List (List Pt) → List ℕ
listing_of ps = head_line ps ++ part_lines (total_area ps) 0 ps

-- what the area program prints for a file
unfoldable pub areas_of : List ℕ → List ℕ
areas_of bytes = cond (eqb (file_fault bytes) 0) (listing_of (file_parts bytes)) (refusal (file_fault bytes))
