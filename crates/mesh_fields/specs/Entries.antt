-- The fields of a mesh written by hand ("a first line `limit 0 ear` and then one line a triangle
-- (three points, three neighbours or `none`)"). Assumes nothing.
use Rattle.std.specs.Prelude.{Bool, true, false, cond, List, [], ◌∷◌, ℕ, ◌+◌, ◌-◌, eqb, ltb, length, get_or, take, drop}
use Rattle.integers.specs.Word.{unsigned}
use Rattle.plane.specs.Plane.{Pt}
use Rattle.fields.specs.Fields.{run_length, in_run}
use Rattle.fields.specs.declared.Run.TheVariants as run
use Rattle.field_numbers.specs.Numbers.{value_of, is_number, is_coordinate, coordinate_of}

-- ---- words

unfoldable pub same_bytes : List ℕ → List ℕ → Bool
same_bytes [] [] = true
same_bytes [] (b ∷ m) = false
same_bytes (a ∷ l) [] = false
same_bytes (a ∷ l) (b ∷ m) = cond (eqb a b) (same_bytes l m) false

-- "none", "ear", "fan", "centroid"
abbrev pub is_none : List ℕ → Bool
is_none l = same_bytes l (110 ∷ 111 ∷ 110 ∷ 101 ∷ [])

abbrev pub is_ear : List ℕ → Bool
is_ear l = same_bytes l (101 ∷ 97 ∷ 114 ∷ [])

abbrev pub is_fan : List ℕ → Bool
is_fan l = same_bytes l (102 ∷ 97 ∷ 110 ∷ [])

abbrev pub is_centroid : List ℕ → Bool
is_centroid l = same_bytes l (99 ∷ 101 ∷ 110 ∷ 116 ∷ 114 ∷ 111 ∷ 105 ∷ 100 ∷ [])

-- ---- a number or none

-- "three neighbours or `none`"; document 01: a neighbour is a u32, the greatest for none. A corner
-- limit likewise: none, or any of 1,026 or more, leaves every part whole
unfoldable pub is_number_or_none : List ℕ → Bool
is_number_or_none l = cond (is_none l) true (is_number 4294967295 l)

unfoldable pub number_or_none : List ℕ → ℕ
number_or_none l = cond (is_none l) 4294967295 (value_of l)

-- ---- a split

unfoldable pub is_split : List ℕ → Bool
is_split l = cond (is_ear l) true (cond (is_fan l) true (is_centroid l))

-- document 01: "split: 0 ear, 1 fan, 2 centroid"
unfoldable pub split_of : List ℕ → ℕ
split_of l = cond (is_ear l) 0 (cond (is_fan l) 1 2)

-- ---- a point

-- where the first comma behind the first byte stands
abbrev pub comma_from : List ℕ → ℕ
comma_from l = 1 + run_length (in_run run.Comma) (drop 1 l)

-- the comma's place in a field that opens with `(`, ends with `)` and has a comma between; 0 in
-- another
unfoldable pub comma_of : List ℕ → ℕ
comma_of l =
    cond (eqb (get_or l 0 0) 40) (cond (eqb (get_or l (length l - 1) 0) 41) (cond (ltb (comma_from l) (length l - 1)) (comma_from l) 0) 0) 0

-- what stands before the comma and behind it
abbrev pub x_text : List ℕ → List ℕ
x_text l = take (comma_of l - 1) (drop 1 l)

abbrev pub y_text : List ℕ → List ℕ
y_text l = take (length l - 1 - (comma_of l + 1)) (drop (comma_of l + 1) l)

unfoldable pub is_point : List ℕ → Bool
is_point l = cond (eqb (comma_of l) 0) false (cond (is_coordinate (x_text l)) (is_coordinate (y_text l)) false)

abbrev pub point_read : List ℕ → Pt
point_read l = record { x = coordinate_of (x_text l); y = coordinate_of (y_text l) }

-- its words in the file
abbrev pub point_words : Pt → List ℕ
point_words p = unsigned p.x ∷ unsigned p.y ∷ []
