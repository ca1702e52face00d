-- What is told of a text: nothing where it was turned into a file, else what it was refused by: the
-- first wrong line, what stands there and what should. Assumes nothing.
use Rattle.std.specs.Prelude.{cond, List, [], ◌∷◌, ◌++◌, ℕ, ◌+◌, ◌-◌, eqb, ltb, length, take}
use Rattle.text.specs.Text.{decimal}
use Rattle.fields.specs.Fields.{field_of}
use Rattle.mesh_lines.specs.Lines.{is_passed_over}
use Rattle.mesh_wrong.specs.declared.Wanted.{Wanted}
use Rattle.mesh_wrong.specs.declared.Wanted.TheVariants as wanted
use Rattle.mesh_wrong.specs.Wanted.{wanted_at, wrong_field}
use Rattle.mesh_text.specs.Text.{max_written, lines_in}
use Rattle.mesh_text.specs.declared.NotConverted.{NotConverted}
use Rattle.std.specs.Prelude.{Result, Ok, Err}
use Rattle.mesh_text.specs.declared.NotConverted.TheVariants as not_converted

-- ---- words

-- "line "
abbrev pub line_word : List ℕ
line_word =
    108 ∷ 105 ∷ 110 ∷ 101 ∷ 32 ∷ []

-- ": "
abbrev pub colon_word : List ℕ
colon_word =
    58 ∷ 32 ∷ []

-- "the line ends"
abbrev pub ends_word : List ℕ
ends_word =
    116 ∷ 104 ∷ 101 ∷ 32 ∷ 108 ∷ 105 ∷ 110 ∷ 101 ∷ 32 ∷ 101 ∷ 110 ∷ 100 ∷ 115 ∷ []

-- "'"
abbrev pub quote_word : List ℕ
quote_word =
    34 ∷ []

-- "' stands"
abbrev pub stands_word : List ℕ
stands_word =
    34 ∷ 32 ∷ 115 ∷ 116 ∷ 97 ∷ 110 ∷ 100 ∷ 115 ∷ []

-- " where limit should" and the line's end
abbrev pub name_word : List ℕ
name_word =
    32 ∷ 119 ∷ 104 ∷ 101 ∷ 114 ∷ 101 ∷ 32 ∷ 108 ∷ 105 ∷ 109 ∷ 105 ∷ 116 ∷ 32 ∷ 115 ∷ 104 ∷ 111 ∷ 117 ∷ 108 ∷ 100 ∷ 10 ∷ []

-- " where a number or none should" and the line's end
abbrev pub limit_word : List ℕ
limit_word =
    32 ∷ 119 ∷ 104 ∷ 101 ∷ 114 ∷ 101 ∷ 32 ∷ 97 ∷ 32 ∷ 110 ∷ 117 ∷ 109 ∷ 98 ∷ 101 ∷ 114 ∷ 32 ∷ 111 ∷ 114 ∷ 32 ∷ 110 ∷ 111 ∷ 110 ∷ 101 ∷ 32 ∷ 115 ∷ 104 ∷ 111 ∷ 117 ∷ 108 ∷ 100 ∷ 10 ∷ []

-- " where ear, fan or centroid should" and the line's end
abbrev pub split_word : List ℕ
split_word =
    32 ∷ 119 ∷ 104 ∷ 101 ∷ 114 ∷ 101 ∷ 32 ∷ 101 ∷ 97 ∷ 114 ∷ 44 ∷ 32 ∷ 102 ∷ 97 ∷ 110 ∷ 32 ∷ 111 ∷ 114 ∷ 32 ∷ 99 ∷ 101 ∷ 110 ∷ 116 ∷ 114 ∷ 111 ∷ 105 ∷ 100 ∷ 32 ∷ 115 ∷ 104 ∷ 111 ∷ 117 ∷ 108 ∷ 100 ∷ 10 ∷ []

-- " where a point (x,y) should" and the line's end
abbrev pub point_word : List ℕ
point_word =
    32 ∷ 119 ∷ 104 ∷ 101 ∷ 114 ∷ 101 ∷ 32 ∷ 97 ∷ 32 ∷ 112 ∷ 111 ∷ 105 ∷ 110 ∷ 116 ∷ 32 ∷ 40 ∷ 120 ∷ 44 ∷ 121 ∷ 41 ∷ 32 ∷ 115 ∷ 104 ∷ 111 ∷ 117 ∷ 108 ∷ 100 ∷ 10 ∷ []

-- " where a triangle's number or none should" and the line's end
abbrev pub neighbour_word : List ℕ
neighbour_word =
    32 ∷ 119 ∷ 104 ∷ 101 ∷ 114 ∷ 101 ∷ 32 ∷ 97 ∷ 32 ∷ 116 ∷ 114 ∷ 105 ∷ 97 ∷ 110 ∷ 103 ∷ 108 ∷ 101 ∷ 39 ∷ 115 ∷ 32 ∷ 110 ∷ 117 ∷ 109 ∷ 98 ∷ 101 ∷ 114 ∷ 32 ∷ 111 ∷ 114 ∷ 32 ∷ 110 ∷ 111 ∷ 110 ∷ 101 ∷ 32 ∷ 115 ∷ 104 ∷ 111 ∷ 117 ∷ 108 ∷ 100 ∷ 10 ∷ []

-- " where the line should end" and the line's end
abbrev pub end_word : List ℕ
end_word =
    32 ∷ 119 ∷ 104 ∷ 101 ∷ 114 ∷ 101 ∷ 32 ∷ 116 ∷ 104 ∷ 101 ∷ 32 ∷ 108 ∷ 105 ∷ 110 ∷ 101 ∷ 32 ∷ 115 ∷ 104 ∷ 111 ∷ 117 ∷ 108 ∷ 100 ∷ 32 ∷ 101 ∷ 110 ∷ 100 ∷ 10 ∷ []

-- "a triangle more than the 1,025 that are taken" and the line's end
abbrev pub many_word : List ℕ
many_word =
    97 ∷ 32 ∷ 116 ∷ 114 ∷ 105 ∷ 97 ∷ 110 ∷ 103 ∷ 108 ∷ 101 ∷ 32 ∷ 109 ∷ 111 ∷ 114 ∷ 101 ∷ 32 ∷ 116 ∷ 104 ∷ 97 ∷ 110 ∷ 32 ∷ 116 ∷ 104 ∷ 101 ∷ 32 ∷ 49 ∷ 44 ∷ 48 ∷ 50 ∷ 53 ∷ 32 ∷ 116 ∷ 104 ∷ 97 ∷ 116 ∷ 32 ∷ 97 ∷ 114 ∷ 101 ∷ 32 ∷ 116 ∷ 97 ∷ 107 ∷ 101 ∷ 110 ∷ 10 ∷ []

-- "the text ends where limit should" and the line's end
abbrev pub text_ends_word : List ℕ
text_ends_word =
    116 ∷ 104 ∷ 101 ∷ 32 ∷ 116 ∷ 101 ∷ 120 ∷ 116 ∷ 32 ∷ 101 ∷ 110 ∷ 100 ∷ 115 ∷ 32 ∷ 119 ∷ 104 ∷ 101 ∷ 114 ∷ 101 ∷ 32 ∷ 108 ∷ 105 ∷ 109 ∷ 105 ∷ 116 ∷ 32 ∷ 115 ∷ 104 ∷ 111 ∷ 117 ∷ 108 ∷ 100 ∷ 10 ∷ []

-- "the text is longer than 262,144 bytes" and the line's end
abbrev pub long_word : List ℕ
long_word =
    116 ∷ 104 ∷ 101 ∷ 32 ∷ 116 ∷ 101 ∷ 120 ∷ 116 ∷ 32 ∷ 105 ∷ 115 ∷ 32 ∷ 108 ∷ 111 ∷ 110 ∷ 103 ∷ 101 ∷ 114 ∷ 32 ∷ 116 ∷ 104 ∷ 97 ∷ 110 ∷ 32 ∷ 50 ∷ 54 ∷ 50 ∷ 44 ∷ 49 ∷ 52 ∷ 52 ∷ 32 ∷ 98 ∷ 121 ∷ 116 ∷ 101 ∷ 115 ∷ 10 ∷ []

-- ---- a wrong field

-- a field is told up to its byte 40
abbrev pub shown_of : ℕ → ℕ
shown_of n = cond (ltb 40 n) 40 n

-- what stands there
unfoldable pub standing : List ℕ → List ℕ
standing l = cond (eqb (length l) 0) ends_word ((quote_word ++ take (shown_of (length l)) l) ++ stands_word)

-- what should
unfoldable pub should : Wanted → List ℕ
should wanted.Name = name_word
should wanted.Limit = limit_word
should wanted.Split = split_word
should wanted.Point = point_word
should wanted.Neighbour = neighbour_word
should wanted.End = end_word

-- ---- a wrong line

-- a line behind k that say something: a triangle too many, or its first field that is not what it
-- should be
unfoldable pub said_of : ℕ → List ℕ → List ℕ
said_of k l =
    cond (ltb max_written k) many_word (standing (field_of (wrong_field k l) l) ++ should (wanted_at k (wrong_field k l)))

-- 1 for a line that says something
abbrev pub says : List ℕ → ℕ
says l = cond (is_passed_over l) 0 1

-- of line n of these, counted from 1, behind k lines that say something; where there is none, the
-- text ends before its first line
unfoldable pub said_at : ℕ → ℕ → List (List ℕ) → List ℕ
said_at n k [] = text_ends_word
said_at n k (l ∷ ls) = cond (ltb n 2) (said_of k l) (said_at (n - 1) (k + says l) ls)

unfoldable pub wrong_told : List ℕ → ℕ → List ℕ
wrong_told text n = ((line_word ++ decimal n) ++ colon_word) ++ said_at n 0 (lines_in text)

unfoldable pub told_of : Result ℕ NotConverted → List ℕ → List ℕ
told_of (Ok length) text = []
told_of (Err (not_converted.Wrong n)) text = wrong_told text n
told_of (Err not_converted.TooLong) text = long_word

-- ---- room

-- the bytes of the longest of each
abbrev pub standing_room : ℕ
standing_room = 49

abbrev pub should_room : ℕ
should_room = 42

abbrev pub said_room : ℕ
said_room = standing_room + should_room

-- a line's number has at most 20 digits
abbrev pub told_room : ℕ
told_room = 128
