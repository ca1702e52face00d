-- The lines of a mesh written by hand ("a first line `limit 0 ear` and then one line a triangle
-- (three points, three neighbours or `none`)"). Assumes nothing.
use Rattle.std.specs.Prelude.{Bool, true, false, cond, List, [], ◌∷◌, ◌++◌, ℕ, eqb, length, get_or}
use Rattle.mesh.specs.Mesh.{Triangle}
use Rattle.fields.specs.Fields.{fields_from, field_of}
use Rattle.mesh_fields.specs.Entries.{same_bytes, is_point, point_read, point_words, is_number_or_none, number_or_none, is_split, split_of}

-- the line has no field k
abbrev pub ends_at : ℕ → List ℕ → Bool
ends_at k l = eqb (length (fields_from k l)) 0

-- a line that says nothing: it is blank, or its first byte that is not is `#`
unfoldable pub is_passed_over : List ℕ → Bool
is_passed_over l = cond (ends_at 0 l) true (eqb (get_or (fields_from 0 l) 0 0) 35)

-- ---- the first line

-- "limit" and a u32, or none for no limit
unfoldable pub is_limit : List ℕ → Bool
is_limit l = cond (same_bytes (field_of 0 l) (108 ∷ 105 ∷ 109 ∷ 105 ∷ 116 ∷ [])) (is_number_or_none (field_of 1 l)) false

unfoldable pub is_head : List ℕ → Bool
is_head l = cond (is_limit l) (cond (is_split (field_of 2 l)) (ends_at 3 l) false) false

-- its words in the file: the corner limit and the split
abbrev pub head_words : List ℕ → List ℕ
head_words l = number_or_none (field_of 1 l) ∷ split_of (field_of 2 l) ∷ []

-- ---- a triangle

unfoldable pub are_points : List ℕ → Bool
are_points l = cond (is_point (field_of 0 l)) (cond (is_point (field_of 1 l)) (is_point (field_of 2 l)) false) false

unfoldable pub are_neighbours : List ℕ → Bool
are_neighbours l = cond (is_number_or_none (field_of 3 l)) (cond (is_number_or_none (field_of 4 l)) (is_number_or_none (field_of 5 l)) false) false

unfoldable pub is_triangle : List ℕ → Bool
is_triangle l = cond (are_points l) (cond (are_neighbours l) (ends_at 6 l) false) false

abbrev pub triangle_of : List ℕ → Triangle
triangle_of l =
    record {
      v0 = point_read (field_of 0 l);
      v1 = point_read (field_of 1 l);
      v2 = point_read (field_of 2 l);
      n0 = number_or_none (field_of 3 l);
      n1 = number_or_none (field_of 4 l);
      n2 = number_or_none (field_of 5 l);
    }

-- its words in the file: "six i32 (x, y of the three points) and three u32" (document 01)
abbrev pub corners_of : Triangle → List ℕ
corners_of t = point_words t.v0 ++ point_words t.v1 ++ point_words t.v2

abbrev pub sides_of : Triangle → List ℕ
sides_of t = t.n0 ∷ t.n1 ∷ t.n2 ∷ []

abbrev pub triangle_words : Triangle → List ℕ
triangle_words t = corners_of t ++ sides_of t
