-- What the fields of a line of a mesh as text should be ("a first line `limit 0 ear` and then one
-- line a triangle (three points, three neighbours or `none`)"), and the first of a line that is
-- not. Assumes nothing.
use Rattle.std.specs.Prelude.{Bool, cond, List, [], ◌∷◌, ℕ, zero, suc, ◌+◌, eqb, ltb, length}
use Rattle.fields.specs.Fields.{field_of}
use Rattle.mesh_fields.specs.Entries.{same_bytes, is_point, is_number_or_none, is_split}
use Rattle.mesh_wrong.specs.declared.Wanted.{Wanted}
use Rattle.mesh_wrong.specs.declared.Wanted.TheVariants as wanted

-- field j of a line behind k that say something: of the first line `limit`, the corner limit and
-- the split, of others three points and three neighbours; then nothing
unfoldable pub wanted_at : ℕ → ℕ → Wanted
wanted_at k j =
    cond (eqb k 0) (cond (eqb j 0) wanted.Name (cond (eqb j 1) wanted.Limit (cond (eqb j 2) wanted.Split wanted.End)))
    (cond (ltb j 3) wanted.Point (cond (ltb j 6) wanted.Neighbour wanted.End))

-- whether a field is so; "limit" is 108 105 109 105 116
abbrev pub is_wanted : Wanted → List ℕ → Bool
is_wanted wanted.Name l = same_bytes l (108 ∷ 105 ∷ 109 ∷ 105 ∷ 116 ∷ [])
is_wanted wanted.Limit l = is_number_or_none l
is_wanted wanted.Split l = is_split l
is_wanted wanted.Point l = is_point l
is_wanted wanted.Neighbour l = is_number_or_none l
is_wanted wanted.End l = eqb (length l) 0

-- the first of n fields from field j on that is not
unfoldable pub wrong_field_from : ℕ → ℕ → List ℕ → ℕ → ℕ
wrong_field_from zero k l j = j
wrong_field_from (suc n) k l j = cond (is_wanted (wanted_at k j) (field_of j l)) (wrong_field_from n k l (j + 1)) j

-- of a whole line, which has six fields or fewer and then ends
abbrev pub wrong_field : ℕ → List ℕ → ℕ
wrong_field k l = wrong_field_from 7 k l 0
