-- Lines and fields of a text, which is a list of bytes ("one line a triangle (three points, three
-- neighbours or `none`)"). Assumes nothing.
use Rattle.std.specs.Prelude.{Bool, true, false, not, cond, List, [], ◌∷◌, ℕ, zero, suc, eqb, ltb, take, drop}
use Rattle.fields.specs.declared.Run.{Run}
use Rattle.fields.specs.declared.Run.TheVariants as run

-- ---- kinds of byte

-- a space, a tab, or the carriage return that may stand before a line's end
abbrev pub is_blank : ℕ → Bool
is_blank b = cond (eqb b 32) true (cond (eqb b 9) true (eqb b 13))

abbrev pub is_digit : ℕ → Bool
is_digit b = cond (ltb b 48) false (ltb b 58)

-- the bytes that belong to a run: blanks; a field, up to a blank; digits; a line, up to its end;
-- what stands before a comma
abbrev pub in_run : Run → ℕ → Bool
in_run run.Blanks b = is_blank b
in_run run.Field b = not (is_blank b)
in_run run.Digits b = is_digit b
in_run run.Line b = not (eqb b 10)
in_run run.Comma b = not (eqb b 44)

-- ---- runs

-- how many bytes at the front are of a kind
unfoldable pub run_length : (ℕ → Bool) → List ℕ → ℕ
run_length p [] = 0
run_length p (b ∷ l) = cond (p b) (suc (run_length p l)) 0

-- ---- lines

-- b before the first of some lines
abbrev pub on_first : ℕ → List (List ℕ) → List (List ℕ)
on_first b [] = (b ∷ []) ∷ []
on_first b (l ∷ ls) = (b ∷ l) ∷ ls

-- a text's lines, without the byte 10 that ends each; the last may lack it
unfoldable pub lines_of : List ℕ → List (List ℕ)
lines_of [] = []
lines_of (b ∷ l) = cond (eqb b 10) ([] ∷ lines_of l) (on_first b (lines_of l))

-- ---- fields

-- without the blanks at its front
abbrev pub skipped : List ℕ → List ℕ
skipped l = drop (run_length is_blank l) l

-- a line from its field k on, k counted from 0; nothing where it has no more
unfoldable pub fields_from : ℕ → List ℕ → List ℕ
fields_from zero l = skipped l
fields_from (suc k) l = skipped (drop (run_length (in_run run.Field) (fields_from k l)) (fields_from k l))

-- field k
abbrev pub field_of : ℕ → List ℕ → List ℕ
field_of k l = take (run_length (in_run run.Field) (fields_from k l)) (fields_from k l)
