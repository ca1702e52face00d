-- Numbers in decimal. Assumes nothing.
use Rattle.std.specs.Prelude.{Bool, true, false, cond, List, [], ◌∷◌, ℕ, ◌+◌, ◌*◌, ◌-◌, eqb, ltb, length, get_or, drop, ℤ, pos, neg_ℤ, Option, Some, None}
use Rattle.integers.specs.Word.{unsigned}
use Rattle.fields.specs.Fields.{is_digit, run_length}

-- ---- a number

-- the number that v and then these digits write
unfoldable pub value_from : ℕ → List ℕ → ℕ
value_from v [] = v
value_from v (b ∷ l) = value_from (10 * v + (b - 48)) l

abbrev pub value_of : List ℕ → ℕ
value_of l = value_from 0 l

-- one to ten digits, which may begin with 0, and at most `most`
unfoldable pub is_number : ℕ → List ℕ → Bool
is_number most l =
    cond (eqb (length l) 0) false
    (cond (ltb 10 (length l)) false
    (cond (eqb (run_length is_digit l) (length l)) (cond (ltb most (value_of l)) false true) false))

-- ---- a coordinate

abbrev pub has_minus : List ℕ → Bool
has_minus l = eqb (get_or l 0 0) 45

-- "i32": from -2^31 on below 0, up to 2^31 - 1
unfoldable pub is_coordinate : List ℕ → Bool
is_coordinate l = cond (has_minus l) (is_number 2147483648 (drop 1 l)) (is_number 2147483647 l)

unfoldable pub coordinate_of : List ℕ → ℤ
coordinate_of l = cond (has_minus l) (neg_ℤ (pos (value_of (drop 1 l)))) (pos (value_of l))

-- ---- as the code tells them

abbrev pub told : Bool → ℕ → Option ℕ
told right bits = cond right (Some bits) None

abbrev pub number_read : ℕ → List ℕ → Option ℕ
number_read most l = told (is_number most l) (value_of l)

abbrev pub coordinate_read : List ℕ → Option ℕ
coordinate_read l = told (is_coordinate l) (unsigned (coordinate_of l))
