-- The stored form (document 01): "Stored, a table is part count, corner count, starts, corners,
-- each 32 bits, little-endian; another length gives 7." Assumes nothing.
use Rattle.std.specs.Prelude.{Bool, true, not, cond, ℕ, ◌+◌, ◌*◌, ◌-◌, ◌/◌, ◌%◌, eqb, ltb, length, get_or, take, drop, ℤ}
use mathlib.Core.List.{List, [], ◌∷◌, ◌++◌, map, flatten}
use Rattle.std.specs.Int.{w32}
use Rattle.std.proofs.Common.{to_z}
use Rattle.integers.specs.Word.{unsigned}
use Rattle.integers.specs.Faults.{first_fault, fault_corner_room, fault_range, fault_rules}
use Rattle.plane.specs.Plane.{Pt}
use Rattle.corners.specs.Corners.{off_range}
use Rattle.table.specs.Table.{table_broken, table_parts, room_kinds}

-- ---- words

-- four bytes, the least first
unfoldable pub bytes_of : ℕ → List ℕ
bytes_of n = n % 256 ∷ n / 256 % 256 ∷ n / 65536 % 256 ∷ n / 16777216 % 256 ∷ []

unfoldable pub word_of : ℕ → ℕ → ℕ → ℕ → ℕ
word_of a b c d = a + 256 * b + 65536 * c + 16777216 * d

-- the words of a list of bytes, four at a time; fewer than four at its end are none
unfoldable pub words_of : List ℕ → List ℕ
words_of [] = []
words_of (a ∷ []) = []
words_of (a ∷ b ∷ []) = []
words_of (a ∷ b ∷ c ∷ []) = []
words_of (a ∷ b ∷ c ∷ d ∷ l) = word_of a b c d ∷ words_of l

unfoldable pub word_bytes : List ℕ → List ℕ
word_bytes ws = flatten (map bytes_of ws)

-- a word read as a signed number; the other way is integers' `unsigned`
abbrev pub signed : ℕ → ℤ
signed w = to_z w32 w

-- ---- reading

-- word k: the part count is word 0, the corner count word 1
abbrev pub word_at : List ℕ → ℕ → ℕ
word_at bytes k = get_or (words_of bytes) k 0

abbrev pub stored_starts : List ℕ → List ℕ
stored_starts bytes = take (word_at bytes 0 + 1) (drop 2 (words_of bytes))

abbrev pub stored_corners : List ℕ → List ℤ
stored_corners bytes = map signed (drop (word_at bytes 0 + 3) (words_of bytes))

-- two counts, one more start than parts, two numbers a corner
unfoldable pub length_broken : List ℕ → Bool
length_broken bytes = cond (ltb (length bytes) 8) true (not (eqb (length bytes) (8 + 4 * (word_at bytes 0 + 1) + 8 * word_at bytes 1)))

unfoldable pub stored_broken : List ℕ → Bool
stored_broken bytes = cond (length_broken bytes) true (table_broken (stored_starts bytes) (stored_corners bytes))

abbrev pub stored_parts : List ℕ → List (List Pt)
stored_parts bytes = table_parts (stored_starts bytes) (stored_corners bytes)

-- "Stored table read: 7, 2, 22, 21": the room is the lent starts' and the lent corners' length
unfoldable pub read_fault : List ℕ → ℕ → ℕ → ℕ
read_fault bytes starts corners = first_fault ((fault_rules, stored_broken bytes) ∷ (fault_range, off_range (stored_corners bytes)) ∷ room_kinds (stored_parts bytes) starts corners)

-- ---- writing

unfoldable pub stored_of : List ℕ → List ℤ → List ℕ
stored_of starts corners = word_bytes ((length starts - 1) ∷ (length corners / 2) ∷ (starts ++ map unsigned corners))

-- "written: 7, 2, 21 for too few bytes"
unfoldable pub write_fault : List ℕ → List ℤ → ℕ → ℕ
write_fault starts corners room = first_fault ((fault_rules, table_broken starts corners) ∷ (fault_range, off_range corners) ∷ (fault_corner_room, ltb room (length (stored_of starts corners))) ∷ [])
