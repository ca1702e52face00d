-- What a record of a stored sample holds: words of 32 bits, a head of eight of them first
-- (vectors/README.md has the layouts). In order: a list that was read; lists of words and of signed
-- numbers; rows. Assumes nothing.
use Rattle.std.specs.Prelude.{◌≡◌, List, map, ℕ, ◌+◌, ◌*◌, ◌≤◌, ◌<◌, ℤ, pos, length, take, drop, replicate}
use Rattle.integers.specs.Lists.{overlay, up_to}
use Rattle.table.specs.Stored.{words_of, signed}
use Rattle.mesh.specs.Rows.{row_width}

-- n counts places at the start of l. The second part follows from the first; both are what lending
-- those places asks, as io's `Counts` has them of bytes
abbrev pub Counted : {A : Type 0} → ℕ → List A → Type 0
Counted n l = (n ≤ length l) × (n ≡ length (take n l))

-- a list read onto the front of places that held `old`: as many are told as were read
pub record Listed {A : Type 0} (new old : List A) (told : ℕ) (out : List A) : Type 0 where
  pub count : told ≡ length new
  pub places : out ≡ overlay new old
  pub within : Counted told out

-- n words from word k on, as far as the record has them, and the same as signed numbers
unfoldable pub words_in : List ℕ → ℕ → ℕ → List ℕ
words_in r k n = take n (drop k (words_of r))

unfoldable pub numbers_in : List ℕ → ℕ → ℕ → List ℤ
numbers_in r k n = map signed (words_in r k n)

-- how many of n words from word k on there are, and that a reader may ask for them
pub record Readable (r : List ℕ) (k n told : ℕ) : Type 0 where
  pub count : told ≡ length (words_in r k n)
  pub few : told ≤ n
  pub there : 0 < told → 4 * (k + told) ≤ length r

-- row k after the head; 0 past the record's end. And the first n rows
unfoldable pub row_in : List ℕ → ℕ → List ℤ
row_in r k = overlay (numbers_in r (8 + row_width * k) row_width) (replicate row_width (pos 0))

unfoldable pub rows_in : List ℕ → ℕ → List (List ℤ)
rows_in r n = map (row_in r) (up_to n)
