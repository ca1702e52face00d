-- The stored form: laws of the definitions of `specs/Stored.antt`.
-- In order: a list of words taken apart as a table's; bytes of the right length (`sized`, and how
-- many starts and numbers they hold); the faults by the tests that code makes; a table's bytes read
-- (`starts_of_stored`, `corners_of_stored`, `read_fault_of_stored`); bytes that are accepted,
-- written (`stored_of_read`). Assumes nothing.
use mathlib.Core.Path.{◌≡◌, ◌∙◌, ap}
use mathlib.Core.Bool.{false}
use mathlib.Core.List.{List, [], ◌∷◌, ◌++◌, map, flatten}
use Prim.Native.Nat.{ℕ, zero, suc, ◌+◌, ◌*◌, ◌-◌, ◌/◌, ◌≤◌}
use native.Mathlib.Omega.{arith}
use borrow.Author.Tests.{ltb-false, eqb-true, le-ltb, eq-eqb, not-false}
use lib.Dec.{ltb}
use lib.ListN.{length, take, drop, get_or, length-append, length-drop, length-map, take-append-drop}
use lib.Seq.{length-take-le, take_all, take-append_seam, drop-append_seam}
use lib.IntN.{ℤ}
use mir.Syntax.{w32}
use mir.ValLaws.{of_z_fits}
use Rattle.integers.specs.Word.{unsigned}
use Rattle.integers.specs.Lists.{All}
use Rattle.integers.specs.Faults.{first_fault}
use Rattle.integers.proofs.Tests.{either_false}
use Rattle.integers.proofs.Faults.{first_next, first_none}
use Rattle.integers.proofs.Elements.{all_map, all_append, all_image, get_or_all}
use Rattle.corners.specs.Corners.{off_range}
use Rattle.table.specs.Table.{table_broken, table_parts, room_kinds, starts_of}
use Rattle.table.specs.Stored.{words_of, word_bytes, signed, word_at, stored_starts, stored_corners, length_broken, stored_broken, stored_parts, read_fault, stored_of}
use Rattle.corners.proofs.Range.{fit_all}
use Rattle.table.proofs.Rules.{sound, starts_parts, count_parts, count_corners}
use Rattle.table.proofs.Words.{Byte, Word, length_words, length-word_bytes, words_word_bytes, word_bytes_words, words_small, signed_unsigned, unsigned_signed}

-- ---- words taken apart: two counts, p + 1 starts, the numbers

module _ {A : Type 0} (d : A) where
  pub apart : (W : List A) (p : ℕ) → 2 ≤ length W → get_or W 0 d ∷ get_or W 1 d ∷ (take (p + 1) (drop 2 W) ++ drop (p + 3) W) ≡ W
  apart [] p h = absurd (omega arith)
  apart (x ∷ []) p h = absurd (omega arith)
  apart (x ∷ y ∷ W) p h = ap (λ r. x ∷ y ∷ r) (ap (λ n. take (p + 1) W ++ n) (two_more p W) ∙ take-append-drop (p + 1) W)
    where
      two_more : (p : ℕ) (W : List A) → drop (p + 3) (x ∷ y ∷ W) ≡ drop (p + 1) W
      two_more p W = let e : p + 3 ≡ suc (suc (p + 1)) = omega arith in rw e

-- ---- bytes of the right length

abbrev pub size_of : ℕ → ℕ → ℕ
size_of parts corners = 8 + 4 * (parts + 1) + 8 * corners

pub sized : (bytes : List ℕ) → length_broken bytes ≡ false → length bytes ≡ size_of (word_at bytes 0) (word_at bytes 1)
unfolding length_broken
sized bytes e =
    let f = either_false (ltb (length bytes) 8) _ e in
    eqb-true _ _ (not-false _ f.1)

-- length and rules
pub whole_bytes : (bytes : List ℕ) → stored_broken bytes ≡ false → (length_broken bytes ≡ false) × (table_broken (stored_starts bytes) (stored_corners bytes) ≡ false)
unfolding stored_broken
whole_bytes bytes e = either_false (length_broken bytes) _ e

module _ (bytes : List ℕ) (e : length bytes ≡ size_of (word_at bytes 0) (word_at bytes 1)) where
  pub count_words : length (words_of bytes) ≡ word_at bytes 0 + 3 + 2 * word_at bytes 1
  count_words = omega (arith, length_words bytes)

  pub count_starts : length (stored_starts bytes) ≡ word_at bytes 0 + 1
  count_starts = length-take-le (word_at bytes 0 + 1) (drop 2 (words_of bytes)) (omega (arith, length-drop 2 (words_of bytes), count_words))

  -- all words past the starts are numbers
  pub numbers_all : map signed (take (2 * word_at bytes 1) (drop (word_at bytes 0 + 3) (words_of bytes))) ≡ stored_corners bytes
  numbers_all = ap (map signed) (take_all (2 * word_at bytes 1) (drop (word_at bytes 0 + 3) (words_of bytes)) (omega (arith, length-drop (word_at bytes 0 + 3) (words_of bytes), count_words)))

  pub count_numbers : length (stored_corners bytes) ≡ 2 * word_at bytes 1
  count_numbers = omega (arith, length-map (drop (word_at bytes 0 + 3) (words_of bytes)) signed, length-drop (word_at bytes 0 + 3) (words_of bytes), count_words)

-- ---- a table's bytes

pub length_stored : (s : List ℕ) (c : List ℤ) → length (stored_of s c) ≡ 8 + 4 * length s + 4 * length c
unfolding stored_of
length_stored s c = omega (arith, length-word_bytes ((length s - 1) ∷ (length c / 2) ∷ (s ++ map unsigned c)), length-append s (map unsigned c), length-map c unsigned)

module _ (s : List ℕ) (c : List ℤ) (whole : table_broken s c ≡ false) (ranged : off_range c ≡ false) where
  starts_small : All Word s
  starts_small = let t = sound s c whole in get_or_all Word s 0 (λ i h. omega (arith, t.bounded i h))

  numbers_small : All Word (map unsigned c)
  numbers_small = (all_image Word unsigned c).1 (all_map c (λ z h. (of_z_fits w32 z h).fits) (fit_all c ranged))

  pub words_stored : words_of (stored_of s c) ≡ (length s - 1) ∷ (length c / 2) ∷ (s ++ map unsigned c)
  unfolding stored_of
  words_stored =
      let t = sound s c whole in
      words_word_bytes (omega arith, (omega arith, (all_append Word s (map unsigned c)).1 (starts_small, numbers_small)))

  counts_stored : (word_at (stored_of s c) 0 ≡ length s - 1) × (word_at (stored_of s c) 1 ≡ length c / 2)
  counts_stored = (ap (λ W. get_or W 0 0) words_stored, ap (λ W. get_or W 1 0) words_stored)

  pub starts_of_stored : stored_starts (stored_of s c) ≡ s
  starts_of_stored =
      let t = sound s c whole in
      let n : length s - 1 + 1 ≡ length s = omega arith in
      rw words_stored (ap (λ k. take k (s ++ map unsigned c)) n ∙ take-append_seam s (map unsigned c))

  pub corners_of_stored : stored_corners (stored_of s c) ≡ c
  corners_of_stored =
      let t = sound s c whole in
      let n : length s - 1 + 3 ≡ suc (suc (length s)) = omega arith in
      rw words_stored (ap (λ k. map signed (drop k ((length s - 1) ∷ (length c / 2) ∷ (s ++ map unsigned c)))) n ∙ ap (map signed) (drop-append_seam s (map unsigned c)) ∙ signed_unsigned (fit_all c ranged))

  pub sized_stored : length_broken (stored_of s c) ≡ false
  unfolding length_broken
  sized_stored =
      let t = sound s c whole in
      let n : length (stored_of s c) ≡ size_of (word_at (stored_of s c) 0) (word_at (stored_of s c) 1) = omega (arith, length_stored s c, counts_stored.0, counts_stored.1, t.even) in
      rw (le-ltb (length (stored_of s c)) 8 (omega (arith, length_stored s c)), eq-eqb _ _ n)

  pub whole_stored : stored_broken (stored_of s c) ≡ false
  unfolding stored_broken
  whole_stored = rw (sized_stored, starts_of_stored, corners_of_stored) whole

  -- only the room is left to judge
  pub read_fault_of_stored : (rs rc : ℕ) → read_fault (stored_of s c) rs rc ≡ first_fault (room_kinds (table_parts s c) rs rc)
  unfolding read_fault
  read_fault_of_stored rs rc =
      first_next 7 _ whole_stored ∙ first_next 2 _ (ap off_range corners_of_stored ∙ ranged)
      ∙ (λ i. first_fault (room_kinds (table_parts (starts_of_stored i) (corners_of_stored i)) rs rc))

-- ---- bytes that are accepted

-- what no fault tells
pub record Accepted (bytes : List ℕ) (rs rc : ℕ) : Type 0 where
  pub sized_right : length_broken bytes ≡ false
  pub whole : table_broken (stored_starts bytes) (stored_corners bytes) ≡ false
  pub ranged : off_range (stored_corners bytes) ≡ false
  pub starts_room : word_at bytes 0 + 1 ≤ rs
  pub corners_room : word_at bytes 1 ≤ rc / 2

module _ (bytes : List ℕ) (e : length_broken bytes ≡ false) (whole : table_broken (stored_starts bytes) (stored_corners bytes) ≡ false) where
  -- the answer's counts
  pub stored_parts_lem : length (stored_parts bytes) ≡ word_at bytes 0
  stored_parts_lem = omega (arith, count_parts (stored_starts bytes) (stored_corners bytes) whole, count_starts bytes (sized bytes e))

  pub stored_starts_lem : length (starts_of (stored_parts bytes)) ≡ word_at bytes 0 + 1
  stored_starts_lem = ap length (starts_parts (stored_starts bytes) (stored_corners bytes) whole) ∙ count_starts bytes (sized bytes e)

  pub stored_corners_lem : length (flatten (stored_parts bytes)) ≡ word_at bytes 1
  stored_corners_lem = omega (arith, count_corners (stored_starts bytes) (stored_corners bytes) whole, count_numbers bytes (sized bytes e))

pub accepted : (bytes : List ℕ) (rs rc : ℕ) → read_fault bytes rs rc ≡ 0 → Accepted bytes rs rc
unfolding read_fault stored_broken
accepted bytes rs rc e =
    let f = first_none _ _ (omega arith) e in
    let g = first_none (off_range (stored_corners bytes)) _ (omega arith) f.1 in
    let h = first_none (ltb rs (length (starts_of (stored_parts bytes)))) _ (omega arith) g.1 in
    let i = first_none (ltb (rc / 2) (length (flatten (stored_parts bytes)))) _ (omega arith) h.1 in
    let l = either_false (length_broken bytes) _ f.0 in
    record {
      sized_right = l.0;
      whole = l.1;
      ranged = g.0;
      starts_room = omega (arith, ltb-false rs _ h.0, stored_starts_lem bytes l.0 l.1);
      corners_room = omega (arith, ltb-false (rc / 2) _ i.0, stored_corners_lem bytes l.0 l.1);
    }

-- written again, the same bytes
pub stored_of_read : {bytes : List ℕ} → All Byte bytes → length_broken bytes ≡ false → stored_of (stored_starts bytes) (stored_corners bytes) ≡ bytes
unfolding stored_of
stored_of_read {bytes} h e =
    let n = sized bytes e in
    let W : List ℕ = words_of bytes in
    let p : length (stored_starts bytes) - 1 ≡ word_at bytes 0 = omega (arith, count_starts bytes n) in
    let c : length (stored_corners bytes) / 2 ≡ word_at bytes 1 = omega (arith, count_numbers bytes n) in
    let u : map unsigned (stored_corners bytes) ≡ drop (word_at bytes 0 + 3) (words_of bytes) = unsigned_signed (all_drop (word_at bytes 0 + 3) (words_of bytes) (words_small bytes h)) in
    (λ i. word_bytes (p i ∷ c i ∷ (stored_starts bytes ++ u i)))
    ∙ ap word_bytes (apart 0 (words_of bytes) (word_at bytes 0) (omega (arith, count_words bytes n)))
    ∙ word_bytes_words (omega arith) h
  where
    all_drop : (k : ℕ) (l : List ℕ) → All Word l → All Word (drop k l)
    all_drop zero l h = h
    all_drop (suc k) [] h = tt
    all_drop (suc k) (x ∷ l) h = all_drop k l h.1
