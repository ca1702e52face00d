-- A table that a pair job holds from word k on is a stored table (`table_stored`): the words of
-- bytes from a place on, and up to one, are words from a place on, and up to one. Assumes nothing.
use mathlib.Core.Path.{◌≡◌, refl, sym, ◌∙◌, ap}
use mathlib.Core.List.{List, [], ◌∷◌, map}
use Prim.Native.Nat.{ℕ, zero, suc, ◌+◌, ◌*◌}
use native.Mathlib.Omega.{arith}
use lib.ListN.{take, drop, get_or}
use lib.Seq.{take-nil, take-take, drop-drop, get_or-take, get_or-drop}
use Rattle.table.specs.Stored.{words_of, word_of, word_at, signed}
use Rattle.pairs_job.specs.Job.{table_words, table_bytes, TableStored}

four : (n : ℕ) → 4 * suc n ≡ suc (suc (suc (suc (4 * n))))
four n = omega arith

pub words_drop : (k : ℕ) (bs : List ℕ) → words_of (drop (4 * k) bs) ≡ drop k (words_of bs)
unfolding words_of
words_drop zero bs = refl
words_drop (suc k) [] = rw (four k)
words_drop (suc k) (a ∷ []) = rw (four k)
words_drop (suc k) (a ∷ b ∷ []) = rw (four k)
words_drop (suc k) (a ∷ b ∷ c ∷ []) = rw (four k)
words_drop (suc k) (a ∷ b ∷ c ∷ d ∷ bs) = rw (four k) (words_drop k bs)

pub words_take : (n : ℕ) (bs : List ℕ) → words_of (take (4 * n) bs) ≡ take n (words_of bs)
unfolding words_of
words_take zero bs = refl
words_take (suc n) [] = rw (four n)
words_take (suc n) (a ∷ []) = rw (four n)
words_take (suc n) (a ∷ b ∷ []) = rw (four n)
words_take (suc n) (a ∷ b ∷ c ∷ []) = rw (four n)
words_take (suc n) (a ∷ b ∷ c ∷ d ∷ bs) = rw (four n) (ap (λ ws. word_of a b c d ∷ ws) (words_take n bs))

drop-take : (m n : ℕ) (l : List ℕ) {j : ℕ} → j ≡ m + n → drop m (take j l) ≡ take n (drop m l)
drop-take zero n l {j} e =
    let i : j ≡ n = omega arith in
    ap (λ j. take j l) i
drop-take (suc m) n [] {j} e = ap (drop (suc m)) (take-nil j) ∙ sym (take-nil n)
drop-take (suc m) n (x ∷ l) {j} e =
    let i : j ≡ suc (m + n) = omega arith in
    ap (λ j. drop (suc m) (take j (x ∷ l))) i ∙ drop-take m n l {j = m + n} refl

module _ (bytes : List ℕ) (k : ℕ) where
  abbrev p : ℕ
  p = word_at bytes k

  abbrev q : ℕ
  q = word_at bytes (k + 1)

  abbrev W : List ℕ
  W = words_of bytes

  words_table : words_of (table_bytes bytes k) ≡ take (table_words bytes k) (drop k W)
  words_table = words_take (table_words bytes k) (drop (4 * k) bytes) ∙ ap (take (table_words bytes k)) (words_drop k bytes)

  parts_table : word_at (table_bytes bytes k) 0 ≡ p
  parts_table =
      let e : k + 0 ≡ k = omega arith in
      ap (λ ws. get_or ws 0 0) words_table ∙ get_or-take (table_words bytes k) (drop k W) 0 0 (omega arith) ∙ get_or-drop k W 0 0 ∙ ap (λ i. get_or W i 0) e

  -- past the first m words of the table
  rest_table : (m n : ℕ) → table_words bytes k ≡ m + n → drop m (words_of (table_bytes bytes k)) ≡ take n (drop (k + m) W)
  rest_table m n e =
      ap (drop m) words_table ∙ drop-take m n (drop k W) e ∙ ap (take n) (drop-drop m k W)

  place : k + (p + 3) ≡ k + 3 + p
  place = omega arith

  pub table_stored : TableStored bytes k
  table_stored = record {
    starts =
        sym
        (ap (λ j. take (j + 1) (drop 2 (words_of (table_bytes bytes k)))) parts_table
        ∙ ap (take (p + 1)) (rest_table 2 (1 + p + 2 * q) (omega arith))
        ∙ take-take (p + 1) (1 + p + 2 * q) (drop (k + 2) W) (omega arith));
    corners =
        ap (map signed)
        (sym
        (ap (λ j. drop (j + 3) (words_of (table_bytes bytes k))) parts_table ∙ rest_table (p + 3) (2 * q) (omega arith)
        ∙ ap (λ i. take (2 * q) (drop i W)) place));
  }
