-- Lists that a record holds, as the code reads them: laws of specs/Record.antt. In order: what was
-- read (`listed`); how many words can be read, and that those are all that there are
-- (`taken_words`); rows, one more a turn. Assumes nothing.
use mathlib.Core.Path.{◌≡◌, refl, sym, ◌∙◌, ap}
use mathlib.Core.List.{List, [], ◌∷◌, ◌++◌, map-append}
use Prim.Native.Nat.{ℕ, ◌+◌, ◌-◌, ◌/◌, ◌≤◌, ◌<◌, min}
use native.Mathlib.Numerals.{add-one}
use native.Mathlib.Omega.{arith}
use lib.IntN.{ℤ}
use lib.ListN.{length, take, drop, set, length-take, length-drop, length-map, take-append-drop}
use lib.Seq.{length-take-le, take-append_seam}
use Rattle.integers.specs.Lists.{overlay, up_to}
use Rattle.integers.proofs.Counting.{up_to-suc, length-up_to}
use Rattle.integers.proofs.Overlay.{overlay_nil, overlay_turn, length_overlay}
use Rattle.table.specs.Stored.{words_of, signed}
use Rattle.table.proofs.Words.{length_words}
use Rattle.records.specs.Record.{Counted, Listed, Readable, words_in, numbers_in, row_in, rows_in}

pub counted : {A : Type 0} {n : ℕ} (l : List A) → n ≤ length l → Counted n l
counted {n} l h = (h, sym (length-take-le n l h))

module _ {A : Type 0} (new old : List A) where
  pub listed : {told : ℕ} {out : List A} → told ≡ length new → length new ≤ length old → out ≡ overlay new old → Listed new old told out
  listed {told} {out} e h p =
      let w : told ≤ length out = omega (arith, e, h, ap length p, length_overlay new old h) in
      record { count = e; places = p; within = counted out w }

  -- nothing is read
  pub none_listed : 0 ≡ length new → Listed new old 0 old
  none_listed e = listed e (omega arith) (sym (empty new (sym e)))
    where
      empty : (l : List A) → length l ≡ 0 → overlay l old ≡ old
      empty [] h = overlay_nil old
      empty (x ∷ l) h = absurd (omega arith)

-- ---- words

module _ (r : List ℕ) (k : ℕ) where
  pub none_readable : (n : ℕ) → length r / 4 < k → Readable r k n 0
  unfolding words_in
  none_readable n h = record {
    count = omega (arith, length-take n (drop k (words_of r)), length-drop k (words_of r), length_words r);
    few = omega arith;
    there = λ z. absurd (omega arith);
  }

  pub some_readable : (n room : ℕ) {m t : ℕ} → k ≤ length r / 4 → m ≡ min n room → t ≡ min m (length r / 4 - k) → Readable r k (min n room) t
  unfolding words_in
  some_readable n room {m} {t} h e f = record {
    count = omega (arith, length-take (min n room) (drop k (words_of r)), length-drop k (words_of r), length_words r);
    few = omega arith;
    there = λ z. omega arith;
  }

  pub length_numbers : (n : ℕ) → length (numbers_in r k n) ≡ length (words_in r k n)
  unfolding numbers_in
  length_numbers n = length-map (words_in r k n) signed

-- as many words as can be read are all of them
pub taken_words : (r : List ℕ) (k n : ℕ) {told : ℕ} → told ≡ length (words_in r k n) → take told (drop k (words_of r)) ≡ words_in r k n
unfolding words_in
taken_words r k n e =
    let l = drop k (words_of r) in
    ap (λ m. take m l) e ∙ ap (take (length (take n l))) (sym (take-append-drop n l)) ∙ take-append_seam (take n l) (drop n l)

-- ---- rows

module _ (r : List ℕ) where
  pub no_rows : rows_in r 0 ≡ []
  unfolding rows_in up_to
  no_rows = refl

  pub length_rows : (k : ℕ) → length (rows_in r k) ≡ k
  unfolding rows_in
  length_rows k = length-map (up_to k) (row_in r) ∙ length-up_to k

  rows_more : (k : ℕ) → rows_in r (k + 1) ≡ rows_in r k ++ (row_in r k ∷ [])
  unfolding rows_in
  rows_more k = rw (add-one, up_to-suc, map-append)

  pub row_more : (old : List (List ℤ)) {buf : List (List ℤ)} {k : ℕ} {v : List ℤ} → k < length old → buf ≡ overlay (rows_in r k) old → v ≡ row_in r k
      → set buf k v ≡ overlay (rows_in r (k + 1)) old
  row_more old {buf} {k} h p q =
      ap (set buf k) q ∙ overlay_turn (rows_in r k) old (row_in r k) p (length_rows k) h ∙ ap (λ l. overlay l old) (sym (rows_more k))
