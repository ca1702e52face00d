-- A table's rules by its starts and its counts (`by_starts`), and the front of a buffer that holds
-- what was read on it. Assumes nothing.
use mathlib.Core.Path.{◌≡◌, sym, ◌∙◌, ap}
use mathlib.Core.Bool.{false}
use mathlib.Core.List.{List}
use Prim.Native.Nat.{ℕ, ◌+◌, ◌*◌, ◌/◌, ◌%◌, ◌≤◌}
use native.Mathlib.Omega.{arith}
use borrow.Author.Tests.{ltb-false, le-ltb, eq-eqb}
use lib.Dec.{ltb}
use lib.ListN.{length, take}
use lib.IntN.{ℤ}
use Rattle.integers.specs.Lists.{overlay}
use Rattle.integers.proofs.Overlay.{take_overlay}
use Rattle.integers.proofs.Tests.{either_false}
use Rattle.table.specs.Table.{max_parts, max_corners, max_contour, part_count, starts_broken, table_broken}
use Rattle.table.specs.Stored.{word_at}
use Rattle.pairs_job.specs.Job.{starts_at, corners_at, table_words, counts_broken}
use Rattle.pairs_job.proofs.Sizes.{count_starts, count_numbers}

-- counts within the limits
pub within : (bytes : List ℕ) (k : ℕ) → counts_broken bytes k ≡ false → (word_at bytes k ≤ max_parts) × (word_at bytes (k + 1) ≤ max_corners)
within bytes k e =
    let f = either_false (ltb max_parts (word_at bytes k)) _ e in
    (ltb-false max_parts _ f.0, ltb-false max_corners _ f.1)

pub rules : (s : List ℕ) (c : List ℤ) {n : ℕ} → length c ≡ 2 * n → part_count s ≤ max_parts → n ≤ max_corners → starts_broken max_contour n s ≡ table_broken s c
unfolding table_broken
rules s c {n} e h k =
    let half : length c / 2 ≡ n = omega arith in
    rw (eq-eqb (length c % 2) 0 (omega arith), half, le-ltb max_parts (part_count s) h, le-ltb max_corners n k)

module _ (bytes : List ℕ) (k : ℕ) (h : 4 * (k + table_words bytes k) ≤ length bytes) (e : counts_broken bytes k ≡ false) where
  pub by_starts : {n : ℕ} {s : List ℕ} → n ≡ word_at bytes (k + 1) → s ≡ starts_at bytes k → starts_broken max_contour n s ≡ table_broken (starts_at bytes k) (corners_at bytes k)
  by_starts d p =
      let w = within bytes k e in
      (λ i. starts_broken max_contour (d i) (p i))
      ∙ rules (starts_at bytes k) (corners_at bytes k) (count_numbers bytes k h) (omega (arith, count_starts bytes k h, w.0)) w.1

-- ---- the front of a buffer that holds what was read

pub front : {A : Type 0} {new : List A} (old : List A) {buf : List A} {n : ℕ} → buf ≡ overlay new old → length new ≡ n → take n buf ≡ new
front {new} old {buf} e h = ap (λ m. take m buf) (sym h) ∙ ap (take (length new)) e ∙ take_overlay new old
