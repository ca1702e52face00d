-- The bounds of a table's corners hold them (`bounds_hold`). In order: the least and the greatest
-- of words; the points of numbers; the table. Assumes nothing.
use mathlib.Core.Path.{◌≡◌, refl, ◌∙◌, ap}
use mathlib.Core.Bool.{true, false}
use mathlib.Core.List.{List, [], ◌∷◌, map}
use Prim.Native.Nat.{ℕ, zero, suc, ◌+◌, ◌*◌, ◌<◌, ◌≤◌}
use native.Mathlib.Omega.{arith}
use borrow.Author.Tests.{ltb-true, ltb-false}
use lib.Dec.{ltb}
use lib.ListN.{length, take, drop, get_or, length-drop}
use lib.Seq.{get_or-drop}
use lib.IntN.{ℤ}
use lib.Signed.{◌≤ℤ◌, lt_z}
use Rattle.integers.specs.Lists.{All}
use Rattle.integers.proofs.Order.{zarith, by_test, ≤_trans, <-≤}
use Rattle.integers.proofs.Tests.{≤-lt_z, ≤-le_z, lt_z-<, lt_z-≤}
use Rattle.plane.specs.Plane.{Pt}
use Rattle.table.specs.declared.IntRect.{IntRect}
use Rattle.table.specs.Table.{within_bounds, some_outside, bounds_broken}
use Rattle.corners.specs.Corners.{points_of}
use Rattle.table.specs.Stored.{words_of, word_at, signed}
use Rattle.table.proofs.Words.{length_words}
use Rattle.pairs_job.specs.Job.{corners_at, table_words}
use Rattle.tables_job.specs.Tables.{picked_of, extreme_of}
use Rattle.tables_job.specs.ReadBack.{bounds_in, BoundsHold}

-- ---- the least and the greatest of words

≤_refl : (z : ℤ) → z ≤ℤ z
≤_refl z = omega zarith

picked_least : (a b : ℕ) → (signed (picked_of false a b) ≤ℤ signed a) × (signed (picked_of false a b) ≤ℤ signed b)
picked_least a b =
    by_test (lt_z (signed b) (signed a))
    (λ t. rw t (<-≤ (lt_z-< (signed b) (signed a) t), ≤_refl (signed b)))
    (λ t. rw t (≤_refl (signed a), lt_z-≤ (signed b) (signed a) t))

picked_greatest : (a b : ℕ) → (signed a ≤ℤ signed (picked_of true a b)) × (signed b ≤ℤ signed (picked_of true a b))
picked_greatest a b =
    by_test (lt_z (signed a) (signed b))
    (λ t. rw t (<-≤ (lt_z-< (signed a) (signed b) t), ≤_refl (signed b)))
    (λ t. rw t (≤_refl (signed a), lt_z-≤ (signed a) (signed b) t))

module _ (bytes : List ℕ) (from : ℕ) where
  abbrev number : ℕ → ℤ
  number i = signed (word_at bytes (from + 2 * i))

  first_number : number 0 ≡ signed (word_at bytes from)
  first_number = let e : from + 2 * 0 ≡ from = omega arith in ap (λ k. signed (word_at bytes k)) e

  least : (n i : ℕ) → i < n → signed (extreme_of false bytes from n) ≤ℤ number i
  unfolding extreme_of
  least zero i h = absurd (omega arith)
  least (suc zero) zero h = rw first_number (≤_refl (signed (word_at bytes from)))
  least (suc zero) (suc i) h = absurd (omega arith)
  least (suc (suc n)) i h =
      let p = picked_least (extreme_of false bytes from (suc n)) (word_at bytes (from + 2 * suc n)) in
      by_test (ltb i (suc n))
      (λ t. ≤_trans p.0 (least (suc n) i (ltb-true i (suc n) t)))
      (λ t. let e : i ≡ suc n = omega (arith, ltb-false i (suc n) t) in rw e p.1)

  greatest : (n i : ℕ) → i < n → number i ≤ℤ signed (extreme_of true bytes from n)
  unfolding extreme_of
  greatest zero i h = absurd (omega arith)
  greatest (suc zero) zero h = rw first_number (≤_refl (signed (word_at bytes from)))
  greatest (suc zero) (suc i) h = absurd (omega arith)
  greatest (suc (suc n)) i h =
      let p = picked_greatest (extreme_of true bytes from (suc n)) (word_at bytes (from + 2 * suc n)) in
      by_test (ltb i (suc n))
      (λ t. ≤_trans (greatest (suc n) i (ltb-true i (suc n) t)) p.0)
      (λ t. let e : i ≡ suc n = omega (arith, ltb-false i (suc n) t) in rw e p.1)

  in_order : (n : ℕ) → signed (extreme_of false bytes from n) ≤ℤ signed (extreme_of true bytes from n)
  in_order zero = unfold extreme_of in ≤_refl (signed 0)
  in_order (suc n) = ≤_trans (least (suc n) 0 (omega arith)) (greatest (suc n) 0 (omega arith))

-- ---- the points of numbers

points_of_lem : (P : Pt → Type 0) (n : ℕ) (L : List ℕ) → 2 * n ≤ length L → ((i : ℕ) → i < n → P (record { x = signed (get_or L (2 * i) 0); y = signed (get_or L (2 * i + 1) 0) })) → All P (points_of (map signed (take (2 * n) L)))
unfolding points_of
points_of_lem P zero L h f = tt
points_of_lem P (suc n) [] h f = absurd (omega arith)
points_of_lem P (suc n) (a ∷ []) h f = absurd (omega arith)
points_of_lem P (suc n) (a ∷ b ∷ L) h f =
    let e : 2 * suc n ≡ suc (suc (2 * n)) = omega arith in
    rw e (f 0 (omega arith), points_of_lem P n L (omega arith) (λ i k. later k))
  where
    later : {i : ℕ} → i < n → P (record { x = signed (get_or L (2 * i) 0); y = signed (get_or L (2 * i + 1) 0) })
    later {i} k =
        let d : 2 * suc i + 1 ≡ suc (suc (2 * i + 1)) = omega arith in
        let c : 2 * suc i ≡ suc (suc (2 * i)) = omega arith in
        rw (d, c) at (f (suc i) (omega arith))

-- ---- the table

none_outside : (b : IntRect) (l : List Pt) → All (λ p. within_bounds b p ≡ true) l → some_outside b l ≡ false
unfolding some_outside
none_outside b [] h = refl
none_outside b (p ∷ l) h = rw h.0 (none_outside b l h.1)

module _ (bytes : List ℕ) (k : ℕ) (h : 4 * (k + table_words bytes k) ≤ length bytes) where
  abbrev f : ℕ
  f = k + 3 + word_at bytes k

  abbrev n : ℕ
  n = word_at bytes (k + 1)

  corner_within : (i : ℕ) → i < n → within_bounds (bounds_in bytes k) (record { x = signed (get_or (drop f (words_of bytes)) (2 * i) 0); y = signed (get_or (drop f (words_of bytes)) (2 * i + 1) 0) }) ≡ true
  unfolding within_bounds bounds_in
  corner_within i q =
      let u : get_or (drop f (words_of bytes)) (2 * i) 0 ≡ word_at bytes (f + 2 * i) = get_or-drop f (words_of bytes) (2 * i) 0 in
      let e : f + (2 * i + 1) ≡ f + 1 + 2 * i = omega arith in
      let v : get_or (drop f (words_of bytes)) (2 * i + 1) 0 ≡ word_at bytes (f + 1 + 2 * i) = get_or-drop f (words_of bytes) (2 * i + 1) 0 ∙ ap (word_at bytes) e in
      rw (u, v) (rw (≤-le_z (least bytes f n i q), ≤-le_z (greatest bytes f n i q), ≤-le_z (least bytes (f + 1) n i q), ≤-le_z (greatest bytes (f + 1) n i q)))

  all_within : All (λ p. within_bounds (bounds_in bytes k) p ≡ true) (points_of (corners_at bytes k))
  all_within = points_of_lem (λ p. within_bounds (bounds_in bytes k) p ≡ true) n (drop f (words_of bytes)) (omega (arith, length-drop f (words_of bytes), length_words bytes)) corner_within

pub bounds_hold : BoundsHold
unfolding bounds_broken bounds_in
bounds_hold bytes k h =
    rw (≤-lt_z (in_order bytes (f bytes k h) (n bytes k h)), ≤-lt_z (in_order bytes (f bytes k h + 1) (n bytes k h))) (none_outside (bounds_in bytes k) (points_of (corners_at bytes k)) (all_within bytes k h))
