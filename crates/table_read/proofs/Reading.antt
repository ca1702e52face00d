-- Bytes as the code reads them, word by word. In order: the length; start i; number i judged; the
-- fault, by the tests that the code makes; the room; the answer. Assumes nothing.
use mathlib.Core.Path.{◌≡◌, sym, ◌∙◌, ap}
use mathlib.Core.Bool.{Bool, true, false, not, cond}
use mathlib.Core.List.{List, ◌∷◌, map}
use Prim.Native.Nat.{ℕ, ◌+◌, ◌*◌, ◌-◌, ◌/◌, ◌%◌, ◌<◌, ◌≤◌}
use native.Mathlib.Nat.{add_comm}
use native.Mathlib.Numerals.{add-one}
use native.Mathlib.Omega.{arith}
use borrow.Author.Tests.{lt-ltb, le-ltb, eq-eqb}
use lib.Dec.{eqb, ltb}
use lib.ListN.{length, take, drop, get_or, drop_of_length-le}
use lib.Seq.{drop-cons, get_or-take, get_or-drop}
use lib.IntN.{ℤ}
use Rattle.integers.specs.Lists.{overlay}
use Rattle.plane.specs.Plane.{in_range}
use Rattle.corners.specs.Corners.{off_range}
use Rattle.table.specs.Table.{max_parts, max_corners, max_contour, steps_broken, starts_broken, table_broken}
use Rattle.table.specs.Stored.{words_of, word_at, signed, stored_starts, stored_corners, length_broken, stored_broken, stored_parts, read_fault}
use Rattle.integers.proofs.Faults.{first_this, first_next, first_empty}
use Rattle.table.proofs.Rules.{not_from_0, steps_begin, step_broken, step_passed, steps_end}
use Rattle.table.proofs.Words.{length_words}
use Rattle.table.proofs.Answers.{refused_counts, refused_buffer, accepted_counts, accepted_buffer}
use Rattle.table.proofs.StoredForm.{sized, count_starts, count_numbers, numbers_all, stored_parts_lem, stored_starts_lem, stored_corners_lem, accepted}
use Rattle.table_read.specs.Read.{fault_read, counts_read, starts_read, corners_read}

-- ---- the length

module _ (bytes : List ℕ) where
  pub too_short : length bytes < 8 → true ≡ length_broken bytes
  unfolding length_broken
  too_short h = rw (lt-ltb (length bytes) 8 h)

  pub by_counts : {p c : ℕ} → 8 ≤ length bytes → p ≡ word_at bytes 0 → c ≡ word_at bytes 1 → not (eqb (length bytes) (8 + 4 * (p + 1) + 8 * c)) ≡ length_broken bytes
  unfolding length_broken
  by_counts h e f = rw (le-ltb (length bytes) 8 h) (λ i. not (eqb (length bytes) (8 + 4 * (e i + 1) + 8 * f i)))

  -- ---- the rules

  pub broken_length : length_broken bytes ≡ true → stored_broken bytes ≡ true
  unfolding stored_broken
  broken_length e = rw e

  module _ (e : length_broken bytes ≡ false) where
    pub many_parts : max_parts < word_at bytes 0 → stored_broken bytes ≡ true
    unfolding stored_broken table_broken
    many_parts h =
        rw (
          e,
          eq-eqb (length (stored_corners bytes) % 2) 0 (omega (arith, count_numbers bytes (sized bytes e))),
          lt-ltb max_parts (length (stored_starts bytes) - 1) (omega (arith, count_starts bytes (sized bytes e))),
        )

    module _ (h : word_at bytes 0 ≤ max_parts) where
      pub many_corners : max_corners < word_at bytes 1 → stored_broken bytes ≡ true
      unfolding stored_broken table_broken
      many_corners k =
          rw (
            e,
            eq-eqb (length (stored_corners bytes) % 2) 0 (omega (arith, count_numbers bytes (sized bytes e))),
            le-ltb max_parts (length (stored_starts bytes) - 1) (omega (arith, count_starts bytes (sized bytes e))),
            lt-ltb max_corners (length (stored_corners bytes) / 2) (omega (arith, count_numbers bytes (sized bytes e))),
          )

      by_starts : word_at bytes 1 ≤ max_corners → stored_broken bytes ≡ starts_broken max_contour (word_at bytes 1) (stored_starts bytes)
      unfolding stored_broken table_broken
      by_starts k =
          let half : length (stored_corners bytes) / 2 ≡ word_at bytes 1 = omega (arith, count_numbers bytes (sized bytes e)) in
          rw (
            e,
            eq-eqb (length (stored_corners bytes) % 2) 0 (omega (arith, count_numbers bytes (sized bytes e))),
            le-ltb max_parts (length (stored_starts bytes) - 1) (omega (arith, count_starts bytes (sized bytes e))),
            le-ltb max_corners (length (stored_corners bytes) / 2) (omega (arith, count_numbers bytes (sized bytes e))),
            half,
          )

      pub from_starts : word_at bytes 1 ≤ max_corners → {n : ℕ} {r : Bool} → n ≡ word_at bytes 1 → r ≡ starts_broken max_contour n (stored_starts bytes) → r ≡ stored_broken bytes
      from_starts k p q = q ∙ ap (λ m. starts_broken max_contour m (stored_starts bytes)) p ∙ sym (by_starts k)

-- ---- start i is word i + 2

pub start_at : (bytes : List ℕ) {i : ℕ} → i < word_at bytes 0 + 1 → word_at bytes (i + 2) ≡ get_or (stored_starts bytes) i 0
start_at bytes {i} h =
    ap (λ k. get_or (words_of bytes) k 0) (add_comm i 2)
    ∙ sym (get_or-take (word_at bytes 0 + 1) (drop 2 (words_of bytes)) i 0 h ∙ get_or-drop 2 (words_of bytes) i 0)

module _ (bytes : List ℕ) (e : length_broken bytes ≡ false) (count : ℕ) where
  many : length (stored_starts bytes) ≡ word_at bytes 0 + 1
  many = count_starts bytes (sized bytes e)

  pub starts_not_0 : {w : ℕ} → w ≡ word_at bytes 2 → (w ≡ 0 → ⊥) → starts_broken max_contour count (stored_starts bytes) ≡ true
  starts_not_0 p h = not_from_0 max_contour count (stored_starts bytes) (λ z. h (p ∙ start_at bytes {i = 0} (omega arith) ∙ z))

  pub starts_at_0 : {w : ℕ} → w ≡ word_at bytes 2 → w ≡ 0 → starts_broken max_contour count (stored_starts bytes) ≡ steps_broken max_contour count 0 (drop 1 (stored_starts bytes))
  starts_at_0 p h = steps_begin max_contour count (stored_starts bytes) (λ z. omega (arith, many)) (sym (p ∙ start_at bytes {i = 0} (omega arith)) ∙ h)

  -- start i comes after `last`; r is whether it may not
  module _ (last : ℕ) {next i : ℕ} (h : i < word_at bytes 0 + 1) (p : next ≡ word_at bytes (i + 2)) {r : Bool} (f : r ≡ cond (ltb next last) true (ltb (last + max_contour) next)) where
    pub next_broken : r ≡ true → steps_broken max_contour count last (drop i (stored_starts bytes)) ≡ true
    next_broken k = step_broken max_contour count last (stored_starts bytes) (omega (arith, many)) (p ∙ start_at bytes h) f k

    pub next_passed : r ≡ false → steps_broken max_contour count last (drop i (stored_starts bytes)) ≡ steps_broken max_contour count next (drop (i + 1) (stored_starts bytes))
    next_passed k = step_passed max_contour count last (stored_starts bytes) (omega (arith, many)) (p ∙ start_at bytes h) f k

  pub last_start : (last i : ℕ) → word_at bytes 0 + 1 ≤ i → steps_broken max_contour count last (drop i (stored_starts bytes)) ≡ not (eqb last count)
  last_start last i h = steps_end max_contour count last (stored_starts bytes) {i = i} (omega (arith, many))

-- ---- number i, judged

module _ (bytes : List ℕ) {i : ℕ} (h : i < length bytes / 4) {r : Bool} {u : ℤ} (p : u ≡ signed (word_at bytes i)) (e : r ≡ in_range u) where
  number : map signed (drop i (words_of bytes)) ≡ u ∷ map signed (drop (i + 1) (words_of bytes))
  number =
      rw (add-one, p)
      (ap (map signed) (drop-cons (words_of bytes) i 0 (omega (arith, length_words bytes))))

  pub found : r ≡ false → off_range (map signed (drop i (words_of bytes))) ≡ true
  unfolding off_range
  found k = rw (number, ← e, k)

  pub passed : r ≡ true → off_range (map signed (drop i (words_of bytes))) ≡ off_range (map signed (drop (i + 1) (words_of bytes)))
  unfolding off_range
  passed k = rw (number, ← e, k)

pub none_found : (bytes : List ℕ) {i : ℕ} → length bytes / 4 ≤ i → off_range (map signed (drop i (words_of bytes))) ≡ false
unfolding off_range
none_found bytes {i} h = rw (drop_of_length-le (words_of bytes) {i = i} (omega (arith, length_words bytes)))

-- ---- the fault

module _ (bytes : List ℕ) (rs rc : ℕ) where
  pub fault_7 : stored_broken bytes ≡ true → read_fault bytes rs rc ≡ 7
  unfolding read_fault
  fault_7 e = first_this 7 _ e

  module _ (e : stored_broken bytes ≡ false) where
    pub fault_2 : off_range (stored_corners bytes) ≡ true → read_fault bytes rs rc ≡ 2
    unfolding read_fault
    fault_2 f = first_next 7 _ e ∙ first_this 2 _ f

    module _ (l : length_broken bytes ≡ false) (w : table_broken (stored_starts bytes) (stored_corners bytes) ≡ false) (f : off_range (stored_corners bytes) ≡ false) where
      pub fault_22 : rs < word_at bytes 0 + 1 → read_fault bytes rs rc ≡ 22
      unfolding read_fault
      fault_22 h = first_next 7 _ e ∙ first_next 2 _ f ∙ first_this 22 _ (lt-ltb rs _ (omega (arith, stored_starts_lem bytes l w)))

      module _ (h : word_at bytes 0 + 1 ≤ rs) where
        pub fault_21 : rc / 2 < word_at bytes 1 → read_fault bytes rs rc ≡ 21
        unfolding read_fault
        fault_21 k =
            first_next 7 _ e ∙ first_next 2 _ f ∙ first_next 22 _ (le-ltb rs _ (omega (arith, stored_starts_lem bytes l w)))
            ∙ first_this 21 _ (lt-ltb (rc / 2) _ (omega (arith, stored_corners_lem bytes l w)))

        pub no_fault_read : word_at bytes 1 ≤ rc / 2 → read_fault bytes rs rc ≡ 0
        unfolding read_fault
        no_fault_read k =
            first_next 7 _ e ∙ first_next 2 _ f ∙ first_next 22 _ (le-ltb rs _ (omega (arith, stored_starts_lem bytes l w)))
            ∙ first_next 21 _ (le-ltb (rc / 2) _ (omega (arith, stored_corners_lem bytes l w))) ∙ first_empty

-- ---- where the answer's words lie, and the room for them

pub record Room (bytes : List ℕ) (rs rc p c : ℕ) : Type 0 where
  pub starts_lie : 4 * (2 + (p + 1)) ≤ length bytes
  pub starts_fit : p + 1 ≤ rs
  pub corners_lie : 4 * (p + 3 + 2 * c) ≤ length bytes
  pub corners_fit : 2 * c ≤ rc

pub room : {bytes : List ℕ} {rs rc p c : ℕ} → read_fault bytes rs rc ≡ 0 → p ≡ word_at bytes 0 → c ≡ word_at bytes 1 → Room bytes rs rc p c
room {bytes} {rs} {rc} e f g =
    let a = accepted bytes rs rc e in
    let n = sized bytes a.sized_right in
    record { starts_lie = omega arith; starts_fit = omega (arith, a.starts_room); corners_lie = omega arith; corners_fit = omega (arith, a.corners_room) }

-- ---- the answer

module _ (bytes os : List ℕ) (oc : List ℤ) {f : ℕ} (e : f ≡ fault_read bytes os oc) where
  pub refused_read : (f ≡ 0 → ⊥) → (record { fault = f; parts = 0; corners = 0 } ≡ counts_read bytes os oc) × (os ≡ starts_read bytes os oc) × (oc ≡ corners_read bytes os oc)
  refused_read h =
      let n : fault_read bytes os oc ≡ 0 → ⊥ = λ z. h (e ∙ z) in (
        (λ i. record { fault = e i; parts = 0; corners = 0 }) ∙ sym (refused_counts n (stored_parts bytes)),
        sym (refused_buffer n (stored_starts bytes) os),
        sym (refused_buffer n (stored_corners bytes) oc),
      )

  pub accepted_read : f ≡ 0 → {p c : ℕ} {s : List ℕ} {z : List ℤ} → p ≡ word_at bytes 0 → c ≡ word_at bytes 1 → s ≡ overlay (take (p + 1) (drop 2 (words_of bytes))) os
      → z ≡ overlay (map signed (take (2 * c) (drop (p + 3) (words_of bytes)))) oc
      → (record { fault = f; parts = p; corners = c } ≡ counts_read bytes os oc) × (s ≡ starts_read bytes os oc) × (z ≡ corners_read bytes os oc)
  accepted_read h {p} {c} u v q r =
      let n : fault_read bytes os oc ≡ 0 = sym e ∙ h in
      let a = accepted bytes (length os) (length oc) n in
      let k = u ∙ sym (stored_parts_lem bytes a.sized_right a.whole) in
      let l = v ∙ sym (stored_corners_lem bytes a.sized_right a.whole) in (
        (λ i. record { fault = h i; parts = k i; corners = l i }) ∙ sym (accepted_counts n (stored_parts bytes)),
        q ∙ ap (λ m. overlay (take (m + 1) (drop 2 (words_of bytes))) os) u ∙ sym (accepted_buffer n (stored_starts bytes) os),
        r ∙ (λ i. overlay (map signed (take (2 * v i) (drop (u i + 3) (words_of bytes)))) oc) ∙ ap (λ m. overlay m oc) (numbers_all bytes (sized bytes a.sized_right))
            ∙ sym (accepted_buffer n (stored_corners bytes) oc),
      )
