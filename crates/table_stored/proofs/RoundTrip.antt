-- The round trips, of what the two calls answer and leave (`specs/RoundTrip.antt`): reading what
-- was written gives the table back (`read_back`), and what is accepted in reading, written again,
-- gives the same bytes (`written_again`). Places past the answer, in the lent bytes, starts and
-- corners, keep what they held. Assumes nothing.
use mathlib.Core.Path.{◌≡◌, sym, ◌∙◌, ap}
use mathlib.Core.List.{List, flatten}
use Prim.Native.Nat.{ℕ, ◌+◌, ◌*◌, ◌-◌, ◌/◌, ◌≤◌}
use native.Mathlib.Omega.{arith}
use borrow.Author.Tests.{le-ltb, eqb-true, eq-eqb}
use lib.Dec.{eqb}
use lib.ListN.{length, take, drop}
use lib.IntN.{ℤ}
use Rattle.integers.specs.Lists.{All, overlay}
use Rattle.integers.specs.Faults.{first_fault}
use Rattle.integers.proofs.Order.{by_test}
use Rattle.integers.proofs.Overlay.{take_overlay, drop_overlay}
use Rattle.table.specs.Table.{table_parts, room_kinds}
use Rattle.table.specs.Stored.{stored_starts, stored_corners, stored_parts, stored_of}
use Rattle.integers.proofs.Faults.{first_next, first_empty}
use Rattle.table.proofs.Answers.{accepted_counts, accepted_buffer}
use Rattle.table.proofs.Rules.{sound, starts_parts, count_parts, count_corners}
use Rattle.table.proofs.Words.{Byte}
use Rattle.table.proofs.StoredForm.{sized, count_starts, count_numbers, starts_of_stored, corners_of_stored, read_fault_of_stored, stored_parts_lem, stored_corners_lem, stored_of_read, length_stored, accepted}
use Rattle.table_read.specs.Read.{fault_read, counts_read, starts_read, corners_read}
use Rattle.table_write.specs.Written.{fault_written, answer_written, bytes_written}
use Rattle.table_write.proofs.Writing.{writes, no_fault_write}
use Rattle.table_stored.specs.RoundTrip.{starts_told, corners_told, bytes_told, ReadBack, WrittenAgain}

-- ---- written, then read

fault_told : (s : List ℕ) (c : List ℤ) (old : List ℕ) → (answer_written s c old).fault ≡ fault_written s c old
fault_told s c old =
    by_test (eqb (fault_written s c old) 0)
    (λ e. rw e (sym (eqb-true _ 0 e)))
    (λ e. rw e)

module _ (s : List ℕ) (c : List ℤ) (old : List ℕ) (e : fault_written s c old ≡ 0) where
  length_told : (answer_written s c old).length ≡ length (stored_of s c)
  length_told = rw (eq-eqb _ 0 e)

  bytes_left : bytes_written s c old ≡ overlay (stored_of s c) old
  bytes_left = accepted_buffer e (stored_of s c) old

  pub bytes_told_lem : bytes_told s c old ≡ stored_of s c
  bytes_told_lem = (λ i. take (length_told i) (bytes_left i)) ∙ take_overlay (stored_of s c) old

  past_told : drop (answer_written s c old).length (bytes_written s c old) ≡ drop (answer_written s c old).length old
  past_told = (λ i. drop (length_told i) (bytes_left i)) ∙ drop_overlay (stored_of s c) old ∙ ap (λ n. drop n old) (sym length_told)

-- only the room is judged again
pub read_only_room : (s : List ℕ) (c : List ℤ) (old os : List ℕ) (oc : List ℤ) → (answer_written s c old).fault ≡ 0
    → fault_read (bytes_told s c old) os oc ≡ first_fault (room_kinds (table_parts s c) (length os) (length oc))
read_only_room s c old os oc e =
    let f = sym (fault_told s c old) ∙ e in
    let w = writes s c (length old) f in
    ap (λ b. fault_read b os oc) (bytes_told_lem s c old f) ∙ read_fault_of_stored s c w.whole w.ranged (length os) (length oc)

pub read_back : (s : List ℕ) (c : List ℤ) (old os : List ℕ) (oc : List ℤ) → (answer_written s c old).fault ≡ 0 → length s ≤ length os → length c ≤ length oc → ReadBack s c old os oc
read_back s c old os oc e hs hc =
    let f = sym (fault_told s c old) ∙ e in
    let w = writes s c (length old) f in
    let t = sound s c w.whole in
    let b = bytes_told_lem s c old f in
    let p : stored_parts (bytes_told s c old) ≡ table_parts s c = ap stored_parts b ∙ (λ i. table_parts (starts_of_stored s c w.whole w.ranged i) (corners_of_stored s c w.whole w.ranged i)) in
    let n : fault_read (bytes_told s c old) os oc ≡ 0 =
    read_only_room s c old os oc e ∙ first_next 22 _ (le-ltb (length os) _ (omega (arith, ap length (starts_parts s c w.whole))))
    ∙ first_next 21 _ (le-ltb (length oc / 2) _ (omega (arith, count_corners s c w.whole))) ∙ first_empty in
    let k = ap length p ∙ count_parts s c w.whole in
    let l = ap (λ q. length (flatten q)) p ∙ count_corners s c w.whole in
    record {
      counts = accepted_counts n (stored_parts (bytes_told s c old)) ∙ (λ i. record { fault = 0; parts = k i; corners = l i });
      starts = accepted_buffer n (stored_starts (bytes_told s c old)) os ∙ ap (λ r. overlay r os) (ap stored_starts b ∙ starts_of_stored s c w.whole w.ranged);
      corners = accepted_buffer n (stored_corners (bytes_told s c old)) oc ∙ ap (λ r. overlay r oc) (ap stored_corners b ∙ corners_of_stored s c w.whole w.ranged);
      past = past_told s c old f;
    }

-- ---- read, then written again

read_told : (bytes os : List ℕ) (oc : List ℤ) → (counts_read bytes os oc).fault ≡ fault_read bytes os oc
read_told bytes os oc =
    by_test (eqb (fault_read bytes os oc) 0)
    (λ e. rw e (sym (eqb-true _ 0 e)))
    (λ e. rw e)

module _ (bytes os : List ℕ) (oc : List ℤ) (e : fault_read bytes os oc ≡ 0) where
  parts_many : (counts_read bytes os oc).parts + 1 ≡ length (stored_starts bytes)
  parts_many =
      let a = accepted bytes (length os) (length oc) e in
      let k = ap (λ r. r.parts) (accepted_counts e (stored_parts bytes)) ∙ stored_parts_lem bytes a.sized_right a.whole in
      omega (arith, k, count_starts bytes (sized bytes a.sized_right))

  corners_many : 2 * (counts_read bytes os oc).corners ≡ length (stored_corners bytes)
  corners_many =
      let a = accepted bytes (length os) (length oc) e in
      let k = ap (λ r. r.corners) (accepted_counts e (stored_parts bytes)) ∙ stored_corners_lem bytes a.sized_right a.whole in
      omega (arith, k, count_numbers bytes (sized bytes a.sized_right))

  starts_left : starts_read bytes os oc ≡ overlay (stored_starts bytes) os
  starts_left = accepted_buffer e (stored_starts bytes) os

  corners_left : corners_read bytes os oc ≡ overlay (stored_corners bytes) oc
  corners_left = accepted_buffer e (stored_corners bytes) oc

  starts_told_lem : starts_told bytes os oc ≡ stored_starts bytes
  starts_told_lem = (λ i. take (parts_many i) (starts_left i)) ∙ take_overlay (stored_starts bytes) os

  corners_told_lem : corners_told bytes os oc ≡ stored_corners bytes
  corners_told_lem = (λ i. take (corners_many i) (corners_left i)) ∙ take_overlay (stored_corners bytes) oc

pub written_again : {bytes os : List ℕ} {oc : List ℤ} {buf : List ℕ} → All Byte bytes → (counts_read bytes os oc).fault ≡ 0 → length bytes ≤ length buf → WrittenAgain bytes os oc buf
written_again {bytes} {os} {oc} {buf} h e room =
    let f = sym (read_told bytes os oc) ∙ e in
    let a = accepted bytes (length os) (length oc) f in
    let s = starts_told_lem bytes os oc f in
    let c = corners_told_lem bytes os oc f in
    let same : stored_of (stored_starts bytes) (stored_corners bytes) ≡ bytes = stored_of_read h a.sized_right in
    let n : fault_written (stored_starts bytes) (stored_corners bytes) buf ≡ 0 =
    no_fault_write (stored_starts bytes) (stored_corners bytes) (length buf) a.whole a.ranged
    (omega (arith, length_stored (stored_starts bytes) (stored_corners bytes), ap length same)) in
    record {
      answer = (λ i. answer_written (s i) (c i) buf) ∙ rw (eq-eqb _ 0 n) (λ i. record { fault = 0; length = length (same i) });
      bytes_same = (λ i. bytes_written (s i) (c i) buf) ∙ accepted_buffer n _ buf ∙ ap (λ b. overlay b buf) same;
      past_starts = (λ i. drop (parts_many bytes os oc f i) (starts_left bytes os oc f i)) ∙ drop_overlay (stored_starts bytes) os ∙ ap (λ k. drop k os) (sym (parts_many bytes os oc f));
      past_corners = (λ i. drop (corners_many bytes os oc f i) (corners_left bytes os oc f i)) ∙ drop_overlay (stored_corners bytes) oc ∙ ap (λ k. drop k oc) (sym (corners_many bytes os oc f));
    }
