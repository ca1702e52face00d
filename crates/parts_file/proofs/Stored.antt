-- What writing the split parts of an accepted file into room for any answers and leaves
-- (`stored_left`), and a refusal (`refused_left`). Assumes nothing.
use mathlib.Core.Path.{◌≡◌, sym, ◌∙◌, ap, subst}
use mathlib.Core.Bool.{cond}
use mathlib.Core.List.{List, flatten}
use Prim.Native.Nat.{ℕ, ◌+◌, ◌*◌, ◌≤◌}
use native.Mathlib.Omega.{arith}
use borrow.Author.Tests.{eq-eqb, ne_eqb}
use lib.Dec.{eqb}
use lib.ListN.{length, take, length-append, drop}
use lib.IntN.{ℤ}
use Rattle.io.specs.Counts.{IsPrefixLen as Counted}
use Rattle.io.proofs.Counting.{prefix_len_of_le as counted}
use Rattle.integers.proofs.Overlay.{length_overlay}
use Rattle.table.specs.Table.{starts_of, corners_of, written}
use Rattle.table.specs.Stored.{stored_of, write_fault}
use Rattle.table.specs.declared.Counts.{Counts}
use Rattle.table.proofs.Answers.{accepted_buffer, refused_buffer}
use Rattle.table.proofs.Parts.{length_starts}
use Rattle.corners.specs.Corners.{front_corners}
use Rattle.corners.proofs.Corners.{length_numbers}
use Rattle.table.proofs.StoredForm.{length_stored}
use Rattle.table_write.specs.declared.Stored.{Stored}
use Rattle.table_write.specs.Written.{answer_written, bytes_written}
use Rattle.table_write.proofs.Writing.{no_fault_write}
use Rattle.split.proofs.Sizes.{split_table}
use Rattle.listing.specs.File.{corner_limit, split_number, strategy_of, mesh_of, file_fault, file_parts}
use Rattle.listing.proofs.File.{accepted_mesh}
use Rattle.listing_fits.proofs.Files.{file_listable}
use Rattle.file_parts.proofs.Files.{Left, fault_is, starts_taken, corners_taken}
use Rattle.parts_file.specs.Parts.{parts_bytes, parts_answer}

module _ (bytes : List ℕ) (e : file_fault bytes ≡ 0) where
  -- they have at most 2,049 starts and 12,288 numbers
  pub parts_room : 8 + 4 * length (starts_of (file_parts bytes)) + 4 * length (corners_of (file_parts bytes)) ≤ 57356
  unfolding corners_of
  parts_room =
      let t = split_table (strategy_of (split_number bytes)) (corner_limit bytes) (mesh_of bytes) (accepted_mesh bytes e) in
      omega (arith, length_starts (file_parts bytes), length_numbers (flatten (file_parts bytes)), t.few_parts, t.few_corners)

  pub parts_written : {room : ℕ} → 57356 ≤ room → write_fault (starts_of (file_parts bytes)) (corners_of (file_parts bytes)) room ≡ 0
  parts_written {room} h =
      let l = (file_listable bytes e).listable in
      no_fault_write (starts_of (file_parts bytes)) (corners_of (file_parts bytes)) room l.whole l.ranged (omega (arith, parts_room))

  parts_length : length (parts_bytes bytes) ≤ 57356
  unfolding parts_bytes
  parts_length = omega (arith, parts_room, length_stored (starts_of (file_parts bytes)) (corners_of (file_parts bytes)))

-- what the call answers and leaves in lent bytes
abbrev pub Answered : List ℕ → List ℕ → Stored → List ℕ → Type 0
Answered bytes old r new = (r ≡ parts_answer bytes) × ((new ≡ written (file_fault bytes) (parts_bytes bytes) old) × Counted r.length new)

module _ (bytes s : List ℕ) (c : List ℤ) (old : List ℕ) {told : Counts} {s' : List ℕ} {c' : List ℤ} (left : Left bytes s c told s' c') where
  pub refused_left : (told.fault ≡ 0 → ⊥) → Answered bytes old (record { fault = told.fault; length = 0 }) old
  refused_left h =
      let q = fault_is bytes s c left in
      let n : file_fault bytes ≡ 0 → ⊥ = λ z. h (q ∙ z) in
      let a : record { fault = told.fault; length = 0 } ≡ parts_answer bytes = rw (ne_eqb (file_fault bytes) 0 n) (λ i. record { fault = q i; length = 0 }) in
      (a, (sym (refused_buffer n (parts_bytes bytes) old), counted 0 old (omega arith)))

  module _ (z : told.fault ≡ 0) (room : length old ≡ 57356) {l : List ℤ} (e : l ≡ front_corners told.corners c') {r : Stored} {new : List ℕ}
      (er : r ≡ answer_written (take (told.parts + 1) s') l old) (eb : new ≡ bytes_written (take (told.parts + 1) s') l old) where
    none : file_fault bytes ≡ 0
    none = sym (fault_is bytes s c left) ∙ z

    unfaulted : write_fault (starts_of (file_parts bytes)) (corners_of (file_parts bytes)) (length old) ≡ 0
    unfaulted = parts_written bytes none (omega (arith, room))

    answer_is : r ≡ parts_answer bytes
    unfolding parts_bytes
    answer_is =
        er ∙ (λ i. answer_written (starts_taken bytes s c left z i) ((e ∙ corners_taken bytes s c left z) i) old)
        ∙ ap (λ f. cond (eqb f 0) (record { fault = 0; length = length (stored_of (starts_of (file_parts bytes)) (corners_of (file_parts bytes))) }) (record { fault = f; length = 0 })) (unfaulted ∙ sym none)

    bytes_are : new ≡ written (file_fault bytes) (parts_bytes bytes) old
    unfolding parts_bytes
    bytes_are =
        eb ∙ (λ i. bytes_written (starts_taken bytes s c left z i) ((e ∙ corners_taken bytes s c left z) i) old)
        ∙ ap (λ f. written f (stored_of (starts_of (file_parts bytes)) (corners_of (file_parts bytes))) old) (unfaulted ∙ sym none)

    pub stored_left : Answered bytes old r new
    stored_left =
        let a : parts_answer bytes ≡ record { fault = 0; length = length (parts_bytes bytes) } = rw (eq-eqb (file_fault bytes) 0 none) in
        let k : r.length ≡ length (parts_bytes bytes) = ap (λ x. x.length) (answer_is ∙ a) in
        let l : length new ≡ length old = ap length (bytes_are ∙ accepted_buffer none (parts_bytes bytes) old) ∙ length_overlay (parts_bytes bytes) old (omega (arith, parts_length bytes none, room)) in
        (answer_is, (bytes_are, counted r.length new (omega (arith, k, l, parts_length bytes none, room))))
