-- The job of two files, as the code puts it: room for both operands; the words of both; a refusal;
-- what is answered and left. Assumes nothing.
use mathlib.Core.Path.{◌≡◌, refl, sym, ◌∙◌, ap, subst}
use mathlib.Core.List.{List, [], ◌∷◌, ◌++◌, flatten}
use Prim.Native.Nat.{ℕ, ◌+◌, ◌*◌, ◌-◌, ◌<◌, ◌≤◌}
use native.Mathlib.Omega.{arith}
use borrow.Author.Tests.{eq-eqb, ne_eqb, ltb-false}
use lib.Dec.{eqb, ltb}
use lib.ListN.{length, take, drop, length-append}
use lib.Seq.{length-take-le}
use lib.IntN.{ℤ}
use Rattle.io.specs.Counts.{IsPrefixLen as Counted}
use Rattle.io.proofs.Counting.{prefix_len_of_le as counted}
use Rattle.integers.specs.Lists.{overlay}
use Rattle.integers.proofs.Faults.{first_none}
use Rattle.table.specs.declared.IntRect.{IntRect}
use Rattle.table.specs.Table.{starts_of, corners_of, written}
use Rattle.table.specs.Stored.{word_bytes, word_at}
use Rattle.table.proofs.Answers.{accepted_buffer, refused_buffer}
use Rattle.table.proofs.Parts.{length_starts}
use Rattle.corners.specs.Corners.{front_corners}
use Rattle.corners.proofs.Corners.{length_numbers}
use Rattle.table.proofs.Words.{length-word_bytes}
use Rattle.table_words.specs.Place.{put_words}
use Rattle.table_words.proofs.Places.{put_front}
use Rattle.table_write.specs.declared.Stored.{Stored}
use Rattle.split.proofs.Sizes.{split_table}
use Rattle.listing.specs.File.{corner_limit, split_number, strategy_of, mesh_of, file_parts}
use Rattle.listing.proofs.File.{accepted_mesh}
use Rattle.mesh_operand.specs.declared.Taken.{Taken}
use Rattle.mesh_operand.specs.Operand.{Held, mesh_operand}
use Rattle.mesh_pair.specs.declared.Two.{Two}
use Rattle.mesh_pair.specs.Files.{left_file, right_file, files_fault, left_operand, right_operand, TwoTaken}
use Rattle.mesh_pair.proofs.Files.{rest_of}
use Rattle.meshes_job.specs.Job.{operand_words, job_bytes, operation_fault, meshes_fault, job_of, job_answer}
use Rattle.meshes_job.specs.Putting.{OperandRoom, OperandPut, words_from, JobRoom, JobPut}
use Rattle.meshes_job.proofs.Putting.{put_kept, put_on, operand_length}

-- ---- a file's operand has at most 2,048 parts and 6,144 corners

pub few_held : {file : List ℕ} {u : Taken} {s : List ℕ} {c : List ℤ} → Held file u s c → (u.parts + 1 ≤ 2049) × (2 * u.corners ≤ 12288)
unfolding corners_of
few_held {file} {u} {s} {c} h =
    let w = split_table (strategy_of (split_number file)) (corner_limit file) (mesh_of file) (accepted_mesh file h.accepted) in
    (omega (arith, length-take-le (u.parts + 1) s h.starts_in, ap length h.starts, length_starts (file_parts file), w.few_parts), omega (arith, length-take-le (2 * u.corners) c h.corners_in, ap length h.corners, length_numbers (flatten (file_parts file)), w.few_corners))

-- ---- room for both operands

module _ (op : ℕ) (lb : IntRect) (ls : List ℕ) (lc : List ℤ) (rb : IntRect) (rs : List ℕ) (rc : List ℤ) (old : List ℕ) (room : JobRoom ls lc rs rc old) where
  few_left : length (words_from lb ls lc) ≤ 14343
  few_left = omega (arith, operand_length lb ls lc, room.few_left_starts, room.few_left_numbers)

  few_right : length (words_from rb rs rc) ≤ 14343
  few_right = omega (arith, operand_length rb rs rc, room.few_right_starts, room.few_right_numbers)

  pub few_words : length (op ∷ (words_from lb ls lc ++ words_from rb rs rc)) ≤ 28687
  few_words = omega (arith, length-append (words_from lb ls lc) (words_from rb rs rc), few_left, few_right)

  module _ {o₁ : List ℕ} (e₁ : o₁ ≡ put_words 0 (op ∷ []) old) where
    first_kept : length o₁ ≡ length old
    first_kept = put_kept 0 (op ∷ []) old (omega (arith, room.room)) e₁

    pub left_room : OperandRoom ls lc 1 o₁
    left_room = record {
      some = room.some_left;
      few_starts = room.few_left_starts;
      few_numbers = room.few_left_numbers;
      few_before = omega arith;
      room = omega (arith, room.few_left_starts, room.few_left_numbers, first_kept, room.room);
    }

    module _ {o₂ : List ℕ} {at : ℕ} (l : OperandPut lb ls lc 1 o₁ o₂ at) where
      second_kept : length o₂ ≡ length old
      second_kept = put_kept 1 (words_from lb ls lc) o₁ (omega (arith, few_left, first_kept, room.room)) l.bytes ∙ first_kept

      pub right_room : OperandRoom rs rc at o₂
      right_room = record {
        some = room.some_right;
        few_starts = room.few_right_starts;
        few_numbers = room.few_right_numbers;
        few_before = omega (arith, l.after, few_left);
        room = omega (arith, l.after, few_left, room.few_right_starts, room.few_right_numbers, second_kept, room.room);
      }

      module _ {o₃ : List ℕ} {end : ℕ} (r : OperandPut rb rs rc at o₂ o₃ end) where
        pub end_small : end ≤ 28687
        end_small = omega (arith, r.after, l.after, few_left, few_right)

        pub job_put : JobPut op (words_from lb ls lc) (words_from rb rs rc) old o₃ (4 * end)
        job_put =
            let t₂ = put_on 0 (op ∷ []) (words_from lb ls lc) old (omega (arith, room.room)) (omega arith) e₁ l.bytes in
            let h : 4 * (0 + length (op ∷ words_from lb ls lc)) ≤ length old = omega (arith, few_left, room.room) in
            let n : at ≡ 0 + length (op ∷ words_from lb ls lc) = omega (arith, l.after) in
            record {
              after = omega (arith, r.after, l.after, length-append (words_from lb ls lc) (words_from rb rs rc));
              bytes = put_on 0 (op ∷ words_from lb ls lc) (words_from rb rs rc) old h n t₂ r.bytes;
            }

-- ---- the answer

module _ (bytes : List ℕ) where
  pub enough : operation_fault bytes ≡ 0 → 4 ≤ length bytes
  unfolding operation_fault
  enough e = ltb-false (length bytes) 4 (first_none _ _ (omega arith) e).0

  abbrev pub Answered : List ℕ → Stored → List ℕ → Type 0
  Answered old r new = (r ≡ job_answer bytes) × ((new ≡ written (meshes_fault bytes) (job_of bytes) old) × Counted r.length new)

  refused : (old : List ℕ) {f : ℕ} → f ≡ meshes_fault bytes → (f ≡ 0 → ⊥) → Answered old (record { fault = f; length = 0 }) old
  refused old {f} e h =
      let n : meshes_fault bytes ≡ 0 → ⊥ = λ z. h (e ∙ z) in
      let a : record { fault = f; length = 0 } ≡ job_answer bytes = rw (ne_eqb (meshes_fault bytes) 0 n) (λ i. record { fault = e i; length = 0 }) in
      (a, (sym (refused_buffer n (job_of bytes) old), counted 0 old (omega arith)))

  pub operation_refused : (old : List ℕ) {f : ℕ} → f ≡ operation_fault bytes → (f ≡ 0 → ⊥) → Answered old (record { fault = f; length = 0 }) old
  unfolding meshes_fault
  operation_refused old {f} e h = refused old (e ∙ rw (ne_eqb (operation_fault bytes) 0 (λ z. h (e ∙ z)))) h

  files_told : operation_fault bytes ≡ 0 → meshes_fault bytes ≡ files_fault (drop 4 bytes)
  unfolding meshes_fault
  files_told e = rw (eq-eqb (operation_fault bytes) 0 e)

  -- the files as a slice has them
  pub rest_taken : {t : Two} {ls : List ℕ} {lc : List ℤ} {rs : List ℕ} {rc : List ℤ} → TwoTaken (take (length bytes - 4) (drop 4 bytes)) t ls lc rs rc → TwoTaken (drop 4 bytes) t ls lc rs rc
  rest_taken {t} {ls} {lc} {rs} {rc} k = subst (λ x. TwoTaken x t ls lc rs rc) (rest_of bytes 4) k

  module _ (z : operation_fault bytes ≡ 0) {t : Two} {ls : List ℕ} {lc : List ℤ} {rs : List ℕ} {rc : List ℤ} (k : TwoTaken (drop 4 bytes) t ls lc rs rc) where
    pub files_refused : (old : List ℕ) → (t.fault ≡ 0 → ⊥) → Answered old (record { fault = t.fault; length = 0 }) old
    files_refused old h = refused old (k.fault ∙ sym (files_told z)) h

    module _ (y : t.fault ≡ 0) where
      pub few_left_parts : (t.left.parts + 1 ≤ 2049) × (2 * t.left.corners ≤ 12288)
      few_left_parts = few_held (k.left_held y)

      pub few_right_parts : (t.right.parts + 1 ≤ 2049) × (2 * t.right.corners ≤ 12288)
      few_right_parts = few_held (k.right_held y)

      -- the corners as the code takes them
      module _ {lf rf : List ℤ} (el : lf ≡ front_corners t.left.corners lc) (er : rf ≡ front_corners t.right.corners rc) where
        pub job_room : {old : List ℕ} → 114748 ≤ length old → JobRoom (take (t.left.parts + 1) ls) lf (take (t.right.parts + 1) rs) rf old
        job_room h =
            let l = k.left_held y in
            let r = k.right_held y in
            let a = length-take-le (t.left.parts + 1) ls l.starts_in in
            let b = ap length el ∙ length-take-le (2 * t.left.corners) lc l.corners_in in
            let d = length-take-le (t.right.parts + 1) rs r.starts_in in
            let e = ap length er ∙ length-take-le (2 * t.right.corners) rc r.corners_in in
            record {
              some_left = omega (arith, a);
              some_right = omega (arith, d);
              few_left_starts = omega (arith, a, few_left_parts.0);
              few_left_numbers = omega (arith, b, few_left_parts.1);
              few_right_starts = omega (arith, d, few_right_parts.0);
              few_right_numbers = omega (arith, e, few_right_parts.1);
              room = h;
            }

        abbrev pub left_put : List ℕ
        left_put = words_from t.left.bounds (take (t.left.parts + 1) ls) lf

        abbrev pub right_put : List ℕ
        right_put = words_from t.right.bounds (take (t.right.parts + 1) rs) rf

        words_are : {op : ℕ} → op ≡ word_at bytes 0 → word_bytes (op ∷ (left_put ++ right_put)) ≡ job_of bytes
        unfolding job_of job_bytes
        words_are e =
            let l = k.left_held y in
            let r = k.right_held y in
            (λ i. word_bytes (e i ∷ (operand_words (record { starts = l.starts i; corners = (el ∙ l.corners) i; bounds = l.bounds i }) ++ operand_words (record { starts = r.starts i; corners = (er ∙ r.corners) i; bounds = r.bounds i }))))

        pub job_answered : {old : List ℕ} → 114748 ≤ length old → {op size : ℕ} {new : List ℕ} → op ≡ word_at bytes 0 → JobPut op left_put right_put old new size → Answered old (record { fault = t.fault; length = size }) new
        job_answered {old} h {op} {size} {new} e p =
            let W = op ∷ (left_put ++ right_put) in
            let none : meshes_fault bytes ≡ 0 = files_told z ∙ sym k.fault ∙ y in
            let n : size ≡ length (job_of bytes) = p.after ∙ sym (length-word_bytes W) ∙ ap length (words_are e) in
            let b : new ≡ written (meshes_fault bytes) (job_of bytes) old = p.bytes ∙ put_front W old ∙ ap (λ x. overlay x old) (words_are e) ∙ sym (accepted_buffer none (job_of bytes) old) in
            let a : record { fault = t.fault; length = size } ≡ job_answer bytes = rw (eq-eqb (meshes_fault bytes) 0 none) (λ i. record { fault = y i; length = n i }) in
            let c : length W ≤ 28687 = few_words op t.left.bounds _ _ t.right.bounds _ _ old (job_room h) in
            (a, (b, counted size new (omega (arith, p.after, c, put_kept 0 W old (omega (arith, c)) p.bytes))))
