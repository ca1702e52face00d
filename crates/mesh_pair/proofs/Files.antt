-- Where two files are cut, and what is told of both. Assumes nothing.
use mathlib.Core.Path.{◌≡◌, refl, sym, ◌∙◌, ap, subst}
use mathlib.Core.Bool.{Bool, true, false}
use mathlib.Core.List.{List, [], ◌∷◌}
use Prim.Native.Nat.{ℕ, ◌-◌, ◌<◌, ◌≤◌, min}
use native.Mathlib.Omega.{arith}
use borrow.Author.Tests.{eq-eqb, ne_eqb, ltb-true, ltb-false}
use lib.Dec.{ltb}
use lib.ListN.{length, take, drop, get_or, length-drop, drop_of_length-le}
use lib.Seq.{take-length, take_all}
use lib.IntN.{ℤ}
use Rattle.table.specs.Stored.{words_of, word_at}
use Rattle.table.proofs.Words.{length_words}
use Rattle.listing.specs.File.{file_fault}
use Rattle.mesh_operand.specs.declared.Taken.{Taken}
use Rattle.mesh_operand.specs.Operand.{TakenFrom}
use Rattle.mesh_pair.specs.Files.{left_file, right_file, files_fault, Cut, TwoTaken}

-- no word where there are fewer than four bytes
no_word : (l : List ℕ) → length l ≡ 0 → get_or l 0 0 ≡ 0
no_word [] e = refl
no_word (x ∷ l) e = absurd (omega (arith, e))

pub cut_none : {bytes : List ℕ} → length bytes < 4 → Cut bytes 0
unfolding left_file right_file
cut_none {bytes} h =
    let z : word_at bytes 0 ≡ 0 = no_word (words_of bytes) (omega (arith, length_words bytes)) in
    record { inside = omega arith; left = ap (λ n. take n bytes) (sym z); right = ap (λ n. drop n bytes) (sym z) }

cut_past : {bytes : List ℕ} {total : ℕ} → total ≡ word_at bytes 0 → length bytes < total → Cut bytes (length bytes)
unfolding left_file right_file
cut_past {bytes} {total} e h = record {
  inside = omega arith;
  left = take-length bytes ∙ sym (take_all (word_at bytes 0) bytes (omega (arith, e)));
  right = drop_of_length-le bytes {i = length bytes} (omega arith) ∙ sym (drop_of_length-le bytes {i = word_at bytes 0} (omega (arith, e)));
}

cut_at : {bytes : List ℕ} {total : ℕ} → total ≡ word_at bytes 0 → total ≤ length bytes → Cut bytes total
unfolding left_file right_file
cut_at {bytes} e h = record { inside = h; left = ap (λ n. take n bytes) e; right = ap (λ n. drop n bytes) e }

-- at a total, or at the end where there are fewer bytes
pub cut_least : {bytes : List ℕ} {total n : ℕ} → total ≡ word_at bytes 0 → n ≡ min total (length bytes) → Cut bytes n
cut_least {bytes} {total} {n} e h = of (ltb (length bytes) total) refl
  where
    of : (t : Bool) → ltb (length bytes) total ≡ t → Cut bytes n
    of true t = let m : length bytes ≡ n = omega (arith, h, ltb-true (length bytes) total t) in subst (Cut bytes) m (cut_past e (ltb-true (length bytes) total t))
    of false t = let m : total ≡ n = omega (arith, h, ltb-false (length bytes) total t) in subst (Cut bytes) m (cut_at e (ltb-false (length bytes) total t))

-- ---- both

pub taken_as : {f g : List ℕ} {t : Taken} {s : List ℕ} {c : List ℤ} → f ≡ g → TakenFrom f t s c → TakenFrom g t s c
taken_as {t = t} {s = s} {c = c} e h = subst (λ x. TakenFrom x t s c) e h

module _ {bytes : List ℕ} {ls : List ℕ} {lc : List ℤ} {t : Taken} (l : TakenFrom (left_file bytes) t ls lc) where
  pub left_refused : (t.fault ≡ 0 → ⊥) → (rs : List ℕ) (rc : List ℤ) → TwoTaken bytes (record { fault = t.fault; left = t; right = t }) ls lc rs rc
  unfolding files_fault
  left_refused h rs rc = record {
    fault = l.fault ∙ rw (ne_eqb (file_fault (left_file bytes)) 0 (λ z. h (l.fault ∙ z)));
    left_held = λ z. absurd (h z);
    right_held = λ z. absurd (h z);
  }

  pub both_taken : t.fault ≡ 0 → {rs : List ℕ} {rc : List ℤ} {u : Taken} → TakenFrom (right_file bytes) u rs rc → TwoTaken bytes (record { fault = u.fault; left = t; right = u }) ls lc rs rc
  unfolding files_fault
  both_taken z r = record {
    fault = r.fault ∙ rw (eq-eqb (file_fault (left_file bytes)) 0 (sym l.fault ∙ z));
    left_held = λ _. l.held z;
    right_held = λ k. r.held k;
  }

-- the rest of the bytes as a slice has it
pub rest_of : (bytes : List ℕ) (n : ℕ) → take (length bytes - n) (drop n bytes) ≡ drop n bytes
rest_of bytes n = ap (λ k. take k (drop n bytes)) (sym (length-drop n bytes)) ∙ take-length (drop n bytes)
