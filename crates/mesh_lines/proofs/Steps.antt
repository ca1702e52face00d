-- The lines of a mesh written by hand, by the tests and the puts that the code makes. In order: a
-- line's end; lines passed over; a field's put; the first line; three puts in turn. Assumes
-- nothing.
use mathlib.Core.Path.{◌≡◌, sym, ◌∙◌, ap, subst}
use mathlib.Core.Bool.{Bool, true, false}
use mathlib.Core.List.{List, [], ◌∷◌}
use Prim.Native.Nat.{ℕ, ◌+◌, ◌-◌, ◌≤◌}
use native.Mathlib.Omega.{arith}
use borrow.Author.Tests.{eq-eqb, ne_eqb, eqb-true, eqb-false}
use lib.Dec.{eqb}
use lib.ListN.{length, get_or, drop, length-drop}
use lib.Seq.{get_or-drop}
use Rattle.integers.proofs.Order.{by_test}
use Rattle.fields.specs.Fields.{fields_from, field_of}
use Rattle.std.specs.Prelude.{Option, is_some, option_to_list}
use Rattle.field_numbers.specs.Numbers.{told}
use Rattle.mesh_fields.specs.Entries.{same_bytes, is_point, point_read, point_words, is_number_or_none, number_or_none, is_split, split_of}
use Rattle.mesh_fields.specs.Put.{Put}
use Rattle.mesh_fields.proofs.Puts.{put_told}
use Rattle.mesh_lines.specs.Lines.{ends_at, is_passed_over, is_limit}

-- ---- a line's end

module _ (l : List ℕ) (k : ℕ) {s : ℕ} (e : drop s l ≡ fields_from k l) (h : s ≤ length l) where
  left_over : length (fields_from k l) ≡ length l - s
  left_over = sym (ap length e) ∙ length-drop s l

  pub ended : s ≡ length l → ends_at k l ≡ true
  ended q = eq-eqb (length (fields_from k l)) 0 (omega (arith, left_over))

  pub not_ended : (s ≡ length l → ⊥) → ends_at k l ≡ false
  not_ended q = ne_eqb (length (fields_from k l)) 0 (λ z. q (omega (arith, left_over)))

  pub ends_test : eqb s (length l) ≡ ends_at k l
  ends_test =
      by_test (eqb s (length l))
      (λ t. t ∙ sym (ended (eqb-true s (length l) t)))
      (λ t. t ∙ sym (not_ended (eqb-false s (length l) t)))

-- ---- lines passed over

module _ (l : List ℕ) {s : ℕ} (e : drop s l ≡ fields_from 0 l) (h : s ≤ length l) where
  pub blank : s ≡ length l → true ≡ is_passed_over l
  unfolding is_passed_over
  blank q = rw (ended l 0 e h q)

  pub first_byte : (s ≡ length l → ⊥) → eqb (get_or l s 0) 35 ≡ is_passed_over l
  unfolding is_passed_over
  first_byte q =
      let n : s + 0 ≡ s = omega arith in
      let b : get_or (fields_from 0 l) 0 0 ≡ get_or l s 0 = ap (λ m. get_or m 0 0) (sym e) ∙ get_or-drop s l 0 0 ∙ ap (λ i. get_or l i 0) n in
      rw (not_ended l 0 e h q, b)

-- ---- a field's put

module _ {l m : List ℕ} (e : l ≡ m) {at : ℕ} {a b : List ℕ} {r : Bool} where
  pub put_point_of : Put (is_point l) (point_words (point_read l)) at a b r → Put (is_point m) (point_words (point_read m)) at a b r
  put_point_of p = subst (λ f. Put (is_point f) (point_words (point_read f)) at a b r) e p

  module _ {n : Option ℕ} (p : Put (is_some n) (option_to_list n) at a b r) where
    pub put_number_of : n ≡ told (is_number_or_none l) (number_or_none l) → Put (is_number_or_none m) (number_or_none m ∷ []) at a b r
    put_number_of q = put_told (is_number_or_none m) (number_or_none m) (q ∙ ap (λ f. told (is_number_or_none f) (number_or_none f)) e) p

    pub put_split_of : n ≡ told (is_split l) (split_of l) → Put (is_split m) (split_of m ∷ []) at a b r
    put_split_of q = put_told (is_split m) (split_of m) (q ∙ ap (λ f. told (is_split f) (split_of f)) e) p

-- ---- the first line

-- "limit"
abbrev limit : List ℕ
limit = 108 ∷ 105 ∷ 109 ∷ 105 ∷ 116 ∷ []

module _ (l : List ℕ) {name : List ℕ} {t : Bool} (e : name ≡ field_of 0 l) (f : t ≡ same_bytes name limit) where
  named : same_bytes (field_of 0 l) limit ≡ t
  named = sym (f ∙ ap (λ n. same_bytes n limit) e)

  pub limit_named : t ≡ true → {a b : List ℕ} {r : Bool} → Put (is_number_or_none (field_of 1 l)) (number_or_none (field_of 1 l) ∷ []) 0 a b r → Put (is_limit l) (number_or_none (field_of 1 l) ∷ []) 0 a b r
  unfolding is_limit
  limit_named h p = rw (named ∙ h) p

  pub not_named : t ≡ false → is_limit l ≡ false
  unfolding is_limit
  not_named h = rw (named ∙ h)
