-- What is told of a text, by the pieces that the code puts. In order: a field shown; lengths
-- (`standing_room_lem`, `should_room_lem`, `said_room_lem`, `at_room`, `wrong_room`); what stands
-- and what should, put (`put_ends`, `put_quoted`, `put_many`, `put_pieces`); a wrong line put
-- (`wrong-pieces`); by what the text was turned into (`told_written`, `told_wrong`, `told_long`).
-- Assumes nothing.
use mathlib.Core.Path.{◌≡◌, refl, sym, ◌∙◌, ap}
use mathlib.Core.Bool.{true, false, cond}
use mathlib.Core.List.{List, [], ◌∷◌, ◌++◌}
use Prim.Native.Nat.{ℕ, ◌+◌, ◌-◌, ◌≤◌, ◌<◌}
use native.Mathlib.Omega.{arith}
use borrow.Author.Tests.{eq-eqb, ne_eqb, lt-ltb, le-ltb, ltb-true, ltb-false}
use lib.Dec.{eqb, ltb}
use lib.ListN.{length, take, drop, length-append}
use lib.Seq.{length-take-le}
use Rattle.io.specs.Counts.{IsPrefixLen}
use Rattle.integers.proofs.Order.{by_test}
use Rattle.fields.specs.Fields.{field_of}
use Rattle.text.specs.Text.{decimal}
use Rattle.text.specs.Put.{PutText}
use Rattle.text.proofs.Sizes.{decimal_size}
use Rattle.text.proofs.Puts.{put_after_lem, put_as, put_none, put_within}
use Rattle.mesh_wrong.specs.declared.Wanted.{Wanted}
use Rattle.mesh_wrong.specs.declared.Wanted.TheVariants as wanted
use Rattle.mesh_wrong.specs.Wanted.{wanted_at, wrong_field}
use Rattle.mesh_text.specs.Text.{max_written, lines_in}
use Rattle.mesh_text.specs.declared.NotConverted.{NotConverted}
use Rattle.std.specs.Prelude.{Result, Ok, Err}
use Rattle.mesh_text.specs.declared.NotConverted.TheVariants as not_converted
use Rattle.mesh_told.specs.declared.Found.{Found}
use Rattle.mesh_told.specs.Told.{line_word, colon_word, ends_word, quote_word, stands_word, many_word, text_ends_word, long_word, shown_of, standing, should, said_of, says, said_at, wrong_told, told_of, standing_room, should_room, said_room, told_room}
use Rattle.mesh_told.specs.Search.{Sought}

-- ---- a field shown

pub shown_all : {n : ℕ} → n ≤ 40 → n ≡ shown_of n
shown_all {n} h = rw (le-ltb 40 n h)

pub shown_part : {n : ℕ} → 40 < n → 40 ≡ shown_of n
shown_part {n} h = rw (lt-ltb 40 n h)

pub shown_few : (n : ℕ) → (shown_of n ≤ 40) × (shown_of n ≤ n)
shown_few n =
    by_test (ltb 40 n)
    (λ t. let h = ltb-true 40 n t in rw t (omega arith, omega arith))
    (λ t. let h = ltb-false 40 n t in rw t (omega arith, omega arith))

pub shown_length : (l : List ℕ) → length (take (shown_of (length l)) l) ≡ shown_of (length l)
shown_length l = length-take-le (shown_of (length l)) l (shown_few (length l)).1

-- ---- lengths

standing_room_lem : (l : List ℕ) → length (standing l) ≤ standing_room
unfolding standing
standing_room_lem l =
    let m : length ((quote_word ++ take (shown_of (length l)) l) ++ stands_word) ≡ 9 + length (take (shown_of (length l)) l) = simp length-append (omega arith) in
    by_test (eqb (length l) 0)
    (λ z. rw z (omega arith))
    (λ z. rw z (omega (arith, m, shown_length l, (shown_few (length l)).0)))

should_room_lem : (w : Wanted) → length (should w) ≤ should_room
unfolding should
should_room_lem wanted.Name = omega arith
should_room_lem wanted.Limit = omega arith
should_room_lem wanted.Split = omega arith
should_room_lem wanted.Point = omega arith
should_room_lem wanted.Neighbour = omega arith
should_room_lem wanted.End = omega arith

pub said_room_lem : (k : ℕ) (l : List ℕ) → length (said_of k l) ≤ said_room
unfolding said_of
said_room_lem k l =
    let f = field_of (wrong_field k l) l in
    let w = wanted_at k (wrong_field k l) in
    by_test (ltb max_written k)
    (λ t. rw t (omega arith))
    (λ t. rw t (omega (arith, length-append (standing f) (should w), standing_room_lem f, should_room_lem w)))

at_room : (n k : ℕ) (ls : List (List ℕ)) → length (said_at n k ls) ≤ said_room
unfolding said_at
at_room n k [] = omega arith
at_room n k (l ∷ ls) = by_test (ltb n 2) (λ t. rw t (said_room_lem k l)) (λ t. rw t (at_room (n - 1) (k + says l) ls))

pub wrong_length : (text : List ℕ) (n : ℕ) → length (wrong_told text n) ≡ 7 + length (decimal n) + length (said_at n 0 (lines_in text))
unfolding wrong_told
wrong_length text n = simp length-append (omega arith)

pub wrong_room : (text : List ℕ) (n : ℕ) → length (wrong_told text n) ≤ told_room
wrong_room text n = omega (arith, wrong_length text n, decimal_size n, at_room n 0 (lines_in text))

-- ---- what stands and what should, put

module _ (l : List ℕ) {at : ℕ} where
  pub put_ends : {r : ℕ} {o o₁ : List ℕ} → length l ≡ 0 → PutText ends_word at o o₁ r → PutText (standing l) at o o₁ r
  unfolding standing
  put_ends e p = rw (eq-eqb (length l) 0 e) p

  pub put_quoted :
      {n j k r : ℕ} {o o₁ o₂ o₃ : List ℕ} → (length l ≡ 0 → ⊥) → n ≡ shown_of (length l) → at + standing_room ≤ length o → PutText quote_word at o o₁ j
      → PutText (take n l) j o₁ o₂ k → PutText stands_word k o₂ o₃ r → PutText (standing l) at o o₃ r
  unfolding standing
  put_quoted e q h p u v =
      let w = put_as (ap (λ m. take m l) q) u in
      let m = (shown_few (length l)).0 in
      rw (ne_eqb (length l) 0 e) (put_after_lem (omega (arith, shown_length l, m)) (put_after_lem (omega (arith, shown_length l, m)) p w) v)

module _ {k : ℕ} (l : List ℕ) {at : ℕ} where
  pub put_many : {r : ℕ} {o o₁ : List ℕ} → max_written < k → PutText many_word at o o₁ r → PutText (said_of k l) at o o₁ r
  unfolding said_of
  put_many h p = rw (lt-ltb max_written k h) p

  pub put_pieces :
      {j a r : ℕ} {f : List ℕ} {w : Wanted} {o o₁ o₂ : List ℕ} → k ≤ max_written → j ≡ wrong_field k l → f ≡ field_of j l → w ≡ wanted_at k j → at + said_room ≤ length o
      → PutText (standing f) at o o₁ a → PutText (should w) a o₁ o₂ r → PutText (said_of k l) at o o₂ r
  unfolding said_of
  put_pieces h e q s room p u =
      let g = field_of (wrong_field k l) l in
      let x = wanted_at k (wrong_field k l) in
      let p' = put_as (ap standing (q ∙ ap (λ i. field_of i l) e)) p in
      let u' = put_as (ap should (s ∙ ap (wanted_at k) e)) u in
      rw (le-ltb max_written k h) (put_after_lem (omega (arith, standing_room_lem g, should_room_lem x)) p' u')

-- how far what stands reaches, for what should
pub standing_after : (l : List ℕ) {at r : ℕ} {o o₁ : List ℕ} → PutText (standing l) at o o₁ r → r ≤ at + standing_room
standing_after l p = omega (arith, p.after, standing_room_lem l)

-- ---- a wrong line put

module _ {text : List ℕ} {n : ℕ} {f : Found} (s : Sought text n f) {a b : ℕ} {o o₁ o₂ : List ℕ} (p : PutText (line_word ++ decimal n) 0 o o₁ a) (u : PutText colon_word a o₁ o₂ b) where
  named : PutText ((line_word ++ decimal n) ++ colon_word) 0 o o₂ b
  named = put_after_lem (omega arith) p u

  told_after : {t o₃ : List ℕ} {r : ℕ} → t ≡ said_at n 0 (lines_in text) → PutText t b o₂ o₃ r → PutText (wrong_told text n) 0 o o₃ r
  unfolding wrong_told
  told_after e v =
      put_after_lem (omega arith) named (put_as e v)

  pub line_told : {o₃ : List ℕ} {r : ℕ} → f.there ≡ true → PutText (said_of f.count (take (f.end - f.from) (drop f.from text))) b o₂ o₃ r → PutText (wrong_told text n) 0 o o₃ r
  line_told t v = told_after (sym (s.said ∙ ap (λ c. cond c (said_of f.count (take (f.end - f.from) (drop f.from text))) text_ends_word) t)) v

  pub end_told : {o₃ : List ℕ} {r : ℕ} → f.there ≡ false → PutText text_ends_word b o₂ o₃ r → PutText (wrong_told text n) 0 o o₃ r
  end_told t v = told_after (sym (s.said ∙ ap (λ c. cond c (said_of f.count (take (f.end - f.from) (drop f.from text))) text_ends_word) t)) v

-- ---- by what the text was turned into

told_room_lem : (t : Result ℕ NotConverted) (text : List ℕ) → length (told_of t text) ≤ told_room
unfolding told_of
told_room_lem (Ok n) text = omega arith
told_room_lem (Err (not_converted.Wrong n)) text = wrong_room text n
told_room_lem (Err not_converted.TooLong) text = omega arith

-- what is put lies within the lent bytes
told : (t : Result ℕ NotConverted) (text : List ℕ) {out out' : List ℕ} {r : ℕ} → told_room ≤ length out → PutText (told_of t text) 0 out out' r
    → PutText (told_of t text) 0 out out' r × IsPrefixLen r out'
told t text h p = (p, put_within p (omega (arith, told_room_lem t text)))

pub told_written : {t : Result ℕ NotConverted} (text : List ℕ) {out : List ℕ} {n : ℕ} → t ≡ Ok n → PutText (told_of t text) 0 out out 0 × IsPrefixLen 0 out
unfolding told_of
told_written text {out} e = (put_as (sym (ap (λ c. told_of c text) e)) (put_none out (omega arith)), (omega arith, refl))

module _ {t : Result ℕ NotConverted} (text : List ℕ) {out : List ℕ} (h : told_room ≤ length out) where
  pub told_wrong : {n r : ℕ} {out' : List ℕ} → t ≡ Err (not_converted.Wrong n) → PutText (wrong_told text n) 0 out out' r → PutText (told_of t text) 0 out out' r × IsPrefixLen r out'
  unfolding told_of
  told_wrong e p = told t text h (put_as (sym (ap (λ c. told_of c text) e)) p)

  pub told_long : {r : ℕ} {out' : List ℕ} → t ≡ Err not_converted.TooLong → PutText long_word 0 out out' r → PutText (told_of t text) 0 out out' r × IsPrefixLen r out'
  unfolding told_of
  told_long e p = told t text h (put_as (sym (ap (λ c. told_of c text) e)) p)
