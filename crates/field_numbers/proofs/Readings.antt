-- What a field is read as (`told`, `number_read` and `coordinate_read` of `specs/Numbers.antt`), by
-- the tests that the code makes. In order: a reading; numbers; coordinates. Assumes nothing.
use mathlib.Core.Path.{◌≡◌, refl, sym, ◌∙◌, ap}
use mathlib.Core.Bool.{Bool, true, false, cond}
use mathlib.Core.List.{List, [], ◌∷◌}
use Prim.Native.Nat.{ℕ, ◌+◌, ◌-◌, ◌≤◌, ◌<◌}
use native.Mathlib.Omega.{arith}
use borrow.Author.Tests.{eq-eqb, ne_eqb, lt-ltb, le-ltb, ltb-false}
use lib.Dec.{eqb, ltb}
use lib.ListN.{length, get_or, take, drop, length-drop}
use lib.Seq.{take_all}
use lib.IntN.{pos, neg_ℤ}
use Rattle.integers.specs.Word.{unsigned}
use Rattle.integers.proofs.Order.{by_test}
use Rattle.fields.specs.Fields.{is_digit, run_length}
use Rattle.std.specs.Prelude.{Option, Some, None}
use Rattle.std.proofs.lemmas.Option.{none-some, same_Some}
use Rattle.field_numbers.specs.Numbers.{value_of, is_number, is_coordinate, coordinate_of, told, number_read, coordinate_read}

-- ---- a reading

pub told_wrong : {t : Bool} (n : ℕ) → t ≡ false → None ≡ told t n
told_wrong n e = rw e

pub told_right : {t : Bool} {n m : ℕ} → t ≡ true → m ≡ n → Some m ≡ told t n
told_right e q = rw e (λ i. Some (q i))

true_false : true ≡ false → ⊥
true_false q = let z : ◌≡◌ {A = ℕ} 0 1 = ap (λ t. cond t 0 1) q in omega arith

-- what a reading tells of its test and its number
pub is_right : (t : Bool) {n m : ℕ} {r : Option ℕ} → r ≡ told t n → r ≡ Some m → (t ≡ true) × (m ≡ n)
is_right true {n} {m} e h = (refl, same_Some m n (sym h ∙ e))
is_right false {m = m} e h = absurd (none-some m (sym e ∙ h))

pub is_wrong : {t : Bool} (n : ℕ) {r : Option ℕ} → r ≡ told t n → r ≡ None → t ≡ false
is_wrong {t = true} n e h = absurd (none-some n (sym h ∙ e))
is_wrong {t = false} n e h = refl

-- ---- numbers

-- a run from the front on
pub front_run : (l : List ℕ) {r : ℕ} → r ≡ 0 + run_length is_digit l → r ≡ run_length is_digit l
front_run l e = omega arith

module _ (most : ℕ) (l : List ℕ) where
  pub no_digits : length l ≡ 0 → is_number most l ≡ false
  unfolding is_number
  no_digits e = rw (eq-eqb (length l) 0 e)

  module _ (a : length l ≡ 0 → ⊥) where
    pub too_long : 10 < length l → is_number most l ≡ false
    unfolding is_number
    too_long h = rw (ne_eqb (length l) 0 a, lt-ltb 10 (length l) h)

    module _ (b : length l ≤ 10) where
      pub other_bytes : (run_length is_digit l ≡ length l → ⊥) → is_number most l ≡ false
      unfolding is_number
      other_bytes h = rw (ne_eqb (length l) 0 a, le-ltb 10 (length l) b, ne_eqb (run_length is_digit l) (length l) h)

      module _ (d : run_length is_digit l ≡ length l) where
        pub too_large : most < value_of l → is_number most l ≡ false
        unfolding is_number
        too_large h = rw (ne_eqb (length l) 0 a, le-ltb 10 (length l) b, eq-eqb (run_length is_digit l) (length l) d, lt-ltb most (value_of l) h)

        pub is_number_lem : value_of l ≤ most → is_number most l ≡ true
        unfolding is_number
        is_number_lem h = rw (ne_eqb (length l) 0 a, le-ltb 10 (length l) b, eq-eqb (run_length is_digit l) (length l) d, le-ltb most (value_of l) h)

  -- the value of a number
  pub at_most : is_number most l ≡ true → value_of l ≤ most
  unfolding is_number
  at_most e =
      by_test (eqb (length l) 0) (λ q. absurd (true_false (sym (rw q at e)))) (λ p.
      by_test (ltb 10 (length l)) (λ q. absurd (true_false (sym (rw (p, q) at e)))) (λ p₂.
      by_test (eqb (run_length is_digit l) (length l)) (λ p₃.
      by_test (ltb most (value_of l)) (λ q. absurd (true_false (sym (rw (p, p₂, p₃, q) at e)))) (λ q. ltb-false most (value_of l) q))
      (λ q. absurd (true_false (sym (rw (p, p₂, q) at e))))))

-- ---- coordinates

-- no byte is no minus
pub no_first : (l : List ℕ) → length l < 1 → get_or l 0 0 ≡ 45 → ⊥
no_first [] h q = omega arith
no_first (b ∷ l) h q = omega arith

pub no_minus : (l : List ℕ) → (get_or l 0 0 ≡ 45 → ⊥) → number_read 2147483647 l ≡ coordinate_read l
unfolding is_coordinate coordinate_of
no_minus l h = rw (ne_eqb (get_or l 0 0) 45 h)

-- behind a minus
pub tail_whole : (l : List ℕ) → take (length l - 1) (drop 1 l) ≡ drop 1 l
tail_whole l = take_all (length l - 1) (drop 1 l) (omega (arith, length-drop 1 l))

module _ (l : List ℕ) (h : get_or l 0 0 ≡ 45) where
  minus : (is_coordinate l ≡ is_number 2147483648 (drop 1 l)) × (coordinate_of l ≡ neg_ℤ (pos (value_of (drop 1 l))))
  unfolding is_coordinate coordinate_of
  minus = (rw (eq-eqb (get_or l 0 0) 45 h), rw (eq-eqb (get_or l 0 0) 45 h))

  pub behind_minus : {r : Option ℕ} {n m : ℕ} → r ≡ number_read 2147483648 (take (length l - 1) (drop 1 l)) → r ≡ Some n → m ≡ unsigned (neg_ℤ (pos n))
      → Some m ≡ coordinate_read l
  behind_minus e r q =
      let w = is_right _ (e ∙ ap (number_read 2147483648) (tail_whole l)) r in
      told_right (minus.0 ∙ w.0) (q ∙ ap (λ v. unsigned (neg_ℤ (pos v))) w.1 ∙ ap unsigned (sym minus.1))

  pub no_number_behind : {r : Option ℕ} → r ≡ number_read 2147483648 (take (length l - 1) (drop 1 l)) → r ≡ None → None ≡ coordinate_read l
  no_number_behind e r = told_wrong _ (minus.0 ∙ is_wrong _ (e ∙ ap (number_read 2147483648) (tail_whole l)) r)

-- a number that was read is no larger than it may be
pub read_at_most : {most : ℕ} (l : List ℕ) {r : Option ℕ} {n : ℕ} → r ≡ number_read most l → r ≡ Some n → n ≤ most
read_at_most {most} l e r =
    let w = is_right (is_number most l) {n = value_of l} e r in
    omega (arith, w.1, at_most most l w.0)
