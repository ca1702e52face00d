-- The value of digits (`value_from` of `specs/Numbers.antt`): a digit more, and how large it is.
-- Assumes nothing.
use mathlib.Core.Path.{◌≡◌, refl, sym, ◌∙◌, ap}
use mathlib.Core.Bool.{true, false, cond}
use mathlib.Core.List.{List, [], ◌∷◌}
use Prim.Native.Nat.{ℕ, suc, ◌+◌, ◌*◌, ◌-◌, ◌^◌, ◌≤◌, ◌<◌}
use native.Mathlib.Nat.{pow-suc, pow-le-pow_right}
use native.Mathlib.Numerals.{add-one}
use native.Mathlib.Omega.{arith}
use borrow.Author.Tests.{ltb-true, ltb-false}
use lib.Dec.{ltb}
use lib.ListN.{length, drop, get_or, drop_of_length-le}
use lib.Seq.{drop-cons}
use Rattle.integers.proofs.Order.{by_test}
use Rattle.fields.specs.Fields.{is_digit}
use Rattle.field_numbers.specs.Numbers.{value_from}

-- ---- a digit

-- 48 to 57
pub digit_range : (b : ℕ) → is_digit b ≡ true → (48 ≤ b) × (b < 58)
digit_range b e =
    by_test (ltb b 48)
    (λ t. absurd (false_true (sym (rw t at e))))
    (λ t. (ltb-false b 48 t, ltb-true b 58 (rw t at e)))
  where
    false_true : true ≡ false → ⊥
    false_true q = let z : ◌≡◌ {A = ℕ} 0 1 = ap (λ t. cond t 0 1) q in omega arith

-- ---- the value

value_none : (v : ℕ) → value_from v [] ≡ v
unfolding value_from
value_none v = refl

value_cons : (v b : ℕ) (l : List ℕ) → value_from v (b ∷ l) ≡ value_from (10 * v + (b - 48)) l
unfolding value_from
value_cons v b l = refl

pub value_end : (v : ℕ) (l : List ℕ) (i : ℕ) → length l ≤ i → value_from v (drop i l) ≡ v
value_end v l i h = ap (value_from v) (drop_of_length-le l h) ∙ value_none v

-- a digit more, of value d
pub value_more : (v : ℕ) {d : ℕ} (l : List ℕ) {i : ℕ} → i < length l → d ≡ get_or l i 0 - 48 → value_from v (drop i l) ≡ value_from (10 * v + d) (drop (i + 1) l)
value_more v l {i} h e =
    rw add-one (ap (value_from v) (drop-cons l i 0 h) ∙ value_cons v (get_or l i 0) (drop (suc i) l) ∙ ap (λ n. value_from (10 * v + n) (drop (suc i) l)) (sym e))

-- ---- how large

pub larger : {v d : ℕ} (i : ℕ) → v < 10 ^ i → d < 10 → 10 * v + d < 10 ^ (i + 1)
larger i h k = rw add-one (omega (arith, pow-suc 10 i))

-- of nine digits or fewer
pub nine_digits : {v : ℕ} {i : ℕ} → v < 10 ^ i → i < 10 → v < 1000000000
nine_digits {i} h k = omega (arith, pow-le-pow_right {n = 10} (omega arith) {i = i} {j = 9} (omega arith))
