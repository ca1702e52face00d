-- The kit's digits of the fewest places are `decimal` (`decimal_put`). Assumes nothing.
use mathlib.Core.Path.{◌≡◌, sym, ◌∙◌, ap}
use mathlib.Core.List.{List, [], ◌∷◌, ◌++◌, append_assoc, append-nil}
use Prim.Native.Nat.{ℕ, zero, suc, ◌+◌, ◌-◌, ◌^◌, ◌/◌, ◌%◌, ◌≤◌, ◌<◌}
use native.Mathlib.Omega.{arith}
use native.Mathlib.Nat.{pow-suc, one-le-pow, pow-le-pow_right}
use borrow.Author.Tests.{ltb-true, ltb-false, lt-ltb, le-ltb}
use lib.Dec.{ltb}
use lib.ListN.{length}
use Rattle.io.specs.Digits.{last_digits as places_of, IsDigitCount, hex_digit_ascii}
use Rattle.integers.proofs.Order.{by_test}
use Rattle.text.specs.Text.{digits, decimal}
use Rattle.text.proofs.Digits.{tenth}

-- of the digits 0 to 9
glyph_digit : (d : ℕ) → d < 10 → hex_digit_ascii d ≡ 48 + d
glyph_digit d h = rw (lt-ltb d 10 h)

before : (i : ℕ) → suc i - 1 ≡ i
before i = omega arith

-- a digit less on both sides: 10^k ≤ n gives 10^(k - 1) ≤ n / 10
digits_fewest : (j : ℕ) {k n : ℕ} (t : List ℕ) → k ≤ j → IsDigitCount 10 1 n k → digits j n t ≡ places_of 10 k n ++ t
unfolding digits
digits_fewest j {k = zero} t h f = absurd (omega (arith, f.0))
digits_fewest zero {k = suc k} t h f = absurd (omega arith)
digits_fewest (suc j) {k = suc zero} {n} t h f =
    let e : n < 10 = omega (arith, f.1) in
    rw (lt-ltb n 10 e) (ap (λ d. d ∷ t) (sym (glyph_digit (n % 10) (omega arith) ∙ omega arith)))
digits_fewest (suc j) {k = suc (suc k)} {n} t h f =
    let least : 10 ^ suc k ≤ n = rw (before (suc k)) at (f.2 (omega arith)) in
    let big : 10 ≤ n = omega (arith, least, one-le-pow k 10 (omega arith), pow-suc 10 k) in
    rw (le-ltb n 10 big)
    (digits_fewest j ((48 + n % 10) ∷ t) (omega arith) (omega arith, tenth (suc k) f.1, λ m. rw (before k) (omega (arith, least, pow-suc 10 k)))
    ∙ sym (append_assoc (places_of 10 (suc k) (n / 10)) (hex_digit_ascii (n % 10) ∷ []) t ∙ ap (λ d. places_of 10 (suc k) (n / 10) ++ (d ∷ t)) (glyph_digit (n % 10) (omega arith))))

-- more than 20 would make n at least 10^20
fewest_twenty : {k n : ℕ} → n < 10 ^ 20 → IsDigitCount 10 1 n k → k ≤ 20
fewest_twenty {k} {n} h f =
    by_test (ltb 20 k)
    (λ e. absurd (omega (arith, h, f.2 (omega (arith, ltb-true 20 k e)), pow-le-pow_right {n = 10} (omega arith) {i = 20} {j = k - 1} (omega (arith, ltb-true 20 k e)))))
    (λ e. omega (arith, ltb-false 20 k e))

decimal_fewest : {k n : ℕ} → n < 10 ^ 20 → IsDigitCount 10 1 n k → decimal n ≡ places_of 10 k n
decimal_fewest {k} {n} h f = digits_fewest 20 [] (fewest_twenty h f) f ∙ append-nil (places_of 10 k n)

-- what the kit answers, k, and the bytes t that it leaves
pub decimal_put : {k n : ℕ} {t : List ℕ} → n < 10 ^ 20 → k ≡ length t → IsDigitCount 10 1 n k → t ≡ places_of 10 k n → (t ≡ decimal n) × (k ≡ length (decimal n))
decimal_put {k} {n} {t} h l f e = let s : t ≡ decimal n = e ∙ sym (decimal_fewest h f) in (s, l ∙ ap length s)
