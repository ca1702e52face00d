-- What IEEE rounding does to a whole number of a format's smallest values. `rounded p n` keeps p
-- binary digits of n. In order: `compare`; the error of `closest`; the error of `rounded`
-- (`rounded_near`, `near_below`); its unit by the size (`rounded_at`); where it changes nothing
-- (`rounded_exact`). Assumes nothing.
use mathlib.Core.Path.{◌≡◌, sym, ap, ◌∙◌, subst}
use Prim.Native.Nat.compare
use Prim.Native.Nat.{ℕ, zero, suc, ◌+◌, ◌-◌, ◌*◌, ◌/◌, ◌%◌, ◌^◌, ◌≤◌, ◌<◌, compare, Ordering}
use native.Mathlib.Nat.{le_trans, le_of_eq, lt_of_not-le, lt_of_lt_of_le, not-le_of_lt, le_of_suc-le-suc, mul_assoc, mul-le-mul_right, mul-div_cancel, mul-mod_left, div-add-mod', suc-mul, mod-lt, le-div_iff_mul-le}
use native.Mathlib.Omega.{arith}
use mathlib.Core.Bool.{not}
use lib.Dec.{T, is_le, compare_is_eq, eqb, leb→le, nleb→lt, eqb→eq, eqb_refl}
use lib.Arith.{lt_of_le-ne}
use lib.Pow.{pow-add, pow_pos, pow_mono, shl_lt}
use lib.Ieee.{size, nearest}
use lib.Ieee.Digits.{size-lt, size-le, size_reaches}
use lib.Ieee.Nearest.{closest, nearest-ge}

-- ---- what `compare` says

abbrev Cmp : Ordering → ℕ → ℕ → Type 0
Cmp Ordering.lt a b = a < b
Cmp Ordering.eq a b = a ≡ b
Cmp Ordering.gt a b = b < a

cmp : (a b : ℕ) → Cmp (compare a b) a b
cmp a b = go (compare a b) (leb→le a b) (nleb→lt a b) (eqb→eq a b) (λ (e : a ≡ b). subst (λ (x : ℕ). T (eqb a x)) e (eqb_refl a))
  where
    go : (o : Ordering) → (T (is_le o) → a ≤ b) → (T (not (is_le o)) → b < a) → (T (compare_is_eq o) → a ≡ b) → (a ≡ b → T (compare_is_eq o)) → Cmp o a b
    go Ordering.lt h k e n = lt_of_le-ne (h tt) n
    go Ordering.eq h k e n = e tt
    go Ordering.gt h k e n = k tt

-- ---- |a - b| ≤ c, in ℕ
pub record Near (a b c : ℕ) : Type 0 where
  pub above : a ≤ b + c
  pub below : b ≤ a + c

-- q u + r to the nearest multiple of u is off by u / 2 at most
tie : (q : ℕ) → q % 2 < 2
tie q = omega arith

nearest_near : (q : ℕ) {r u : ℕ} (o : Ordering) → r < u → Cmp o (r * 2) u → Near (2 * (nearest q o * u)) (2 * (q * u + r)) u
nearest_near q {r} {u} Ordering.lt l h = record { above = omega arith; below = omega arith }
nearest_near q {r} {u} Ordering.eq l h = half (q % 2) (tie q)
  where
    half : (b : ℕ) → b < 2 → Near (2 * ((q + b) * u)) (2 * (q * u + r)) u
    half zero k = record { above = omega arith; below = omega arith }
    half (suc zero) k = record { above = omega arith; below = omega arith }
    half (suc (suc b)) k = absurd (omega arith)
nearest_near q {r} {u} Ordering.gt l h = record { above = omega (arith, suc-mul q u); below = omega (arith, suc-mul q u) }

pub closest_near : (n : ℕ) {u : ℕ} → 0 < u → Near (2 * (closest n u * u)) (2 * n) u
closest_near n {u} h = subst (λ (x : ℕ). Near (2 * (closest n u * u)) (2 * x) u) (div-add-mod' n u) (nearest_near (n / u) (compare (n % u * 2) u) (mod-lt n h) (cmp (n % u * 2) u))

-- ---- n to p digits

abbrev pub dropped : ℕ → ℕ → ℕ
dropped p n = size n - p

abbrev pub kept : ℕ → ℕ → ℕ
kept p n = closest n (2 ^ dropped p n)

abbrev pub rounded : ℕ → ℕ → ℕ
rounded p n = kept p n * 2 ^ dropped p n

pub rounded_near : (p n : ℕ) → Near (2 * rounded p n) (2 * n) (2 ^ dropped p n)
rounded_near p n = closest_near n (pow_pos (dropped p n))

-- n has at most j digits where it rounds to less than 2 ^ j, for a j of p or more: else 2 ^ j ≤ 2 ^
-- (size n - 1) = 2 ^ (p - 1) * 2 ^ dropped ≤ rounded n
few : {p j : ℕ} (n : ℕ) → 0 < p → p ≤ j → rounded p n < 2 ^ j → size n ≤ j
few {p} {j} n Z P h = le_of_suc-le-suc (lt_of_not-le (λ (g : suc j ≤ size n). not-le_of_lt h (le_trans (pow_mono {i = j} {j = size n - 1} (omega arith)) (large g))))
  where
    large : suc j ≤ size n → 2 ^ (size n - 1) ≤ rounded p n
    large g =
        let k = dropped p n in
        let e : size n - 1 ≡ (size n - 1 - k) + k = omega arith in
        le_trans (le_of_eq (ap (λ (x : ℕ). 2 ^ x) e ∙ pow-add 2 (size n - 1 - k) k))
        (mul-le-mul_right (2 ^ k) (le_trans ((le-div_iff_mul-le (pow_pos k)).1 (le_trans (le_of_eq (sym (ap (λ (x : ℕ). 2 ^ x) e ∙ pow-add 2 (size n - 1 - k) k))) (size_reaches n (size n - 1) (omega arith)))) (nearest-ge (n / 2 ^ k) (compare (n % 2 ^ k * 2) (2 ^ k)))))

-- so below 2 ^ j the error is at most half of 2 ^ (j - p)
pub near_below : {p j : ℕ} (n : ℕ) → 0 < p → p ≤ j → rounded p n < 2 ^ j → Near (2 * rounded p n) (2 * n) (2 ^ (j - p))
near_below {p} {j} n Z P h =
    let w : 2 ^ dropped p n ≤ 2 ^ (j - p) = pow_mono (omega (arith, few n Z P h)) in
    let r = rounded_near p n in
    record { above = omega (arith, r.above); below = omega (arith, r.below) }

-- ---- of p digits and i more the p are kept
pub rounded_at : (p i : ℕ) {n : ℕ} → 2 ^ (p + i) ≤ n → n < 2 ^ (suc p + i) → rounded (suc p) n ≡ closest n (2 ^ i) * 2 ^ i
rounded_at p i {n} l h =
    let a : size n ≤ suc p + i = size-le n (suc p + i) h in
    let b : p + i < size n = lt_of_not-le (λ (g : size n ≤ p + i). not-le_of_lt (lt_of_lt_of_le (size-lt n) (pow_mono g)) l) in
    let e : dropped (suc p) n ≡ i = omega arith in
    ap (λ (k : ℕ). closest n (2 ^ k) * 2 ^ k) e

-- ---- a number of at most p digits and zeros behind them stays
closest_exact : (r : ℕ) {u : ℕ} → 0 < u → closest (r * u) u ≡ r
closest_exact r {u} h =
    ap (λ (x : ℕ). nearest x (compare (r * u % u * 2) u)) (mul-div_cancel r h)
    ∙ ap (λ (x : ℕ). nearest r (compare (x * 2) u)) (mul-mod_left r u)
    ∙ ap (λ (o : Ordering). nearest r o) (below_pos u h)
  where
    below_pos : (u : ℕ) → 0 < u → compare 0 u ≡ Ordering.lt
    below_pos zero k = absurd (omega arith)
    below_pos (suc u) k = compare.zero-suc u

pub rounded_exact : (p : ℕ) {m : ℕ} (i : ℕ) → m < 2 ^ p → rounded p (m * 2 ^ i) ≡ m * 2 ^ i
rounded_exact p {m} i h =
    let k = dropped p (m * 2 ^ i) in
    let l : k ≤ i = omega (arith, size-le (m * 2 ^ i) (p + i) (shl_lt p i h)) in
    let e : m * 2 ^ i ≡ m * 2 ^ (i - k) * 2 ^ k = ap (λ (x : ℕ). m * 2 ^ x) (omega arith) ∙ ap (λ (x : ℕ). m * x) (pow-add 2 (i - k) k) ∙ sym (mul_assoc m (2 ^ (i - k)) (2 ^ k)) in
    ap (λ (x : ℕ). closest x (2 ^ k) * 2 ^ k) e ∙ ap (λ (x : ℕ). x * 2 ^ k) (closest_exact (m * 2 ^ (i - k)) (pow_pos k)) ∙ sym e
