-- A dividend and a divisor doubled s times, P = 2^s: the words that code shifts (`top_below`,
-- `scaled`), and the quotient and remainder that come of them (`unscaled`); how often a number is
-- doubled until its top bit is set (`normal_of`). Assumes nothing.
use mathlib.Core.Path.{◌≡◌, sym, ◌∙◌, ap, subst}
use Prim.Native.Nat.{ℕ, suc, ◌+◌, ◌*◌, ◌-◌, ◌/◌, ◌%◌, ◌^◌, ◌≤◌, ◌<◌}
use native.Mathlib.Omega.{arith}
use native.Mathlib.Nat.{mul_comm, div-div-eq-div-mul, div-lt_iff_lt-mul, mod-eq_of_lt, mul-le-mul_right, mul-div-mul_right, mul-div_cancel, le_of_mul-le-mul_right, lt_of_mul-lt-mul_right}
use lib.Pow.{pow_pos, pow-add}
use lib.Count.{count_leading_zeros, leading_top}
use Rattle.wide.specs.Words.{two_words}
use Rattle.wide_divide.specs.declared.Quotient.{Quotient}
use Rattle.wide_divide.specs.Quotients.{Divided, Normal}

power_split : (i j n : ℕ) → i + j ≡ n → 2 ^ n ≡ 2 ^ i * 2 ^ j
power_split i j n e = ap (λ m. 2 ^ m) (sym e) ∙ pow-add 2 i j

-- 2^j ≤ d < 2^(j + 1) and s + j + 1 = 64
pub normal_of : {d : ℕ} → 0 < d → d < 2 ^ 64 → Normal d (count_leading_zeros 64 d)
normal_of {d} h f = let t = leading_top 64 d h f in of t.0 t.1 t.2 t.3
  where
    of : {s : ℕ} (j : ℕ) → s + suc j ≡ 64 → 2 ^ j ≤ d → d < 2 ^ suc j → Normal d s
    of {s} j e l u =
        let p : 2 ^ 63 ≡ 2 ^ j * 2 ^ s = power_split j s 63 (omega arith) in
        let w : 2 ^ 64 ≡ 2 ^ suc j * 2 ^ s = power_split (suc j) s 64 (omega arith) in
        record {
          short = omega arith;
          top = omega (arith, p, mul-le-mul_right (2 ^ s) l);
          word = omega (arith, w, mul-le-mul_right (2 ^ s) u, pow_pos s);
        }

-- Q d P + R = N P and R < d P give Q d + R / P = N
unscale : (N Q : ℕ) {R : ℕ} (d : ℕ) {P : ℕ} → 0 < P → Q * (d * P) + R ≡ N * P → R < d * P → (Q * d + R / P ≡ N) × (R / P < d)
unscale N Q {R} d {P} p e l =
    let m : Q * d ≤ N = le_of_mul-le-mul_right {m = Q * d} {n = N} {k = P} (omega (arith, e)) p in
    of (N - Q * d) (omega (arith, m))
  where
    of : (k : ℕ) → Q * d + k ≡ N → (Q * d + R / P ≡ N) × (R / P < d)
    of k s =
        let r : R ≡ k * P = rest k s in
        let q : R / P ≡ k = ap (λ n. n / P) r ∙ mul-div_cancel k p in
        (omega (arith, s, q), subst (λ n. n < d) (sym q) (lt_of_mul-lt-mul_right P {m = k} {n = d} (subst (λ n. n < d * P) r l)))
      where
        rest : (k : ℕ) → Q * d + k ≡ N → R ≡ k * P
        rest k s = let n : N * P ≡ (Q * d + k) * P = ap (λ n. n * P) (sym s) in omega (arith, e, n)

-- m = b 2^64 + m mod 2^64
joined : {t : ℕ} (a : ℕ) {b : ℕ} (m : ℕ) → t ≡ a + b → m / 2 ^ 64 ≡ b → t * 2 ^ 64 + m % 2 ^ 64 ≡ a * 2 ^ 64 + m
joined a m e f = omega arith

gathered : (h l p : ℕ) → h * p * 2 ^ 64 + l * p ≡ (h * 2 ^ 64 + l) * p
gathered h l p = omega arith

module _ (h l d s : ℕ) (hd : h < d) (fl : l < 2 ^ 64) (n : Normal d s) where
  abbrev P : ℕ
  P = 2 ^ s

  abbrev W : ℕ
  W = 2 ^ (64 - s)

  word : 2 ^ 64 ≡ P * W
  word = power_split s (64 - s) 64 (omega (arith, n.short))

  -- what leaves the low word
  out : l / 2 / 2 ^ (63 - s) ≡ l / W
  out = div-div-eq-div-mul l 2 (2 ^ (63 - s)) ∙ ap (λ n. l / n) (sym (power_split 1 (63 - s) (64 - s) (omega (arith, n.short))))

  -- (h + 1) P ≤ d P < 2^64
  next : suc h * P ≤ d * P
  next = mul-le-mul_right P hd

  high_kept : (h * P) % 2 ^ 64 ≡ h * P
  high_kept = mod-eq_of_lt (omega (arith, next, n.word, pow_pos s))

  pub divisor_kept : (d * P) % 2 ^ 64 ≡ d * P
  divisor_kept = mod-eq_of_lt n.word

  -- h P + l / W, as the code has it
  abbrev top : ℕ
  top = (h * 2 ^ s) % 2 ^ 64 + l / 2 / 2 ^ (63 - s)

  top_is : top ≡ h * P + l / W
  top_is = omega (arith, high_kept, out)

  -- l / W < P
  pub top_below : top < d * P
  top_below =
      let k : l / W < P = (div-lt_iff_lt-mul {k = W} {x = l} {y = P} (pow_pos (64 - s))).1 (omega (arith, word)) in
      omega (arith, top_is, next, k)

  -- l P / 2^64 = l / W
  scaled : two_words top ((l * P) % 2 ^ 64) ≡ two_words h l * P
  scaled = joined (h * P) (l * P) top_is (ap (λ n. l * P / n) (word ∙ mul_comm P W) ∙ mul-div-mul_right {m = P} l W (pow_pos s)) ∙ gathered h l P

  pub unscaled : {q : Quotient} → Divided (two_words top ((l * P) % 2 ^ 64)) ((d * P) % 2 ^ 64) q → Divided (two_words h l) d (record { quotient = q.quotient; remainder = q.remainder / P })
  unscaled {q} g =
      let f : Divided (two_words h l * P) (d * P) q = subst (λ n. Divided n (d * P) q) scaled (subst (λ v. Divided (two_words top ((l * P) % 2 ^ 64)) v q) divisor_kept g) in
      let r = unscale (two_words h l) q.quotient d (pow_pos s) f.whole f.rest in
      record { whole = r.0; rest = r.1 }
