-- A digit of a quotient guessed from the upper half of the divisor (`Guess`): the first guess, a
-- guess that is too large made one less, and a guess that is right. v₁ is v's upper half and v₀ its
-- lower one. Assumes nothing.
use mathlib.Core.Path.{◌≡◌, sym, ◌∙◌, ap, subst}
use Prim.Native.Nat.{ℕ, zero, suc, ◌+◌, ◌*◌, ◌-◌, ◌/◌, ◌%◌, ◌^◌, ◌≤◌, ◌<◌}
use native.Mathlib.Omega.{arith}
use native.Mathlib.Nat.{div-add-mod', mod-lt, mul-le-mul, lt_of_mul-lt-mul_right}
use Rattle.wide_divide.specs.Quotients.{Divided}

abbrev H : ℕ
H = 4294967296

-- q v₁ + rest = u, and q + 1 is too large for u 2^32 + x by v
pub record Guess (u x v q rest : ℕ) : Type 0 where
  pub sum : q * (v / H) + rest ≡ u
  pub most : rest * H + x < q * (v % H) + v
  pub near : rest < H + v / H

module _ (u x v : ℕ) (hv : 2 ^ 63 ≤ v) (hu : u < v) (hx : x < 2 ^ 32) where
  -- u mod v₁ < v₁
  pub guess_start : Guess u x v (u / (v / H)) (u % (v / H))
  guess_start =
      let m : u % (v / H) < v / H = mod-lt u (omega arith) in
      record { sum = div-add-mod' u (v / H); most = start (u / (v / H)) m; near = omega arith }
    where
      start : (q : ℕ) {r : ℕ} → r < v / H → r * H + x < q * (v % H) + v
      start q m = omega arith

  module _ {q rest : ℕ} (g : Guess u x v q rest) where
    -- q v₁ ≤ u < v < (2^32 + 2) v₁, so q v₀ ≤ (2^32 + 1) (2^32 - 1)
    pub product_fits : v < 2 ^ 64 → q * (v % H) < 2 ^ 64
    product_fits f =
        let s : q < 4294967298 = lt_of_mul-lt-mul_right (v / H) {m = q} {n = 4294967298} (omega (arith, g.sum)) in
        let p : q * (v % H) ≤ 4294967297 * 4294967295 = mul-le-mul {n₁ = q} {m₁ = v % H} {n₂ = 4294967297} {m₂ = 4294967295} (omega arith) (omega arith) in
        omega (arith, p)

    -- q v = q v₁ 2^32 + q v₀
    spread : q * v ≡ q * (v / H) * H + q * (v % H)
    spread = ap (λ n. q * n) (sym (div-add-mod' v H)) ∙ out (v / H) (v % H)
      where
        out : (a b : ℕ) → q * (a * H + b) ≡ q * a * H + q * b
        out a b = omega arith

    -- q v ≤ u 2^32 + x < 2^32 v
    digit : (r : ℕ) → q * v + r ≡ u * 2 ^ 32 + x → q < 2 ^ 32
    digit r e = lt_of_mul-lt-mul_right v {m = q} {n = 2 ^ 32} (omega (arith, e))

    right : (r : ℕ) → r + q * (v % H) ≡ rest * H + x → Divided (u * 2 ^ 32 + x) v (record { quotient = q; remainder = r }) × (q < 2 ^ 32)
    right r e =
        let w : q * v + r ≡ u * 2 ^ 32 + x = omega (arith, e, spread, g.sum) in
        (record { whole = w; rest = omega (arith, e, g.most) }, digit r w)

    pub guess_early : q * (v % H) ≤ rest * H + x → Divided (u * 2 ^ 32 + x) v (record { quotient = q; remainder = rest * H + x - q * (v % H) }) × (q < 2 ^ 32)
    guess_early h = right (rest * H + x - q * (v % H)) (omega arith)

    -- the remainder where rest 2^32 is past a word
    pub guess_late : v < 2 ^ 64 → H ≤ rest → Divided (u * 2 ^ 32 + x) v (record { quotient = q; remainder = ((rest - H) * H + x + (18446744073709551616 - q * (v % H))) % 18446744073709551616 }) × (q < 2 ^ 32)
    guess_late f h = right (((rest - H) * H + x + (18446744073709551616 - q * (v % H))) % 18446744073709551616) (late (product_fits f) g.most)
      where
        late : {p : ℕ} → p < 2 ^ 64 → rest * H + x < p + v → ((rest - H) * H + x + (18446744073709551616 - p)) % 18446744073709551616 + p ≡ rest * H + x
        late l m = omega (arith, f, h)

  -- q v₀ > rest 2^32 + x, so q is too large
  pub guess_some : (q rest : ℕ) → rest * H + x < q * (v % H) → 1 ≤ q
  guess_some zero rest h = absurd (omega arith)
  guess_some (suc q) rest h = omega arith

  pub guess_turn : {q rest : ℕ} → Guess u x v q rest → rest < H → rest * H + x < q * (v % H) → Guess u x v (q - 1) (rest + v / H)
  guess_turn {q = zero} g l h = absurd (omega arith)
  guess_turn {q = suc q} {rest} g l h = subst (λ n. Guess u x v n (rest + v / H)) (less q) (record {
    sum = omega (arith, g.sum);
    most = omega (arith, h);
    near = omega arith;
  })
    where
      less : (q : ℕ) → q ≡ suc q - 1
      less q = omega arith
