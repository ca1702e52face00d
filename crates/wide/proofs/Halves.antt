-- A word by half a word: the products of its halves (`half_product`), and that their sum is the
-- product (`halves`). Assumes nothing.
use mathlib.Core.Path.{◌≡◌, ◌∙◌, ap}
use Prim.Native.Nat.{ℕ, ◌+◌, ◌*◌, ◌/◌, ◌%◌, ◌≤◌, ◌<◌}
use native.Mathlib.Omega.{arith}
use native.Mathlib.Nat.{mul-le-mul, div-add-mod'}
use Rattle.wide.specs.Words.{two_words}

abbrev H : ℕ
H = 4294967296

-- x ≤ 2^32 - 1 and b ≤ 2^32 - 1 give x b ≤ (2^32 - 1)²
pub half_product : (x b : ℕ) → x < H → b < H → x * b ≤ 18446744065119617025
half_product x b h k = mul-le-mul {n₁ = x} {m₁ = b} {n₂ = 4294967295} {m₂ = 4294967295} (omega arith) (omega arith)

-- a b = a₁ b 2^32 + a₀ b, with a₀ b = p₁ 2^32 + p₀ and a₁ b + p₁ = q₁ 2^32 + q₀
pub halves : (a b : ℕ) → two_words ((a / H * b + a % H * b / H) / H) ((a / H * b + a % H * b / H) % H * H + a % H * b % H) ≡ a * b
halves a b = of (a / H * b) (a % H * b) (split ∙ ap (λ z. z * b) (div-add-mod' a H))
  where
    split : a / H * b * H + a % H * b ≡ (a / H * H + a % H) * b
    split = omega arith

    of : (above below : ℕ) {n : ℕ} → above * H + below ≡ n → two_words ((above + below / H) / H) ((above + below / H) % H * H + below % H) ≡ n
    of above below e = omega arith
