-- A sign with a magnitude: its size, and how large its high word can be; sums of numbers of one
-- sign. Assumes nothing.
use mathlib.Core.Path.{◌≡◌, refl}
use mathlib.Core.Bool.{Bool, true, false}
use Prim.Native.Nat.{ℕ, ◌+◌, ◌^◌, ◌<◌}
use native.Mathlib.Omega.{arith}
use lib.IntN.{pos, neg_ℤ, nat_abs, ◌+ℤ◌}
use Rattle.integers.proofs.Order.{zarith, add_parts, neg_parts}
use Rattle.integers.proofs.Sizes.{abs_neg}
use Rattle.wide.specs.declared.SignedProduct.{SignedProduct}
use Rattle.wide.specs.Words.{magnitude, signed, value}

pub signed_size : (s : Bool) (n : ℕ) → nat_abs (signed s n) ≡ n
signed_size true n = abs_neg (pos n)
signed_size false n = refl

-- h 2^64 ≤ |value| < 2^96
pub high_below : (p : SignedProduct) → nat_abs (value p) < 2 ^ 96 → p.words.high < 2 ^ 32
high_below p h = omega (arith, h, signed_size p.negative (magnitude p.words))

-- ---- sums

module _ (k m n : ℕ) where
  pub sum_same : (s : Bool) → k ≡ m + n → signed s k ≡ signed s m +ℤ signed s n
  sum_same true e = omega (zarith, neg_parts (pos k), neg_parts (pos m), neg_parts (pos n), add_parts (neg_ℤ (pos m)) (neg_ℤ (pos n)))
  sum_same false e = omega (zarith, add_parts (pos m) (pos n))
