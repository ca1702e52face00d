-- Numbers of two 64-bit words (document 01, "Splitting past a limit m": "The centroid sums need two
-- 64-bit words"). Assumes nothing.
use Rattle.std.specs.Prelude.{Bool, cond, ℕ, ◌+◌, ◌*◌, ◌^◌, ℤ, pos, neg_ℤ}
use Rattle.wide.specs.declared.Words.{Words}
use Rattle.wide.specs.declared.SignedProduct.{SignedProduct}

abbrev pub two_words : ℕ → ℕ → ℕ
two_words high low = high * 2 ^ 64 + low

-- two words read as one number
abbrev pub magnitude : Words → ℕ
magnitude w = two_words w.high w.low

-- a magnitude with a sign
abbrev pub signed : Bool → ℕ → ℤ
signed negative n = cond negative (neg_ℤ (pos n)) (pos n)

abbrev pub value : SignedProduct → ℤ
value p = signed p.negative (magnitude p.words)
