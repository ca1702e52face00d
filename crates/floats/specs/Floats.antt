-- The exact value of an f64, as a whole number. Every finite f64 is a multiple of the least
-- positive one, 2 ^ -1074: x is `multiple x` times 2 ^ -1074 (`multiple_exact` of
-- proofs/Comparisons.antt says that the division leaves no rest). Assumes nothing.
use Rattle.std.specs.Prelude.{ℕ, suc, ◌+◌, ◌*◌, ◌/◌, ◌^◌, Bool, true, false, ◌&&◌, ℤ, pos, negsuc, neg_ℤ, Float}
use Rattle.std.specs.Float.{nan, inf, fin, binary64}
use Rattle.std.specs.Float.Ieee.{fits, up, down}
use Rattle.std.specs.Float.Ieee.Scale.{finite}

-- a finite number that an f64 holds. Every f64 in code passes `fits`; with the test in the
-- definition a law needs no premise
unfoldable pub number : Float → Bool
number x = fits binary64 x && finite x

-- n, or -n
abbrev pub signed : Bool → ℕ → ℤ
signed true n = neg_ℤ (pos n)
signed false n = pos n

-- m * 2 ^ e as a multiple of 2 ^ -1074
abbrev pub size : ℕ → ℤ → ℕ
size m e = m * up e * 2 ^ 1074 / down e

unfoldable pub multiple : Float → ℤ
multiple nan = pos 0
multiple (inf s) = pos 0
multiple (fin s m e) = signed s (size m e)

-- z * 2 ^ -1074 to the nearest whole number, halves away from zero: |z| / 2 ^ 1074 + 1 / 2 without
-- its fraction, with z's sign
unfoldable pub nearest : ℤ → ℤ
nearest (pos n) = pos ((n + 2 ^ 1073) / 2 ^ 1074)
nearest (negsuc n) = neg_ℤ (pos ((suc n + 2 ^ 1073) / 2 ^ 1074))
