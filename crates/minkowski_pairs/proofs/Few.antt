-- How many corners all pairs have at the most: R times the left corners and L times the right ones
-- (`pairs_few`), so fewer than 2^32 of operands within the limits (`pairs_small`). Assumes nothing.
use mathlib.Core.Path.{ap}
use mathlib.Core.Bool.{Bool}
use mathlib.Core.List.{List, [], ◌∷◌, map, flatten}
use Prim.Native.Nat.{◌+◌, ◌*◌, ◌≤◌, ◌<◌, ◌^◌}
use native.Mathlib.Omega.{arith}
use native.Mathlib.Nat.{suc-mul, mul-add, mul-le-mul}
use lib.ListN.{length, length-append}
use Rattle.integers.proofs.Sums.{length_flatten_append}
use Rattle.plane.specs.Plane.{Pt}
use Rattle.table.proofs.Rules.{Limits}
use Rattle.pair.specs.Pair.{pair_contour}
use Rattle.pair.proofs.FewCorners.{few_corners}
use Rattle.table.specs.Table.{max_parts, max_corners}
use Rattle.minkowski.specs.Pairs.{pairs_of}

-- of one left part: (R + 1) a + (b + rest) = (R a + rest) + (a + b)
row_few : (reflected : Bool) (a : List Pt) (rs : List (List Pt)) → length (flatten (map (pair_contour reflected a) rs)) ≤ length rs * length a + length (flatten rs)
unfolding flatten
row_few reflected a [] = omega arith
row_few reflected a (b ∷ rs) =
    omega (arith, length-append (pair_contour reflected a b) (flatten (map (pair_contour reflected a) rs)), few_corners reflected a b, row_few reflected a rs, suc-mul (length rs) (length a), length-append b (flatten rs))

-- of all: R (a + rest) + (L + 1) B = (R a + B) + (R rest + L B)
pub pairs_few : (reflected : Bool) (ls rs : List (List Pt)) → length (flatten (pairs_of reflected ls rs)) ≤ length rs * length (flatten ls) + length ls * length (flatten rs)
unfolding pairs_of flatten
pairs_few reflected [] rs = omega arith
pairs_few reflected (a ∷ ls) rs =
    omega (
      arith,
      length_flatten_append (map (pair_contour reflected a) rs) (flatten (map (λ a. map (pair_contour reflected a) rs) ls)),
      row_few reflected a rs,
      pairs_few reflected ls rs,
      ap (λ n. length rs * n) (length-append a (flatten ls)),
      mul-add (length rs) (length a) (length (flatten ls)),
      suc-mul (length ls) (length (flatten rs)),
    )

-- 2,048 · 8,192 + 2,048 · 8,192 = 2^25
pub pairs_small : (reflected : Bool) {ls rs : List (List Pt)} → Limits ls → Limits rs → length (flatten (pairs_of reflected ls rs)) < 2 ^ 32
pairs_small reflected {ls} {rs} l r =
    omega (
      arith,
      pairs_few reflected ls rs,
      mul-le-mul {n₁ = length rs} {m₁ = length (flatten ls)} {n₂ = max_parts} {m₂ = max_corners} r.parts l.corners,
      mul-le-mul {n₁ = length ls} {m₁ = length (flatten rs)} {n₂ = max_parts} {m₂ = max_corners} l.parts r.corners,
    )
