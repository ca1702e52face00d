-- How many corners all pairs have: at most R for each left corner and L for each right one
-- (`few_all`), of parts and of sound tables (`few_pairs`). Assumes nothing.
use mathlib.Core.Path.{◌≡◌, ◌∙◌, ap, ap₂}
use mathlib.Core.Bool.{Bool, false}
use mathlib.Core.List.{List, [], ◌∷◌, ◌++◌, map, flatten}
use Prim.Native.Nat.{ℕ, ◌+◌, ◌*◌, ◌/◌, ◌≤◌}
use native.Mathlib.Nat.{suc-mul, mul-add, mul-le-mul}
use native.Mathlib.Omega.{arith}
use lib.ListN.{length, length-append}
use lib.IntN.{ℤ}
use Rattle.integers.proofs.Sums.{flatten_append}
use Rattle.plane.specs.Plane.{Pt}
use Rattle.table.specs.Table.{table_broken, part_count}
use Rattle.table.proofs.Rules.{sound, count_parts, count_corners}
use Rattle.pair.specs.Pair.{pair_contour}
use Rattle.pair.proofs.FewCorners.{few_corners}
use Rattle.minkowski.specs.Pairs.{Operand, operand_parts, pairs_of, pair_contours}
use Rattle.minkowski.proofs.EachPair.{length_pairs}

-- the pairs of one left part: |a| for each right part, and all right corners
row_few : (reflected : Bool) (a : List Pt) (rs : List (List Pt)) → length (flatten (map (pair_contour reflected a) rs)) ≤ length rs * length a + length (flatten rs)
unfolding flatten
row_few reflected a [] = omega arith
row_few reflected a (b ∷ rs) =
    omega (arith, length-append (pair_contour reflected a b) (flatten (map (pair_contour reflected a) rs)), few_corners reflected a b, row_few reflected a rs, suc-mul (length rs) (length a), length-append b (flatten rs))

pairs_cons : (reflected : Bool) (a : List Pt) (ls rs : List (List Pt)) → flatten (pairs_of reflected (a ∷ ls) rs) ≡ flatten (map (pair_contour reflected a) rs) ++ flatten (pairs_of reflected ls rs)
pairs_cons reflected a ls rs = unfold pairs_of flatten in flatten_append (map (pair_contour reflected a) rs) (pairs_of reflected ls rs)

pub few_all : (reflected : Bool) (ls rs : List (List Pt)) → length (flatten (pairs_of reflected ls rs)) ≤ length rs * length (flatten ls) + length ls * length (flatten rs)
few_all reflected [] rs = unfold pairs_of flatten in omega arith
few_all reflected (a ∷ ls) rs =
    let row = flatten (map (pair_contour reflected a) rs) in
    let more : length (flatten (a ∷ ls)) ≡ length a + length (flatten ls) = unfold flatten in length-append a (flatten ls) in
    omega (
      arith,
      ap length (pairs_cons reflected a ls rs),
      length-append row (flatten (pairs_of reflected ls rs)),
      row_few reflected a rs,
      few_all reflected ls rs,
      ap (λ n. length rs * n) more,
      mul-add (length rs) (length a) (length (flatten ls)),
      suc-mul (length ls) (length (flatten rs)),
    )

-- ---- of two sound tables

module _ (reflected : Bool) (l r : Operand) (h : table_broken l.starts l.corners ≡ false) (k : table_broken r.starts r.corners ≡ false) where
  pub pairs_count : length (pair_contours reflected l r) ≡ part_count l.starts * part_count r.starts
  pairs_count =
      length_pairs reflected (operand_parts l) (operand_parts r)
      ∙ ap₂ ◌*◌ (count_parts l.starts l.corners h) (count_parts r.starts r.corners k)

  pub few_pairs : length (flatten (pair_contours reflected l r)) ≤ part_count r.starts * (length l.corners / 2) + part_count l.starts * (length r.corners / 2)
  few_pairs =
      omega (
        arith,
        few_all reflected (operand_parts l) (operand_parts r),
        ap₂ ◌*◌ (count_parts r.starts r.corners k) (count_corners l.starts l.corners h),
        ap₂ ◌*◌ (count_parts l.starts l.corners h) (count_corners r.starts r.corners k),
      )

-- ---- that fits a word: at most 2,048 parts and 8,192 corners each

module _ (ls : List ℕ) (lc : List ℤ) (rs : List ℕ) (rc : List ℤ) (h : table_broken ls lc ≡ false) (k : table_broken rs rc ≡ false) where
  pub few_contours : part_count ls * part_count rs ≤ 4194304
  few_contours = mul-le-mul (sound ls lc h).few_parts (sound rs rc k).few_parts

  pub few_left : part_count rs * (length lc / 2) ≤ 16777216
  few_left = mul-le-mul (sound rs rc k).few_parts (sound ls lc h).few_corners

  pub few_right : part_count ls * (length rc / 2) ≤ 16777216
  few_right = mul-le-mul (sound ls lc h).few_parts (sound rs rc k).few_corners
