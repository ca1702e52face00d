-- How long the lines of a listing are: the first (`head_size`), a part's (`part_size`), all parts'
-- (`lines_size`), the whole (`listing_size`). Assumes nothing.
use mathlib.Core.List.{List, [], ◌∷◌, flatten}
use Prim.Native.Nat.{ℕ, suc, ◌+◌, ◌*◌, ◌^◌, ◌≤◌, ◌<◌}
use native.Mathlib.Nat.{div-lt_iff_lt-mul}
use native.Mathlib.Omega.{arith}
use lib.ListN.{length, length-append}
use Rattle.integers.specs.Lists.{All}
use Rattle.plane.specs.Plane.{Pt}
use Rattle.text.specs.Text.{refusal}
use Rattle.text.proofs.Sizes.{Word32s, decimal_size, decimal_below, corners_size}
use Rattle.mesh.specs.Mesh.{max_triangles}
use Rattle.table.specs.Table.{max_parts}
use Rattle.listing.specs.Listing.{area_of, total_area, share_of, head_line, part_line, part_lines, listing_of}
use Rattle.listing_fits.specs.Fits.{listing_room}

pub refusal_size : (f : ℕ) → length (refusal f) ≤ 29
unfolding refusal
refusal_size f = simp length-append (omega (arith, decimal_size f))

-- "parts ", 4 digits, " corners ", 4, " area2 ", 19 and the end of the line
pub head_size : (ps : List (List Pt)) → length ps ≤ max_parts → length (flatten ps) ≤ 6 * max_triangles → total_area ps < 2 ^ 63 → length (head_line ps) ≤ 50
unfolding head_line
head_size ps h k l = simp length-append (omega (arith, decimal_below 3 (length ps) (omega arith), decimal_below 3 (length (flatten ps)) (omega arith), decimal_below 18 (total_area ps) (omega arith)))

-- a share is at most the whole
share_most : {total a : ℕ} → a ≤ total → 0 < total → share_of total a < 100000
share_most {total} {a} h k = (div-lt_iff_lt-mul {k = total} {x = a * 10000} {y = 100000} k).1 (omega arith)

-- 4 digits, 4, 19 and 5, three spaces, the corners and the end of the line
pub part_size : {total : ℕ} (k : ℕ) (p : List Pt) → k ≤ max_parts → length p ≤ 6 * max_triangles → area_of p ≤ total → total < 2 ^ 63 → 0 < total → All Word32s p → length (part_line total k p) ≤ 36 + 26 * length p
unfolding part_line
part_size {total} k p h l a t z w =
    simp length-append
    (omega (
      arith,
      decimal_below 3 k (omega arith),
      decimal_below 3 (length p) (omega arith),
      decimal_below 18 (area_of p) (omega arith),
      decimal_below 4 (share_of total (area_of p)) (share_most a z),
      corners_size p w,
    ))

-- a part with an area and corners of 32 bits
pub record Plain (p : List Pt) : Type 0 where
  pub some : 0 < area_of p
  pub words : All Word32s p

pub lines_size : {total : ℕ} (k : ℕ) (ps : List (List Pt)) → k + length ps ≤ max_parts → length (flatten ps) ≤ 6 * max_triangles → total_area ps ≤ total → total < 2 ^ 63 → All Plain ps → length (part_lines total k ps) ≤ 36 * length ps + 26 * length (flatten ps)
unfolding part_lines total_area flatten
lines_size k [] h l a t w = omega arith
lines_size {total} k (p ∷ ps) h l a t w =
    let n = length-append p (flatten ps) in
    let one = part_size k p (omega arith) (omega (arith, n)) (omega (arith, a)) t (omega (arith, a, w.0.some)) w.0.words in
    omega (arith, n, one, length-append (part_line total k p) (part_lines total (suc k) ps), lines_size (suc k) ps (omega arith) (omega (arith, n)) (omega (arith, a)) t w.1)

pub listing_size : (ps : List (List Pt)) → length ps ≤ max_parts → length (flatten ps) ≤ 6 * max_triangles → total_area ps < 2 ^ 63 → All Plain ps → length (listing_of ps) ≤ listing_room
unfolding listing_of
listing_size ps h k l w =
    omega (arith, length-append (head_line ps) (part_lines (total_area ps) 0 ps), head_size ps h k l, lines_size 0 ps (omega arith) k (omega arith) l w)
