-- The areas of a mesh added up row by row: z of those before row k (`Sum`), at the start, one more,
-- past 2^63 - 1, at the end. Assumes nothing.
use mathlib.Core.Path.{◌≡◌, sym, ◌∙◌, ap}
use mathlib.Core.Bool.{true, false}
use mathlib.Core.List.{List, [], ◌∷◌, map}
use Prim.Native.Nat.{ℕ, suc, ◌+◌, ◌≤◌, ◌<◌}
use native.Mathlib.Omega.{arith}
use native.Mathlib.Numerals.{add-one}
use lib.ListN.{length, get_or, drop, length-drop, drop_of_length-le}
use lib.Seq.{drop-cons, get_or-drop}
use lib.IntN.{ℤ, pos, ◌+ℤ◌}
use lib.Signed.{◌≤ℤ◌, ◌<ℤ◌}
use Rattle.integers.specs.Lists.{All, sumℤ}
use Rattle.integers.proofs.Elements.{get_or_all}
use Rattle.integers.proofs.Sums.{sum_cons}
use Rattle.integers.proofs.Order.{zarith, add_parts}
use Rattle.integers.proofs.Tests.{<-lt_z, ≤-lt_z}
use Rattle.mesh.specs.Mesh.{Triangle, no_triangle, triangle_at, triangle_area, flat, mesh_area, too_large}
use Rattle.mesh.specs.Rows.{row_triangle, rows_mesh}
use Rattle.mesh.proofs.Accepted.{area_rule}
use Rattle.mesh.proofs.Rows.{length_rows, triangle_row}

-- the areas from row k on
abbrev rest : List (List ℤ) → ℕ → ℤ
rest rows k = sumℤ (map triangle_area (drop k (rows_mesh rows)))

-- z is the areas before row k, and within 64 bits
pub record Sum (rows : List (List ℤ)) (k : ℕ) (z : ℤ) : Type 0 where
  pub low : pos 0 ≤ℤ z
  pub high : z ≤ℤ pos 9223372036854775807
  pub whole : mesh_area (rows_mesh rows) ≡ z +ℤ rest rows k

sum_low : (l : List Triangle) → All (λ t. pos 0 ≤ℤ triangle_area t) l → pos 0 ≤ℤ sumℤ (map triangle_area l)
unfolding sumℤ
sum_low [] h = omega zarith
sum_low (t ∷ l) h = omega (zarith, h.0, sum_low l h.1, add_parts (triangle_area t) (sumℤ (map triangle_area l)))

module _ (rows : List (List ℤ)) where
  pub sum_start : Sum rows 0 (pos 0)
  unfolding mesh_area
  sum_start = record { low = omega zarith; high = omega zarith; whole = omega (zarith, add_parts (pos 0) (rest rows 0)) }

  turn : {k : ℕ} → k < length rows → rest rows k ≡ triangle_area (row_triangle (get_or rows k [])) +ℤ rest rows (suc k)
  turn {k} h =
      ap (λ l. sumℤ (map triangle_area l)) (drop-cons (rows_mesh rows) k no_triangle (omega (arith, length_rows rows)))
      ∙ sum_cons (triangle_area (triangle_at (rows_mesh rows) k)) (map triangle_area (drop (suc k) (rows_mesh rows)))
      ∙ ap (λ t. triangle_area t +ℤ rest rows (suc k)) (triangle_row rows k h)

  module _ (f : flat (rows_mesh rows) ≡ false) where
    pub row_above : {k : ℕ} → k < length rows → pos 0 ≤ℤ triangle_area (row_triangle (get_or rows k []))
    row_above {k} h = omega (zarith, area_rule (rows_mesh rows) f k (omega (arith, length_rows rows)), ap triangle_area (triangle_row rows k h))

    rest_low : (k : ℕ) → pos 0 ≤ℤ rest rows k
    rest_low k =
        sum_low (drop k (rows_mesh rows))
        (get_or_all (λ t. pos 0 ≤ℤ triangle_area t) (drop k (rows_mesh rows)) no_triangle
        (λ i h. omega (zarith, area_rule (rows_mesh rows) f (k + i) (omega (arith, h, length-drop k (rows_mesh rows))), ap triangle_area (get_or-drop k (rows_mesh rows) i no_triangle))))

    module _ {k : ℕ} (h : k < length rows) {z : ℤ} (s : Sum rows k z) where
      abbrev area : ℤ
      area = triangle_area (row_triangle (get_or rows k []))

      pub sum_next : (z +ℤ area) ≤ℤ pos 9223372036854775807 → Sum rows (k + 1) (z +ℤ area)
      sum_next g = record {
        low = omega (zarith, s.low, row_above h, add_parts z area);
        high = g;
        whole = s.whole ∙ omega (zarith, turn h, add_parts z (rest rows k), add_parts area (rest rows (suc k)), add_parts z area, add_parts (z +ℤ area) (rest rows (suc k)), ap (rest rows) (add-one k), add_parts (z +ℤ area) (rest rows (k + 1)));
      }

      pub sum_past : pos 9223372036854775807 <ℤ (z +ℤ area) → true ≡ too_large (rows_mesh rows)
      unfolding too_large
      sum_past g =
          sym (<-lt_z {x = pos 9223372036854775807} {y = mesh_area (rows_mesh rows)} (omega (zarith, g, s.whole, rest_low (suc k), turn h, add_parts z (rest rows k), add_parts area (rest rows (suc k)), add_parts z area)))

  pub sum_end : {k : ℕ} {z : ℤ} → length rows ≤ k → Sum rows k z → false ≡ too_large (rows_mesh rows)
  unfolding too_large sumℤ
  sum_end {k} {z} h s =
      sym (≤-lt_z {x = pos 9223372036854775807} {y = mesh_area (rows_mesh rows)} (omega (zarith, s.high, s.whole, add_parts z (rest rows k), empty)))
    where
      empty : rest rows k ≡ pos 0
      empty = ap (λ l. sumℤ (map triangle_area l)) (drop_of_length-le (rows_mesh rows) {i = k} (omega (arith, length_rows rows)))
