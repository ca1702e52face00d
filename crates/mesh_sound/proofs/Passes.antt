-- The pass over the rows: what is known before row k (`Going`, where z is the areas before it), at
-- the start, where a row or the total ends the pass, at the next row, at the end; the rows from k
-- on (`next_row`, `past_rows`); and what a mesh has that passes (`sound_parts`, `sound_rows`).
-- Assumes nothing.
use mathlib.Core.Path.{◌≡◌, refl, sym, ◌∙◌, ap}
use mathlib.Core.Bool.{true, false, cond}
use mathlib.Core.List.{List, [], ◌∷◌, map}
use Prim.Native.Nat.{ℕ, zero, suc, ◌+◌, ◌≤◌, ◌<◌}
use native.Mathlib.Omega.{arith}
use native.Mathlib.Numerals.{add-one}
use borrow.Author.Tests.{not-true}
use lib.ListN.{length, get_or, drop, drop_of_length-le}
use lib.Seq.{drop-cons}
use lib.IntN.{ℤ, pos, ◌+ℤ◌}
use lib.Signed.{◌≤ℤ◌, ◌<ℤ◌, le_z, lt_z}
use Rattle.integers.specs.Lists.{sumℤ}
use Rattle.integers.proofs.Order.{zarith, add_parts}
use Rattle.integers.proofs.Tests.{both_true, not_then, lt_z-≤, le_z-<, <-lt_z, ≤-lt_z}
use Rattle.mesh.specs.Mesh.{Triangle, Mesh, no_triangle, triangle_at, triangle_area, triangle_off, some_from, off_grid}
use Rattle.mesh.specs.Rows.{row_triangle, rows_mesh, RowOnGrid}
use Rattle.mesh.proofs.Rows.{length_rows, triangle_row}
use Rattle.mesh.proofs.Passes.{row_on_grid}
use Rattle.mesh_sound.specs.Sound.{sound, sound_from}

-- ---- a triangle, and all of them

pub record Sound (t : Triangle) : Type 0 where
  pub on_grid_lem : triangle_off t ≡ false
  pub above : le_z (triangle_area t) (pos 0) ≡ false

pub sound_parts : (t : Triangle) → sound t ≡ true → Sound t
unfolding sound
sound_parts t h =
    let e = not_then (triangle_off t) _ h in
    record { on_grid_lem = e.0; above = not-true (le_z (triangle_area t) (pos 0)) e.1 }

pub sound_rows : {z : ℤ} (l : List Triangle) → z ≤ℤ pos 9223372036854775807 → sound_from z l ≡ true
    → ((i : ℕ) → i < length l → Sound (triangle_at l i)) × ((z +ℤ sumℤ (map triangle_area l)) ≤ℤ pos 9223372036854775807)
unfolding sound_from sumℤ
sound_rows {z} [] g h = ((λ i l. absurd (omega arith)), omega (zarith, add_parts z (pos 0)))
sound_rows {z} (t ∷ l) g h =
    let s = sumℤ (map triangle_area l) in
    let e = both_true (sound t) _ h in
    let f = not_then (lt_z (pos 9223372036854775807) (z +ℤ triangle_area t)) (sound_from (z +ℤ triangle_area t) l) e.1 in
    let r = sound_rows {z = z +ℤ triangle_area t} l (lt_z-≤ _ _ f.0) f.1 in
    (at e.0 r.0, omega (zarith, r.1, add_parts (z +ℤ triangle_area t) s, add_parts z (triangle_area t), add_parts z (triangle_area t +ℤ s), add_parts (triangle_area t) s))
  where
    at : sound t ≡ true → ((i : ℕ) → i < length l → Sound (triangle_at l i)) → (i : ℕ) → i < suc (length l) → Sound (triangle_at (t ∷ l) i)
    at e f zero h = sound_parts t e
    at e f (suc i) h = f i (omega arith)

-- a row that is not off the grid is on it
pub on_grid_lem : (row : List ℤ) → triangle_off (row_triangle row) ≡ false → RowOnGrid row
unfolding off_grid some_from rows_mesh
on_grid_lem row e = row_on_grid (row ∷ []) {k = 0} (omega arith) (rw e)

-- ---- the pass

abbrev top : ℤ
top = pos 9223372036854775807

pub record Going (rows : List (List ℤ)) (k : ℕ) (z : ℤ) : Type 0 where
  pub low : pos 0 ≤ℤ z
  pub rest : sound_from (pos 0) (rows_mesh rows) ≡ sound_from z (drop k (rows_mesh rows))

module _ (rows : List (List ℤ)) where
  abbrev m : Mesh
  m = rows_mesh rows

  pub past_rows : {k : ℕ} → length rows ≤ k → drop k m ≡ []
  past_rows {k} h = drop_of_length-le m {i = k} (omega (arith, length_rows rows))

  pub next_row : {k : ℕ} → k < length rows → drop k m ≡ triangle_at m k ∷ drop (suc k) m
  next_row {k} h = drop-cons m k no_triangle (omega (arith, length_rows rows))

  pub going_start : Going rows 0 (pos 0)
  going_start = record { low = omega zarith; rest = refl }

  pub going_end : {k : ℕ} {z : ℤ} → length rows ≤ k → Going rows k z → true ≡ sound_from (pos 0) m
  unfolding sound_from
  going_end {k} {z} h g = sym (g.rest ∙ ap (sound_from z) (past_rows h))

  module _ (k : ℕ) (h : k < length rows) where
    abbrev t : Triangle
    t = row_triangle (get_or rows k [])

    abbrev area : ℤ
    area = triangle_area t

    pub row_on : sound t ≡ true → RowOnGrid (get_or rows k [])
    row_on e = on_grid_lem (get_or rows k []) (sound_parts t e).on_grid_lem

    pub row_above : sound t ≡ true → pos 0 ≤ℤ area
    row_above e = omega (zarith, le_z-< area (pos 0) (sound_parts t e).above)

    module _ {z : ℤ} (g : Going rows k z) where
      turn : sound_from (pos 0) m ≡ cond (sound t) (cond (lt_z top (z +ℤ area)) false (sound_from (z +ℤ area) (drop (suc k) m))) false
      unfolding sound_from
      turn = g.rest ∙ ap (sound_from z) (next_row h ∙ ap (λ u. u ∷ drop (suc k) m) (triangle_row rows k h))

      pub going_row : sound t ≡ false → false ≡ sound_from (pos 0) m
      going_row e = sym (turn ∙ rw e)

      module _ (e : sound t ≡ true) where
        pub going_past : top <ℤ (z +ℤ area) → false ≡ sound_from (pos 0) m
        going_past p = sym (turn ∙ rw (e, <-lt_z {x = top} {y = z +ℤ area} p))

        pub going_next : (z +ℤ area) ≤ℤ top → Going rows (k + 1) (z +ℤ area)
        going_next p = record {
          low = omega (zarith, g.low, row_above e, add_parts z area);
          rest = turn ∙ rw (e, ≤-lt_z {x = top} {y = z +ℤ area} p, add-one);
        }
