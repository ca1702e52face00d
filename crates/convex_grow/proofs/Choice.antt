-- What the step finds across the edge on top, by the tests of the code: nothing (`nothing`), a
-- triangle taken (`skipped`), one that stays apart (`apart`) or one that joins (`joined`). Assumes
-- nothing.
use mathlib.Core.Path.{◌≡◌, sym, ◌∙◌, ap}
use mathlib.Core.Bool.{Bool, true, false, cond}
use mathlib.Core.List.{List, []}
use Prim.Native.Nat.{ℕ, ◌-◌, ◌<◌}
use native.Mathlib.Omega.{arith}
use borrow.Author.Tests.{eq-eqb, ne_eqb}
use lib.Dec.{eqb}
use lib.ListN.{length, get_or}
use lib.IntN.{ℤ}
use Rattle.plane.specs.declared.IntPoint.{IntPoint}
use Rattle.plane.specs.Plane.{Pt, O}
use Rattle.plane.specs.Machine.{point, OnGrid}
use Rattle.mesh.specs.Mesh.{Mesh, Triangle, none, vertex, triangle_at, opposite}
use Rattle.mesh.specs.Rows.{row_triangle, rows_mesh}
use Rattle.mesh.proofs.Accepted.{accepted}
use Rattle.mesh.proofs.Rows.{length_rows, triangle_row}
use Rattle.convex.specs.Joining.{joins}
use Rattle.convex.specs.Zipper.{Slot, joins_z}
use Rattle.convex_ring.specs.declared.Progress.{Progress}
use Rattle.convex_ring.specs.Buffers.{slot_at, around, Sound}
use Rattle.points.proofs.Points.{on_grid_of}

-- the neighbour to join over the edge of slot x, or none; r are the corners after x round the
-- contour
unfoldable pub chosen : Mesh → List Bool → Slot → List Pt → ℕ
chosen m flags x r =
    cond (eqb x.across none) none
    (cond (get_or flags x.across false) none
    (cond (joins_z x r (triangle_at m x.across) (opposite (triangle_at m x.across) x.inside)) x.across none))

module _ (size : ℕ) (rows : List (List ℤ)) (cs : List (List ℤ)) (es : List (List ℕ)) (flags : List Bool) (p : Progress) (s : Sound size (rows_mesh rows) cs es flags p) where
  abbrev x : Slot
  x = slot_at cs es (p.pending - 1)

  abbrev r : List Pt
  r = around cs p.pending p.done

  abbrev pub answer : ℕ
  answer = chosen (rows_mesh rows) flags x r

  abbrev u : Triangle
  u = triangle_at (rows_mesh rows) x.across

  pub nothing : x.across ≡ none → answer ≡ none
  unfolding chosen
  nothing h = rw (eq-eqb x.across none h)

  module _ (d : x.across ≡ none → ⊥) where
    in_mesh : x.across < length (rows_mesh rows)
    in_mesh = s.ready.across (p.pending - 1) (omega (arith, s.room, s.whole)) s.meshed d

    pub in_rows : x.across < length rows
    in_rows = omega (arith, in_mesh, length_rows rows)

    pub in_flags : x.across < length flags
    in_flags = omega (arith, in_mesh, s.ready.marks)

    pub skipped : get_or flags x.across false ≡ true → answer ≡ none
    unfolding chosen
    skipped f = rw (ne_eqb x.across none d, f)

    -- the row there is the triangle
    pub row_across : row_triangle (get_or rows x.across []) ≡ u
    row_across = sym (triangle_row rows x.across in_rows)

    module _ {far : IntPoint} (w : point far ≡ vertex (row_triangle (get_or rows x.across [])) (opposite (row_triangle (get_or rows x.across [])) x.inside)) where
      pub far_vertex : point far ≡ vertex u (opposite u x.inside)
      far_vertex = w ∙ ap (λ t. vertex t (opposite t x.inside)) row_across

      pub far_grid : OnGrid far
      far_grid = on_grid_of far_vertex ((accepted (rows_mesh rows) s.ready.accepted).on_grid_lem x.across (opposite u x.inside) in_mesh)

      module _ (f : get_or flags x.across false ≡ false) {b : Bool} (q : b ≡ joins (get_or r (length r - 1) O) x.corner (point far) (get_or r 0 O) (get_or r 1 O)) where
        by_join : answer ≡ cond b x.across none
        unfolding chosen
        by_join =
            rw (ne_eqb x.across none d, f)
            (ap (λ t. cond t x.across none)
            (sym (q ∙ ap (λ a. joins (get_or r (length r - 1) O) x.corner a (get_or r 0 O) (get_or r 1 O)) far_vertex)))

        pub joined : b ≡ true → x.across ≡ answer
        joined h = sym (by_join ∙ ap (λ t. cond t x.across none) h)

        pub apart : b ≡ false → answer ≡ none
        apart h = by_join ∙ ap (λ t. cond t x.across none) h
