-- Any file: an accepted one's parts can be listed (`file_listable`), and what is printed fits
-- (`listing_fits`). Assumes nothing.
use mathlib.Core.Path.{◌≡◌, refl, sym, ◌∙◌, ap, subst}
use mathlib.Core.Bool.{true, false}
use mathlib.Core.List.{List, [], append-nil, flatten}
use Prim.Native.Nat.{ℕ, ◌^◌, ◌≤◌, ◌<◌}
use native.Mathlib.Omega.{arith}
use borrow.Author.Tests.{eqb-true}
use lib.Dec.{eqb}
use lib.ListN.{length}
use lib.IntN.{ℤ, pos, nat_abs}
use lib.Signed.{◌<ℤ◌, lt_z}
use Rattle.integers.specs.Lists.{All}
use Rattle.integers.specs.Faults.{first_fault}
use Rattle.integers.proofs.Order.{zarith, by_test}
use Rattle.integers.proofs.Sizes.{abs_parts}
use Rattle.integers.proofs.Tests.{<-lt_z}
use Rattle.integers.proofs.Elements.{all_map, all_map2, all_flatten}
use Rattle.plane.specs.Plane.{Pt, on_grid}
use Rattle.plane.specs.Contour.{contour_area}
use Rattle.plane.proofs.Size.{coordinate_fits, on_grid_both}
use Rattle.mesh.specs.Mesh.{Mesh, mesh_kinds}
use Rattle.corners.specs.Corners.{numbers_of, off_range}
use Rattle.table.specs.Table.{starts_of, corners_of}
use Rattle.table.proofs.Rules.{parts_table}
use Rattle.text.specs.Text.{refusal}
use Rattle.text.proofs.Sizes.{Word32s}
use Rattle.split.specs.declared.ConvexSplitStrategy.{ConvexSplitStrategy}
use Rattle.split.specs.Splitting.{split_parts}
use Rattle.split.proofs.Sizes.{split_table}
use Rattle.listing.specs.File.{file_fault, mesh_of, corner_limit, split_number, strategy_of, file_parts}
use Rattle.listing.proofs.File.{accepted_mesh}
use Rattle.listing.specs.Listing.{total_area, listing_of, areas_of}
use Rattle.convex_pairs.proofs.Convexity.{polygon_area}
use Rattle.split_pairs.proofs.Theorem.{split_polygons, split_on_grid}
use Rattle.corners.proofs.Range.{numbers_range}
use Rattle.split_operand.proofs.Total.{listing_total}
use Rattle.listing_areas.specs.Areas.{Listable}
use Rattle.listing_fits.specs.Fits.{listing_room, ListingFits, FileListable}
use Rattle.listing_fits.proofs.Sizes.{Plain, refusal_size, listing_size}

-- ---- its parts

module _ (how : ConvexSplitStrategy) (m : ℕ) (mesh : Mesh) (h : first_fault (mesh_kinds mesh) ≡ 0) where
  abbrev ps : List (List Pt)
  ps = split_parts how m mesh

  split_plain : All Plain ps
  split_plain = all_map2 ps (λ l p g. record { some = above (polygon_area p); words = all_map l word g }) (split_polygons how m mesh h) (split_on_grid how m mesh h)
    where
      above : {z : ℤ} → pos 0 <ℤ z → 0 < nat_abs z
      above {z} k = omega (zarith, abs_parts z)

      word : (p : Pt) → on_grid p ≡ true → Word32s p
      word p g = let b = on_grid_both p g in record { x_fits = coordinate_fits b.0; y_fits = coordinate_fits b.1 }

  split_fits : length (listing_of ps) ≤ listing_room
  split_fits = let t = split_table how m mesh h in listing_size ps t.few_parts t.few_corners (listing_total how m mesh h).fits split_plain

  pub split_listable : Listable (starts_of ps) (corners_of ps)
  unfolding corners_of off_range
  split_listable = record {
    whole = (split_table how m mesh h).table;
    ranged = ap off_range (sym (append-nil (numbers_of (flatten ps)))) ∙ numbers_range (flatten ps) [] ((all_flatten (λ p. on_grid p ≡ true) ps).1 (split_on_grid how m mesh h)) refl;
    above = subst (All (λ p. lt_z (pos 0) (contour_area p) ≡ true)) (sym (parts_table ps)) (all_map ps (λ l p. <-lt_z (polygon_area p)) (split_polygons how m mesh h));
    below = subst (λ qs. total_area qs < 2 ^ 63) (sym (parts_table ps)) (listing_total how m mesh h).fits;
  }

-- ---- any file

areas_accepted : (bytes : List ℕ) → eqb (file_fault bytes) 0 ≡ true → areas_of bytes ≡ listing_of (file_parts bytes)
unfolding areas_of
areas_accepted bytes e = rw e

areas_refused : (bytes : List ℕ) → eqb (file_fault bytes) 0 ≡ false → areas_of bytes ≡ refusal (file_fault bytes)
unfolding areas_of
areas_refused bytes e = rw e

pub file_listable : FileListable
file_listable bytes e =
    let h = accepted_mesh bytes e in
    record {
      listable = split_listable (strategy_of (split_number bytes)) (corner_limit bytes) (mesh_of bytes) h;
      text = areas_accepted bytes (ap (λ n. eqb n 0) e) ∙ ap listing_of (sym (parts_table (file_parts bytes)));
    }

pub listing_fits : ListingFits
listing_fits bytes =
    by_test (eqb (file_fault bytes) 0)
    (λ e. omega (
      arith,
      ap length (areas_accepted bytes e),
      split_fits (strategy_of (split_number bytes)) (corner_limit bytes) (mesh_of bytes) (accepted_mesh bytes (eqb-true (file_fault bytes) 0 e)),
    ))
    (λ e. omega (arith, ap length (areas_refused bytes e), refusal_size (file_fault bytes)))
