-- The listing's total of the split parts is the mesh's doubled area (`listing_total`): each part's
-- is above 0, so its size is itself. Assumes nothing.
use mathlib.Core.Path.{◌≡◌, refl, ◌∙◌}
use mathlib.Core.List.{List, [], ◌∷◌, map}
use Prim.Native.Nat.{ℕ, ◌+◌, ◌^◌, ◌<◌}
use lib.IntN.{ℤ, pos, nat_abs, ◌+ℤ◌}
use lib.Signed.{◌≤ℤ◌, ◌<ℤ◌}
use Rattle.integers.specs.Lists.{All, sumℤ}
use Rattle.integers.proofs.Order.{zarith, add_parts}
use Rattle.integers.proofs.Sizes.{abs_parts}
use Rattle.integers.proofs.Elements.{all_map2}
use Rattle.plane.specs.Plane.{Pt}
use Rattle.plane.specs.Contour.{contour_area}
use Rattle.mesh.specs.Mesh.{mesh_area}
use Rattle.mesh.proofs.Accepted.{accepted}
use Rattle.split.specs.Splitting.{split_parts}
use Rattle.split.proofs.Areas.{split_areas}
use Rattle.listing.specs.Listing.{total_area}
use Rattle.convex_pairs.proofs.Convexity.{Polygon, polygon_area}
use Rattle.split_pairs.proofs.Joined.{fits_word}
use Rattle.split_pairs.proofs.Theorem.{split_polygons}
use Rattle.split_operand.specs.Total.{ListingTotal}
use Rattle.split_operand.proofs.Operand.{split_fits}

-- sizes of polygons' areas add up to their sum
total_sum : (ps : List (List Pt)) → All Polygon ps → pos (total_area ps) ≡ sumℤ (map contour_area ps)
unfolding total_area sumℤ
total_sum [] h = refl
total_sum (p ∷ ps) h = one (polygon_area h.0) (total_sum ps h.1)
  where
    one : {a : ℤ} {n : ℕ} {s : ℤ} → pos 0 <ℤ a → pos n ≡ s → pos (nat_abs a + n) ≡ a +ℤ s
    one {a} {s} h e = omega (zarith, abs_parts a, add_parts a s)

pub listing_total : ListingTotal
listing_total how m mesh h =
    let ps : List (List Pt) = split_parts how m mesh in
    let polygons : All Polygon ps = split_polygons how m mesh h in
    let total : pos (total_area ps) ≡ mesh_area mesh = total_sum ps polygons ∙ split_areas how m mesh h in
    record {
      total = total;
      fits = below total (accepted mesh h).fits;
      each = all_map2 ps (λ l p f. fits_word (polygon_area p) f) polygons (split_fits how m mesh h);
    }
  where
    below : {n : ℕ} {s : ℤ} → pos n ≡ s → s ≤ℤ pos 9223372036854775807 → n < 2 ^ 63
    below e h = omega zarith
