-- The parts of an accepted mesh before a split: on the grid, short, no edge clockwise seen from the
-- first corner, a doubled area above 0 that fits 64 bits (`parts_summable`). In order: sums of
-- terms at least 0; one part; all. Assumes nothing.
use mathlib.Core.Path.{◌≡◌, sym, subst}
use mathlib.Core.Bool.{true}
use mathlib.Core.List.{List, [], ◌∷◌, map}
use Prim.Native.Nat.{◌^◌, ◌≤◌, ◌<◌}
use lib.ListN.{length, get_or}
use lib.IntN.{ℤ, pos, nat_abs, ◌+ℤ◌}
use lib.Signed.{◌≤ℤ◌, ◌<ℤ◌, le_z}
use Rattle.integers.specs.Lists.{All, sumℤ, neighbours, both}
use Rattle.integers.proofs.Order.{zarith, add_parts, <-≤, ≤_trans}
use Rattle.integers.proofs.Tests.{<-lt_z, ≤-le_z}
use Rattle.integers.proofs.Sizes.{abs_parts}
use Rattle.integers.proofs.Sums.{sum_cons}
use Rattle.integers.proofs.Elements.{all_map, all_map2, all_image}
use Rattle.integers.proofs.Neighbours.{map_neighbours}
use Rattle.plane.specs.Plane.{Pt, O, ◌-ᵖ◌, on_grid, cross}
use Rattle.plane.specs.Contour.{contour_area}
use Rattle.mesh.proofs.Accepted.{Accepted, accepted}
use Rattle.convex.specs.Joining.{parts}
use Rattle.convex.proofs.Parts.{parts_area}
use Rattle.convex.proofs.Sizes.{parts_short}
use Rattle.convex.proofs.Vertices.{parts_vertices}
use Rattle.pair.proofs.Totals.{nn_sum}
use Rattle.convex_pairs.proofs.Triples.{Triples}
use Rattle.convex_pairs.proofs.Convexity.{Polygon, polygon_area, triples_wedges}
use Rattle.convex_pairs.proofs.Meets.{parts_polygons}
use Rattle.split.specs.Splitting.{seen_from}
use Rattle.split_centre.specs.Centre.{Summable}
use Rattle.table.specs.Table.{max_contour}
use Rattle.split_pairs.specs.Premise.{PartsSummable}

-- ---- sums of terms at least 0

-- no term is more than the sum
pub terms_most : (l : List ℤ) → All (λ k. pos 0 ≤ℤ k) l → All (λ k. k ≤ℤ sumℤ l) l
terms_most [] h = tt
terms_most (k ∷ l) h =
    (first k (sum_cons k l) (nn_sum l h.1), all_map l (λ j g. other (sum_cons k l) h.0 g) (terms_most l h.1))
  where
    first : (k : ℤ) {t : ℤ} {s : ℤ} → s ≡ k +ℤ t → pos 0 ≤ℤ t → k ≤ℤ s
    first k {t} e h = omega (zarith, add_parts k t)

    other : {j k t : ℤ} {s : ℤ} → s ≡ k +ℤ t → pos 0 ≤ℤ k → j ≤ℤ t → j ≤ℤ s
    other {k} {t} e h g = omega (zarith, add_parts k t)

-- polygons whose doubled areas add up to what fits 64 bits: each does
pub areas_fit : (ps : List (List Pt)) → All Polygon ps → sumℤ (map contour_area ps) ≤ℤ pos 9223372036854775807 → All (λ l. contour_area l ≤ℤ pos 9223372036854775807) ps
areas_fit ps h k =
    (all_image (λ z. z ≤ℤ pos 9223372036854775807) contour_area ps).0
    (all_map (map contour_area ps) (λ z g. ≤_trans g k)
    (terms_most (map contour_area ps) ((all_image (λ z. pos 0 ≤ℤ z) contour_area ps).1 (all_map ps (λ l p. <-≤ (polygon_area p)) h))))

-- ---- one part

-- the edges seen from the first corner
seen_wedges : (l : List Pt) → Triples l → All (λ e. le_z (pos 0) (cross e.0 e.1) ≡ true) (neighbours (seen_from (get_or l 0 O) l))
seen_wedges [] h = unfold neighbours in tt
seen_wedges (c ∷ l) h =
    subst (All (λ e. le_z (pos 0) (cross e.0 e.1) ≡ true)) (map_neighbours (λ p. p -ᵖ c) (c ∷ l))
    ((all_image (λ e. le_z (pos 0) (cross e.0 e.1) ≡ true) (both (λ p. p -ᵖ c)) (neighbours (c ∷ l))).1
    (all_map (neighbours (c ∷ l)) (λ e k. ≤-le_z k) (triples_wedges c l h)))

-- a doubled area above 0 and no more than 2^63 − 1
pub fits_word : {z : ℤ} → pos 0 <ℤ z → z ≤ℤ pos 9223372036854775807 → nat_abs z < 2 ^ 63
fits_word {z} h k = omega (zarith, abs_parts z)

summable : {l : List Pt} → Polygon l → All (λ p. on_grid p ≡ true) l → length l ≤ max_contour → contour_area l ≤ℤ pos 9223372036854775807 → Summable l
summable {l} p g s k = record {
  grid = g;
  size = s;
  wedges = seen_wedges l p.triples;
  above = <-lt_z (polygon_area p);
  below = fits_word (polygon_area p) k;
}

-- ---- all

pub parts_summable : PartsSummable
parts_summable mesh h =
    let ok : Accepted mesh = accepted mesh h in
    let ps : List (List Pt) = parts mesh in
    let polygons : All Polygon ps = parts_polygons mesh h in
    let fit : All (λ l. contour_area l ≤ℤ pos 9223372036854775807) ps = areas_fit ps polygons (subst (λ z. z ≤ℤ pos 9223372036854775807) (sym (parts_area ok)) ok.fits) in
    let grid : All (All (λ p. on_grid p ≡ true)) ps = parts_vertices (λ p. on_grid p ≡ true) ok (λ k i l. ok.on_grid_lem k i l) in
    let shapes : All (λ l. Polygon l × All (λ p. on_grid p ≡ true) l) ps = all_map2 ps (λ l p g. (p, g)) polygons grid in
    let sizes : All (λ l. (length l ≤ max_contour) × (contour_area l ≤ℤ pos 9223372036854775807)) ps = all_map2 ps (λ l s f. (s, f)) (parts_short ok) fit in
    all_map2 ps (λ l a b. summable a.0 a.1 b.0 b.1) shapes sizes
