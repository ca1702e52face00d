-- Doubled areas of regions, on an accepted mesh: a region's contour has the sum of those of the
-- triangles taken (`region_area`), and so have all regions together the mesh's (`regions_area`).
-- Not here: the parts, whose corners of turn 0 are dropped (`Parts`). Assumes an accepted mesh
-- where it says so.
use mathlib.Core.Path.{◌≡◌, sym, ◌∙◌, ap, ap₂}
use mathlib.Core.List.{List, [], ◌∷◌, ◌++◌, map, map-map, map-append}
use Prim.Native.Nat.{ℕ, ◌<◌}
use native.Mathlib.Nat.{le_refl}
use lib.ListN.{length}
use lib.Seq.{take-length}
use lib.IntN.{ℤ, ◌+ℤ◌, +ℤ_idr}
use Rattle.integers.specs.Lists.{All, sumℤ, up_to}
use Rattle.integers.proofs.Elements.{map_all}
use Rattle.integers.proofs.Sums.{sum_snoc, sum_map_flatten}
use Rattle.integers.proofs.Counting.{sum_once, map-get_or-up_to}
use Rattle.plane.specs.Plane.{Pt}
use Rattle.plane.specs.Contour.{last_of, contour_area}
use Rattle.plane.proofs.Contours.{contour_rotate, contour_triangle, contour_insert}
use Rattle.mesh.specs.Mesh.{Mesh, no_triangle, triangle_at, triangle_area, mesh_area}
use Rattle.mesh.proofs.Accepted.{Accepted}
use Rattle.convex.specs.Joining.{region, regions}
use Rattle.convex.proofs.Regions.{regions_once}
use Rattle.convex.proofs.Whole.{Joint, contour_keeps, all_regions}

module _ (m : Mesh) (ok : Accepted m) where
  -- the doubled area of triangle j
  abbrev pub area_at : ℕ → ℤ
  area_at j = triangle_area (triangle_at m j)

  -- one region: a corner p between x and b adds the triangle x p b
  pub region_area : (seen : List ℕ) (k : ℕ) → k < length m
      → contour_area (map (λ c. c.point) (region m seen k).contour) ≡ sumℤ (map (λ j. triangle_area (triangle_at m j)) (region m seen k).taken)
  unfolding sumℤ
  region_area = contour_keeps m ok (λ t l. contour_area l ≡ sumℤ (map area_at t)) (λ t k l h. contour_rotate k l ∙ h) join (λ k h. contour_triangle _ _ _ ∙ sym (+ℤ_idr (area_at k)))
    where
      join : (t : List ℕ) (j : ℕ) (x p b b0 : Pt) (l : List Pt) → Joint m j (last_of b0 l) x p b b0 → contour_area (x ∷ b ∷ b0 ∷ l) ≡ sumℤ (map area_at t)
          → contour_area (x ∷ p ∷ b ∷ b0 ∷ l) ≡ sumℤ (map area_at (t ++ (j ∷ [])))
      join t j x p b b0 l u h = contour_insert x p b (b0 ∷ l) ∙ ap₂ ◌+ℤ◌ h u.area ∙ sym (ap sumℤ (map-append area_at t (j ∷ [])) ∙ sum_snoc (map area_at t) (area_at j))

  -- the same of every region of the mesh
  pub all_areas : All (λ r. contour_area (map (λ c. c.point) r.contour) ≡ sumℤ (map (λ j. triangle_area (triangle_at m j)) r.taken)) (regions m)
  all_areas = all_regions m (λ r. contour_area (map (λ c. c.point) r.contour) ≡ sumℤ (map area_at r.taken)) region_area

  -- Σ over 0, 1, …, n − 1 is the mesh's
  mesh_sum : sumℤ (map area_at (up_to (length m))) ≡ mesh_area m
  unfolding mesh_area
  mesh_sum =
      ap sumℤ
      (sym (map-map triangle_area (triangle_at m) (up_to (length m)))
      ∙ ap (map triangle_area) (map-get_or-up_to m no_triangle (length m) (le_refl (length m)) ∙ take-length m))

  -- the regions' areas add up to the mesh's
  pub taken_area : sumℤ (map (λ r. sumℤ (map (λ j. triangle_area (triangle_at m j)) r.taken)) (regions m)) ≡ mesh_area m
  taken_area =
      ap sumℤ (sym (map-map (λ l. sumℤ (map area_at l)) (λ r. r.taken) (regions m)))
      ∙ sym (sum_map_flatten area_at (map (λ r. r.taken) (regions m))) ∙ sum_once area_at (regions_once m ok) ∙ mesh_sum

  -- the regions' contours together have the mesh's doubled area
  pub regions_area : sumℤ (map (λ r. contour_area (map (λ c. c.point) r.contour)) (regions m)) ≡ mesh_area m
  regions_area = ap sumℤ (map_all _ _ (regions m) all_areas) ∙ taken_area
