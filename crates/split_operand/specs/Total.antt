-- The listing's areas, of the split parts of an accepted mesh. Assumes nothing.
use Rattle.std.specs.Prelude.{◌≡◌, ℕ, ◌^◌, ◌<◌, pos}
use Rattle.integers.specs.Lists.{All}
use Rattle.integers.specs.Faults.{first_fault}
use Rattle.mesh.specs.Mesh.{Mesh, mesh_kinds, mesh_area}
use Rattle.split.specs.declared.ConvexSplitStrategy.{ConvexSplitStrategy}
use Rattle.split.specs.Splitting.{split_parts}
use Rattle.listing.specs.Listing.{area_of, total_area}

-- "total doubled area": the mesh's; it and each part's have 63 bits
pub record Totalled (how : ConvexSplitStrategy) (m : ℕ) (mesh : Mesh) : Type 0 where
  pub total : pos (total_area (split_parts how m mesh)) ≡ mesh_area mesh
  pub fits : total_area (split_parts how m mesh) < 2 ^ 63
  pub each : All (λ p. area_of p < 2 ^ 63) (split_parts how m mesh)

abbrev pub ListingTotal : Type 0
ListingTotal = (how : ConvexSplitStrategy) (m : ℕ) (mesh : Mesh) → first_fault (mesh_kinds mesh) ≡ 0 → Totalled how m mesh
