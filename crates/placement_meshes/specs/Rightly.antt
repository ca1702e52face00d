-- What a place tells by the contours of all pairs of the difference of two accepted meshes
-- (`DifferenceRightly`), and so what `placement` tells of those that an accepted call leaves
-- (`PlacementTold`). Assumes nothing.
use Rattle.std.specs.Prelude.{◌≡◌, true, List, ◌↔◌, ℕ, ◌+◌, ◌*◌, length, get_or, take, ℤ, pos}
use Rattle.integers.specs.Faults.{first_fault}
use Rattle.plane.specs.Plane.{Pt, on_grid}
use Rattle.mesh.specs.Mesh.{Mesh, mesh_kinds}
use Rattle.table.specs.declared.IntRect.{IntRect}
use Rattle.split.specs.declared.ConvexSplitStrategy.{ConvexSplitStrategy}
use Rattle.split.specs.Splitting.{split_parts}
use Rattle.minkowski.specs.Pairs.{Operand, pairs_of, pairs_fault, pairs_starts, pairs_corners}
use Rattle.minkowski_pairs.specs.Results.{pair_count}
use Rattle.split_operand.specs.Operand.{split_operand}
use Rattle.cover.specs.Overlap.{Meet, Overlap}
use Rattle.cover.specs.Wholes.{SomePair}
use Rattle.cover_parts.specs.Parts.{triangle_contour}
use Rattle.placement.specs.declared.Contact.{Contact}
use Rattle.placement.specs.declared.Contact.TheVariants.{Apart, Touching, Overlapping}
use Rattle.placement.specs.declared.Placed.TheVariants.{At}
use Rattle.placement.specs.Placement.{contact_by, placed_of}

-- the second mesh, moved by z, meets the first: a triangle of each share a point; it overlaps it:
-- they share a point strictly inside both
abbrev pub Meets : Mesh → Mesh → Pt → Type 0
Meets mesh mesh' z = SomePair (λ s t. Meet (triangle_contour s) (triangle_contour t) (pos 1) z) mesh mesh'

abbrev pub Overlaps : Mesh → Mesh → Pt → Type 0
Overlaps mesh mesh' z = SomePair (λ s t. Overlap (triangle_contour s) (triangle_contour t) (pos 1) z) mesh mesh'

pub record Rightly (c : Contact) (mesh mesh' : Mesh) (z : Pt) : Type 0 where
  pub overlapping : (c ≡ Overlapping) ↔ Overlaps mesh mesh' z
  pub touching : (c ≡ Touching) ↔ (Meets mesh mesh' z × (Overlaps mesh mesh' z → ⊥))
  pub apart : (c ≡ Apart) ↔ (Meets mesh mesh' z → ⊥)

-- by the contours of all pairs of the difference of their split parts, for any limits, strategies
-- and place
abbrev pub DifferenceRightly : Type 0
DifferenceRightly =
    (how : ConvexSplitStrategy) (m : ℕ) (mesh : Mesh) (how' : ConvexSplitStrategy) (m' : ℕ) (mesh' : Mesh) → first_fault (mesh_kinds mesh) ≡ 0 → first_fault (mesh_kinds mesh') ≡ 0 →
    (z : Pt) → Rightly (contact_by z (pairs_of true (split_parts how m mesh) (split_parts how' m' mesh'))) mesh mesh' z

-- the starts and the corners that a difference of l and r wrote on the front of lent ones, which
-- held s and c: as many as it told
abbrev pub starts_left : Operand → Operand → List ℕ → List ℤ → List ℕ
starts_left l r s c = take (pair_count l r + 1) (pairs_starts true l r s c)

abbrev pub corners_left : Operand → Operand → List ℕ → List ℤ → List ℤ
corners_left l r s c = take (2 * get_or (pairs_starts true l r s c) (pair_count l r) 0) (pairs_corners true l r s c)

-- the answer of the call with those
pub record PlacedRightly (starts : List ℕ) (corners : List ℤ) (z : Pt) (mesh mesh' : Mesh) : Type 0 where
  pub contact : Contact
  pub answer : placed_of starts corners z ≡ At contact
  pub rightly : Rightly contact mesh mesh' z

-- of any place in range, for any limits and strategies
abbrev pub PlacementTold : Type 0
PlacementTold =
    (how : ConvexSplitStrategy) (m : ℕ) (mesh : Mesh) (b : IntRect) (how' : ConvexSplitStrategy) (m' : ℕ) (mesh' : Mesh) (b' : IntRect) (s : List ℕ) (c : List ℤ) →
    first_fault (mesh_kinds mesh) ≡ 0 → first_fault (mesh_kinds mesh') ≡ 0 →
    pairs_fault true (split_operand how m mesh b) (split_operand how' m' mesh' b') (length s) (length c) ≡ 0 →
    (z : Pt) → on_grid z ≡ true →
    PlacedRightly (starts_left (split_operand how m mesh b) (split_operand how' m' mesh' b') s c) (corners_left (split_operand how m mesh b) (split_operand how' m' mesh' b') s c) z mesh mesh'
