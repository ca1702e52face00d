-- The chain from two accepted meshes to the contours of their sum or difference; proved in proofs/.
-- Assumes nothing.
use Rattle.std.specs.Prelude.{◌≡◌, Bool, false, List, [], ℕ, ◌+◌, ◌*◌, ◌<◌, length, get_or, ℤ}
use Rattle.integers.specs.Faults.{first_fault}
use Rattle.plane.specs.Plane.{Pt}
use Rattle.mesh.specs.Mesh.{Mesh, mesh_kinds}
use Rattle.table.specs.declared.IntRect.{IntRect}
use Rattle.pair.specs.Berg.{de_berg}
use Rattle.split.specs.declared.ConvexSplitStrategy.{ConvexSplitStrategy}
use Rattle.split.specs.Splitting.{split_parts}
use Rattle.minkowski.specs.Pairs.{pairs_fault}
use Rattle.minkowski_pairs.specs.Results.{result_contours, EmittedWhole}
use Rattle.split_operand.specs.Operand.{split_operand}

-- K is the exact sum or difference of A and B: all that demand 3 says of it, and a sum is de Berg
-- et al.'s
pub record Exact (reflected : Bool) (A B K : List Pt) : Type 0 where
  pub whole : EmittedWhole reflected A B K
  pub berg : reflected ≡ false → K ≡ de_berg A B

-- every contour that an accepted call leaves for the split parts of two accepted meshes is exact
abbrev pub EveryContourExact : Type 0
EveryContourExact =
    (reflected : Bool) (how : ConvexSplitStrategy) (m : ℕ) (mesh : Mesh) (b : IntRect) (how' : ConvexSplitStrategy) (m' : ℕ) (mesh' : Mesh) (b' : IntRect) (s : List ℕ) (c : List ℤ) →
    first_fault (mesh_kinds mesh) ≡ 0 → first_fault (mesh_kinds mesh') ≡ 0 →
    pairs_fault reflected (split_operand how m mesh b) (split_operand how' m' mesh' b') (length s) (length c) ≡ 0 →
    (i j : ℕ) → i < length (split_parts how m mesh) → j < length (split_parts how' m' mesh') →
    Exact reflected (get_or (split_parts how m mesh) i []) (get_or (split_parts how' m' mesh') j [])
    (get_or (result_contours reflected (split_operand how m mesh b) (split_operand how' m' mesh' b') s c) (i * length (split_parts how' m' mesh') + j) [])
