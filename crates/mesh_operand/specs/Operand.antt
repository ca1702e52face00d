-- A mesh file as an operand of pairs: "An operand is a part table with bounds: least and greatest x
-- and y of the original source". Assumes nothing.
use Rattle.std.specs.Prelude.{◌≡◌, List, ℕ, ◌+◌, ◌*◌, ◌≤◌, length, take, ℤ}
use Rattle.minkowski.specs.Pairs.{Operand}
use Rattle.listing.specs.File.{triangle_count, corner_limit, split_number, strategy_of, mesh_of, file_fault}
use Rattle.split_operand.specs.Operand.{split_operand, Unfaulted}
use Rattle.mesh_bounds.specs.Bounds.{mesh_bounds}
use Rattle.mesh_operand.specs.declared.Taken.{Taken}

-- the split parts of the file's mesh, by the file's limit and split, with the mesh's bounds
abbrev pub mesh_operand : List ℕ → Operand
mesh_operand file = split_operand (strategy_of (split_number file)) (corner_limit file) (mesh_of file) (mesh_bounds (mesh_of file))

-- of an accepted file it is refused neither for its table (7), nor for a number (2), its bounds (9)
-- or a winding (8), on either side, in a sum or a difference
abbrev pub FileIsOperand : Type 0
FileIsOperand = (file : List ℕ) → file_fault file ≡ 0 → Unfaulted (mesh_operand file)

-- an accepted file, and as many rows as it has triangles
pub record RowsFor (bytes : List ℕ) (rows : List (List ℤ)) : Type 0 where
  pub accepted : file_fault bytes ≡ 0
  pub for_rows : length rows ≡ triangle_count bytes

-- an accepted file's operand, as what is told of it stands on the front of s and c
pub record Held (file : List ℕ) (t : Taken) (s : List ℕ) (c : List ℤ) : Type 0 where
  pub accepted : file_fault file ≡ 0
  pub starts_in : t.parts + 1 ≤ length s
  pub corners_in : 2 * t.corners ≤ length c
  pub starts : take (t.parts + 1) s ≡ (mesh_operand file).starts
  pub corners : take (2 * t.corners) c ≡ (mesh_operand file).corners
  pub bounds : t.bounds ≡ (mesh_operand file).bounds

-- what is told of any file: its fault, or what stands there
pub record TakenFrom (file : List ℕ) (t : Taken) (s : List ℕ) (c : List ℤ) : Type 0 where
  pub fault : t.fault ≡ file_fault file
  pub held : t.fault ≡ 0 → Held file t s c
