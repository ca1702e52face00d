-- The chain from two accepted mesh files to the contours that are printed of them; proved in
-- proofs/. Assumes nothing.
use Rattle.std.specs.Prelude.{◌≡◌, ℕ, ◌<◌, ◌≤◌, length, get_or, drop, ℤ}
use mathlib.Core.List.{List, [], ◌++◌, map, flatten}
use Rattle.integers.specs.Lists.{up_to}
use Rattle.plane.specs.Plane.{Pt}
use Rattle.minkowski.specs.Pairs.{pair_contours, result_bounds}
use Rattle.listing.specs.File.{mesh_of, file_parts}
use Rattle.pair_lines.specs.Lines.{pairs_head, pair_line}
use Rattle.pairs_job.specs.Job.{reflected_of}
use Rattle.mesh_pair.specs.Files.{left_file, right_file, left_operand, right_operand}
use Rattle.meshes_job.specs.Job.{meshes_fault, contours_text}
use Rattle.meshes_job.specs.Printed.{contours_fault}
use Rattle.split_results.specs.Chain.{Exact}
use Rattle.cover_parts.specs.Taken.{TakenWhole}

-- the split parts of either file's mesh, by its own limit and split
abbrev pub left_parts : List ℕ → List (List Pt)
left_parts bytes = file_parts (left_file (drop 4 bytes))

abbrev pub right_parts : List ℕ → List (List Pt)
right_parts bytes = file_parts (right_file (drop 4 bytes))

-- the head line
abbrev pub head_of : List ℕ → List ℕ
head_of bytes =
    let l = left_operand (drop 4 bytes) in
    let r = right_operand (drop 4 bytes) in
    let K = pair_contours (reflected_of bytes) l r in
    pairs_head (length K) (length (flatten K)) (result_bounds (reflected_of bytes) l.bounds r.bounds)

-- after the head line, one line a pair of parts, left part 0 with each right part, then left part 1
-- ..: K i j is the contour on the line of left part i and right part j
abbrev pub lines_with : (ℕ → ℕ → List Pt) → ℕ → ℕ → List ℕ
lines_with K m n = flatten (map (λ i. flatten (map (λ j. pair_line i j (K i j)) (up_to n))) (up_to m))

pub record PrintedExact (bytes : List ℕ) : Type 0 where
  pub contour : ℕ → ℕ → List Pt
  pub text : contours_text bytes ≡ head_of bytes ++ lines_with contour (length (left_parts bytes)) (length (right_parts bytes))
  pub exact : (i j : ℕ) → i < length (left_parts bytes) → j < length (right_parts bytes) → Exact (reflected_of bytes) (get_or (left_parts bytes) i []) (get_or (right_parts bytes) j []) (contour i j)

-- every contour that is printed of two files that are not refused is the exact sum or difference of
-- its two parts
abbrev pub EveryPrintedExact : Type 0
EveryPrintedExact = (bytes : List ℕ) → contours_fault bytes ≡ 0 → PrintedExact bytes

-- "before any split each triangle is taken into exactly one part": of either mesh, in any lent
-- starts and corners with room for the parts of a mesh of 1,024 triangles
pub record BothTaken (bytes : List ℕ) (s : List ℕ) (c : List ℤ) : Type 0 where
  pub left : TakenWhole (mesh_of (left_file (drop 4 bytes))) s c
  pub right : TakenWhole (mesh_of (right_file (drop 4 bytes))) s c

abbrev pub EitherTakenWhole : Type 0
EitherTakenWhole = (bytes : List ℕ) (s : List ℕ) (c : List ℤ) → meshes_fault bytes ≡ 0 → 1025 ≤ length s → 6144 ≤ length c → BothTaken bytes s c
