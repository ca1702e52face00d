-- The work buffers of a region read as a zipper (`Holds`), and what the code that works on them
-- asks (`Sound`). Assumes nothing.
use Rattle.std.specs.Prelude.{◌≡◌, Bool, true, false, cond, List, [], ◌∷◌, ◌++◌, map, ℕ, zero, suc, ◌+◌, ◌-◌, ◌≤◌, ◌<◌, length, get_or, take, drop, ℤ}
use Rattle.integers.specs.Faults.{first_fault}
use Rattle.plane.specs.Plane.{Pt}
use Rattle.mesh.specs.Mesh.{Mesh, none, mesh_kinds}
use Rattle.convex.specs.Joining.{is_in}
use Rattle.convex.specs.Zipper.{Slot, Zipper}
use Rattle.points.specs.Points.{corner_of, corner_in, Grid}
use Rattle.convex_ring.specs.declared.Progress.{Progress}

-- ---- corners of two numbers (points/specs/Points.antt), edges of a triangle inside and a
-- neighbour across

abbrev pub inside_at : List (List ℕ) → ℕ → ℕ
inside_at es i = get_or (get_or es i []) 0 0

abbrev pub across_at : List (List ℕ) → ℕ → ℕ
across_at es i = get_or (get_or es i []) 1 0

abbrev pub slot_at : List (List ℤ) → List (List ℕ) → ℕ → Slot
slot_at cs es i = record { corner = corner_in cs i; inside = inside_at es i; across = across_at es i }

-- the first n entries are pending, the last of them on top; those from d on are done
unfoldable pub pending_of : List (List ℤ) → List (List ℕ) → ℕ → List Slot
pending_of cs es zero = []
pending_of cs es (suc n) = slot_at cs es n ∷ pending_of cs es n

abbrev pub done_of : List (List ℤ) → ℕ → List Pt
done_of cs d = map corner_of (drop d cs)

-- ---- flags: which triangles are taken

-- how many are not
unfoldable pub free : List Bool → ℕ
free [] = 0
free (b ∷ l) = cond b 0 1 + free l

pub record Marked (flags : List Bool) (l : List ℕ) : Type 0 where
  pub at : (k : ℕ) → k < length flags → get_or flags k false ≡ is_in k l

-- what reading round the contour asks: n pending, from d on done, at least three in all
pub record Around (cs : List (List ℤ)) (n d : ℕ) : Type 0 where
  pub some : 0 < n
  pub room : n ≤ d
  pub whole : d ≤ length cs
  pub three : 3 + d ≤ n + length cs
  pub grid : Grid cs

-- ---- the buffers, of `size` places each, with their counts are a zipper

pub record Holds (size : ℕ) (cs : List (List ℤ)) (es : List (List ℕ)) (flags : List Bool) (p : Progress) (seen : List ℕ) (z : Zipper) : Type 0 where
  pub pending : z.pending ≡ pending_of cs es p.pending
  pub done : z.done ≡ done_of cs p.done
  pub fresh : z.fresh ≡ true → p.last ≡ p.done
  pub last : z.fresh ≡ false → z.last + p.last ≡ size + 1
  pub taken : Marked flags (seen ++ z.taken)

-- what a region's work asks of the buffers: an accepted mesh and two places more than it has
-- triangles, for a region has at most two corners more than triangles; and every entry on the grid
-- and in the mesh, used or not
pub record RegionBuffers (size : ℕ) (m : Mesh) (cs : List (List ℤ)) (es : List (List ℕ)) (flags : List Bool) : Type 0 where
  pub accepted : first_fault (mesh_kinds m) ≡ 0
  pub enough : length m + 2 ≤ size
  pub corners : length cs ≡ size
  pub edges : length es ≡ size
  pub marks : length flags ≡ length m
  pub grid : Grid cs
  pub across : (i : ℕ) → i < size → 0 < length m → (across_at es i ≡ none → ⊥) → across_at es i < length m

-- and of the counts: each triangle not taken has a place between those pending and those done; the
-- last corner added is done, or will be, right before `last`, and is done where nothing is pending
pub record Sound (size : ℕ) (m : Mesh) (cs : List (List ℤ)) (es : List (List ℕ)) (flags : List Bool) (p : Progress) : Type 0 where
  pub ready : RegionBuffers size m cs es flags
  pub meshed : 0 < length m
  pub room : p.pending + free flags ≤ p.done
  pub whole : p.done ≤ size
  pub three : 3 + p.done ≤ p.pending + size
  pub placed : p.done ≤ p.last
  pub ended : p.last ≤ size
  pub rested : p.pending ≡ 0 → p.done < p.last

-- ---- round the contour

-- the corners after the top one of n pending, round the contour
unfoldable pub around : List (List ℤ) → ℕ → ℕ → List Pt
around cs n d = map corner_of (drop d cs ++ take (n - 1) cs)
