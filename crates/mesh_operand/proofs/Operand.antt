-- An accepted file's bounds hold its split parts' corners and are in range, so it is an operand
-- without faults of its own (`file_is_operand`). Assumes nothing.
use mathlib.Core.Path.{◌≡◌, refl, sym, ◌∙◌, ap, subst}
use mathlib.Core.Bool.{true, false}
use mathlib.Core.List.{List, [], ◌∷◌, flatten}
use mathlib.Core.Logic.{inl, inr, ⊎_elim}
use Prim.Native.Nat.{ℕ, zero, suc, ◌<◌}
use native.Mathlib.Omega.{arith}
use lib.ListN.{length}
use lib.IntN.{ℤ, pos}
use lib.Signed.{◌≤ℤ◌, le_z}
use Rattle.integers.specs.Lists.{All, Any}
use Rattle.integers.specs.Faults.{first_fault}
use Rattle.integers.proofs.Order.{zarith, ≤_trans}
use Rattle.integers.proofs.Faults.{append_first}
use Rattle.integers.proofs.Tests.{le_z-≤, ≤-lt_z, both_true}
use Rattle.integers.proofs.Elements.{all_map, all_flatten}
use Rattle.plane.specs.Plane.{Pt, in_range, on_grid}
use Rattle.mesh.specs.Mesh.{Mesh, Triangle, mesh_kinds, triangle_at, vertex}
use Rattle.mesh.proofs.Accepted.{accepted}
use Rattle.table.specs.declared.IntRect.{IntRect}
use Rattle.corners.specs.Corners.{off_range}
use Rattle.table.specs.Table.{bounds_list, bounds_broken, some_outside, within_bounds}
use Rattle.listing.specs.File.{header_kinds, mesh_of, corner_limit, split_number, strategy_of, file_fault}
use Rattle.listing.proofs.File.{accepted_mesh}
use Rattle.split.specs.declared.ConvexSplitStrategy.{ConvexSplitStrategy}
use Rattle.split.specs.Splitting.{split_parts}
use Rattle.split_operand.proofs.Operand.{split_is_operand}
use Rattle.mesh_bounds.specs.Bounds.{vertices_of, bounds_of, mesh_bounds, Bounding}
use Rattle.mesh_bounds.proofs.Bounded.{mesh_bounded, within_all}
use Rattle.mesh_operand.specs.Operand.{FileIsOperand}
use Rattle.mesh_operand.proofs.Within.{In, split_within}

pub accepted_header : (bytes : List ℕ) → file_fault bytes ≡ 0 → first_fault (header_kinds bytes) ≡ 0
unfolding file_fault
accepted_header bytes e = append_first (header_kinds bytes) (mesh_kinds (mesh_of bytes)) e

-- ---- within bounds

in_bounds : {b : IntRect} {p : Pt} → within_bounds b p ≡ true → In b p
unfolding within_bounds
in_bounds {b} {p} h =
    let a = both_true (le_z b.min_x p.x) _ h in
    let c = both_true (le_z p.x b.max_x) _ a.1 in
    let d = both_true (le_z b.min_y p.y) _ c.1 in
    ((le_z-≤ _ _ a.0, le_z-≤ _ _ c.0), (le_z-≤ _ _ d.0, le_z-≤ _ _ d.1))

none_outside : (b : IntRect) (l : List Pt) → All (In b) l → some_outside b l ≡ false
unfolding some_outside
none_outside b [] h = refl
none_outside b (p ∷ l) h = rw (within_all {b = b} {p = p} h.0.0.0 h.0.0.1 h.0.1.0 h.0.1.1) (none_outside b l h.1)

not_broken : {b : IntRect} (l : List Pt) → b.min_x ≤ℤ b.max_x → b.min_y ≤ℤ b.max_y → All (In b) l → bounds_broken b l ≡ false
unfolding bounds_broken
not_broken {b} l h k a = rw (≤-lt_z h, ≤-lt_z k) (none_outside b l a)

-- ---- the bounds of a mesh

all_within : (m : Mesh) → All (In (mesh_bounds m)) (vertices_of m)
unfolding vertices_of
all_within [] = tt
all_within (t ∷ m) = all_map (vertices_of (t ∷ m)) (λ p h. in_bounds h) (mesh_bounded t m).within

least_first : (m : Mesh) → ((mesh_bounds m).min_x ≤ℤ (mesh_bounds m).max_x) × ((mesh_bounds m).min_y ≤ℤ (mesh_bounds m).max_y)
unfolding vertices_of bounds_of
least_first [] = (omega zarith, omega zarith)
least_first (t ∷ m) = let a = (all_within (t ∷ m)).0 in (≤_trans a.0.0 a.0.1, ≤_trans a.1.0 a.1.1)

-- all vertices, from each
vertices_have : (P : Pt → Type 0) (m : Mesh) → ((k i : ℕ) → k < length m → P (vertex (triangle_at m k) i)) → All P (vertices_of m)
unfolding vertices_of vertex
vertices_have P [] f = tt
vertices_have P (t ∷ m) f = (f 0 0 (omega arith), (f 0 1 (omega arith), (f 0 2 (omega arith), vertices_have P m (λ k i l. f (suc k) i (omega (arith, l))))))

-- a bound that is a vertex's is in range
from_some : (f : Pt → ℤ) (z : ℤ) → ((p : Pt) → on_grid p ≡ true → in_range (f p) ≡ true) → (l : List Pt) → All (λ p. on_grid p ≡ true) l → Any (λ p. f p ≡ z) l → in_range z ≡ true
from_some f z g [] h a = absurd a
from_some f z g (p ∷ l) h a = ⊎_elim (λ e. ap in_range (sym e) ∙ g p h.0) (λ r. from_some f z g l h.1 r) a

grid_x : (p : Pt) → on_grid p ≡ true → in_range p.x ≡ true
unfolding on_grid
grid_x p h = (both_true (in_range p.x) _ h).0

grid_y : (p : Pt) → on_grid p ≡ true → in_range p.y ≡ true
unfolding on_grid
grid_y p h = (both_true (in_range p.x) _ h).1

bounds_range : (m : Mesh) → All (λ p. on_grid p ≡ true) (vertices_of m) → off_range (bounds_list (mesh_bounds m)) ≡ false
unfolding off_range
bounds_range [] h = unfold vertices_of bounds_of in_range in refl
bounds_range (t ∷ m) h =
    let b = mesh_bounded t m in
    let l = vertices_of (t ∷ m) in
    rw (from_some (λ p. p.x) _ grid_x l h b.least_x, from_some (λ p. p.x) _ grid_x l h b.greatest_x, from_some (λ p. p.y) _ grid_y l h b.least_y, from_some (λ p. p.y) _ grid_y l h b.greatest_y)

pub file_is_operand : FileIsOperand
file_is_operand file e =
    let mesh = mesh_of file in
    let how = strategy_of (split_number file) in
    let m = corner_limit file in
    let h = accepted_mesh file e in
    let w = all_within mesh in
    let c : All (In (mesh_bounds mesh)) (flatten (split_parts how m mesh)) = (all_flatten (In (mesh_bounds mesh)) (split_parts how m mesh)).1 (split_within how m mesh (mesh_bounds mesh) h w) in
    split_is_operand how m mesh (mesh_bounds mesh) h (bounds_range mesh (vertices_have (λ p. on_grid p ≡ true) mesh (accepted mesh h).on_grid_lem))
    (not_broken (flatten (split_parts how m mesh)) (least_first mesh).0 (least_first mesh).1 c)
