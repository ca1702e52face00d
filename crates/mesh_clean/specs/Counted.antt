-- What the second pass has seen after a side (`Counted`) and after a row (`RowCounted`). Assumes
-- nothing.
use Rattle.std.specs.Prelude.{◌≡◌, true, cond, ℕ, ◌+◌}
use Rattle.plane.specs.Plane.{Pt}
use Rattle.mesh.specs.Mesh.{Mesh, Triangle}
use Rattle.mesh_clean.specs.declared.Seen.{Seen}
use Rattle.mesh_clean.specs.Packed.{Packs}
use Rattle.mesh_clean.specs.Clean.{names_before, names_after, shares_edge, shares_all, sides_with}

-- triangle k names n over the edge between the points that a and b are
pub record Counted (m : Mesh) (k n a b : ℕ) (s r : Seen) : Type 0 where
  pub shared : (p q : Pt) → Packs p a → Packs q b → r.shared ≡ shares_edge m k n p q
  pub before : r.before ≡ s.before + cond (names_before k n) 1 0
  pub after : r.after ≡ s.after + cond (names_after k n) 1 0

-- triangle k is t; the counts are told where each edge is shared
pub record RowCounted (m : Mesh) (k : ℕ) (t : Triangle) (s r : Seen) : Type 0 where
  pub shared : r.shared ≡ shares_all m k t
  pub before : r.shared ≡ true → r.before ≡ s.before + sides_with names_before k t
  pub after : r.shared ≡ true → r.after ≡ s.after + sides_with names_after k t
