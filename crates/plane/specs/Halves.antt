-- The upper half of the plane (`Up`), which comes first among directions, and the vectors that have
-- a direction (`Nz`). Assumes nothing.
use Rattle.std.specs.Prelude.{◌≡◌, Bool, true, false, pos, ◌<ℤ◌}
use Rattle.plane.specs.Plane.{Pt, negᵖ, lower}

-- y above 0, or y = 0 with x above 0
pub data Up (v : Pt) : Type 0 where
  above : pos 0 <ℤ v.y → Up v
  level : v.y ≡ pos 0 → pos 0 <ℤ v.x → Up v

-- v, or v negated
abbrev pub sgn : Bool → Pt → Pt
sgn true v = negᵖ v
sgn false v = v

-- v is nonzero: up, or up when negated
pub record Nz (v : Pt) : Type 0 where
  pub nz : Up (sgn (lower v) v)
