-- A point as one number. Assumes nothing.
use Rattle.std.specs.Prelude.{◌≡◌, ℕ, ◌+◌, ◌*◌}
use Rattle.std.specs.Int.{w32}
use Rattle.std.proofs.Common.{SFits}
use Rattle.integers.specs.Word.{unsigned}
use Rattle.plane.specs.Plane.{Pt}

-- 2^32, what one of the upper half counts
abbrev pub upper : ℕ
upper = 4294967296

-- its coordinates' 32 bits side by side, y's above x's
abbrev pub packed : Pt → ℕ
packed p = unsigned p.x + unsigned p.y * upper

-- the number a is the point p, whose coordinates have 32 bits
pub record Packs (p : Pt) (a : ℕ) : Type 0 where
  pub x_fits : SFits w32 p.x
  pub y_fits : SFits w32 p.y
  pub is : a ≡ packed p
