-- A ring of next corners: entry i is the corner after corner i, of those not yet clipped
-- (advanced/convex.rs, "Bypass clipped vertices in a ring"). Assumes nothing.
use Rattle.std.specs.Prelude.{◌≡◌, List, map, ℕ, zero, suc, ◌+◌, ◌-◌, ◌≤◌, ◌<◌, length, get_or, ℤ}
use Rattle.integers.specs.Lists.{up_to}
use Rattle.plane.specs.Plane.{Pt}
use Rattle.points.specs.Points.{corner_in}

-- where k steps from i lead
unfoldable pub stepped : List ℕ → ℕ → ℕ → ℕ
stepped ring i zero = i
stepped ring i (suc k) = get_or ring (stepped ring i k) 0

-- the n corners of the contour after corner i, round the ring
abbrev pub corners_after : List (List ℤ) → List ℕ → ℕ → ℕ → List Pt
corners_after contour ring i n = map (λ k. corner_in contour (stepped ring i (suc k))) (up_to n)

-- no step leaves the n corners
pub record Ring (ring : List ℕ) (n : ℕ) : Type 0 where
  pub room : n ≤ length ring
  pub below : (i : ℕ) → i < n → get_or ring i 0 < n

-- none of the n corners is clipped: after each comes the next, after the last the first
pub record Fresh (ring : List ℕ) (n : ℕ) : Type 0 where
  pub room : n ≤ length ring
  pub next : (i : ℕ) → i < n - 1 → get_or ring i 0 ≡ i + 1
  pub last : get_or ring (n - 1) 0 ≡ 0
