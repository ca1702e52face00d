-- Pieces of many contours: what a list covers, the inner points of that, and where two such pieces
-- overlap as wholes (`WholesOverlap`). Assumes nothing.
use Rattle.std.specs.Prelude.{List, ◌↔◌, ℤ, pos, neg_ℤ, ◌-ℤ◌, ◌*ℤ◌, ◌≤ℤ◌, ◌<ℤ◌}
use Rattle.integers.specs.Lists.{Any}
use Rattle.plane.specs.Plane.{Pt, ◌-ᵖ◌}
use Rattle.cover.specs.Inside.{◌·ᵖ◌, Inside}
use Rattle.cover.specs.Overlap.{Overlap}

-- z/q is inside one of the contours
abbrev pub Covered : List (List Pt) → ℤ → Pt → Type 0
Covered L q z = Any (λ l. Inside l q z) L

-- two lists of contours cover the same points
abbrev pub SameCover : List (List Pt) → List (List Pt) → Type 0
SameCover K L = (q : ℤ) (z : Pt) → pos 0 <ℤ q → Covered K q z ↔ Covered L q z

-- of all pairs of an element of X and one of Y, R holds of one
abbrev pub SomePair : {A B : Type 0} → (A → B → Type 0) → List A → List B → Type 0
SomePair R X Y = Any (λ a. Any (λ b. R a b) Y) X

-- ---- inner points

-- |a| ≤ b
abbrev pub AtMost : ℤ → ℤ → Type 0
AtMost b a = (neg_ℤ b ≤ℤ a) × (a ≤ℤ b)

-- w/p lies within 1/n of z/q in both coordinates: n |w/p - z/q| ≤ 1, times p q
pub record Near (n q : ℤ) (z : Pt) (p : ℤ) (w : Pt) : Type 0 where
  pub across : AtMost (p *ℤ q) (n *ℤ (q *ℤ w.x -ℤ p *ℤ z.x))
  pub upward : AtMost (p *ℤ q) (n *ℤ (q *ℤ w.y -ℤ p *ℤ z.y))

-- z/q is an inner point of what L covers: for some n every rational point within 1/n of it is
-- covered, by whichever contours
pub record Inner (L : List (List Pt)) (q : ℤ) (z : Pt) : Type 0 where
  pub n : ℤ
  pub above : pos 0 <ℤ n
  pub near : (p : ℤ) (w : Pt) → pos 0 <ℤ p → Near n q z p w → Covered L p w

-- ---- two pieces

-- u/(kq) is an inner point of X, and of Y moved by z/q
pub record Overlapping (X Y : List (List Pt)) (q : ℤ) (z : Pt) : Type 0 where
  pub k : ℤ
  pub u : Pt
  pub above : pos 0 <ℤ k
  pub first : Inner X (k *ℤ q) u
  pub second : Inner Y (k *ℤ q) (u -ᵖ k ·ᵖ z)

-- two pieces overlap as wholes exactly where some contour of one overlaps some contour of the
-- other, so how a piece is cut into contours does not matter
abbrev pub WholesOverlap : Type 0
WholesOverlap = (X Y : List (List Pt)) (q : ℤ) (z : Pt) → pos 0 <ℤ q → Overlapping X Y q z ↔ SomePair (λ A B. Overlap A B q z) X Y
