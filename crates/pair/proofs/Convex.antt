-- What demand 3's proof speaks of: lists of edges, with no walks in them. In order: members (`In`),
-- pairwise order (`Sorted`); `Convex`, the edges of a convex contour from its least corner;
-- `Outline`, that a first point and a list of edges stand for a contour. Assumes nothing.
use mathlib.Core.Path.{◌≡◌, refl}
use mathlib.Core.List.{List, [], ◌∷◌}
use mathlib.Core.Logic.{inl, inr}
use Rattle.integers.specs.Lists.{All, Any}
use Rattle.integers.proofs.Elements.{all_map}
use Rattle.plane.specs.Plane.{Pt, O}
use Rattle.plane.specs.Halves.{Nz}
use Rattle.plane.proofs.Directions.{Le}
use Rattle.pair.specs.Premise.{reach}
use Rattle.pair.specs.Berg.{corners_from}
use Rattle.pair.specs.Demand.{sumᵖ}
use Rattle.plane.proofs.Sides.{Line}

-- c is one of l
abbrev pub In : List Pt → Pt → Type 0
In l c = Any (λ q. q ≡ c) l

-- each of l is one of l
pub in_self : (l : List Pt) → All (In l) l
in_self [] = tt
in_self (e ∷ l) = (inl refl, all_map l (λ c h. inr h) (in_self l))

-- each stands in R to all later ones: `Sorted Le` is weakly ascending in direction, `Sorted Lt`
-- strictly
abbrev pub Sorted : (Pt → Pt → Type 0) → List Pt → Type 0
Sorted R [] = Unit {0}
Sorted R (e ∷ l) = All (R e) l × Sorted R l

-- the nonzero edges of a closed contour, ascending in direction, not all on one line
pub record Convex (E : List Pt) : Type 0 where
  pub nonzero : All Nz E
  pub ascends : Sorted Le E
  pub closed : sumᵖ E ≡ O
  pub wide : (v : Pt) → Nz v → All (Line v) E → ⊥

-- the contour with first corner P and edges E has corners of l alone, and l's reaches
pub record Outline (P : Pt) (l E : List Pt) : Type 0 where
  pub convex : Convex E
  pub reaches : (d : Pt) → reach d l ≡ reach d (corners_from P E)
  pub corners : All (In l) (corners_from P E)
