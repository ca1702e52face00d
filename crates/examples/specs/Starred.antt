-- Document 01's examples marked *, each with the definition applied, its input and its answer as
-- the paper has them. Assumes nothing.
use Rattle.std.specs.Prelude.{◌≡◌, true, false, List, [], ◌∷◌, ℕ, pos, negsuc}
use Rattle.integers.specs.Lists.{All}
use Rattle.integers.specs.Faults.{first_fault}
use Rattle.plane.specs.Plane.{Pt}
use Rattle.mesh.specs.Mesh.{Triangle, Mesh, none, mesh_kinds}
use Rattle.convex.specs.Joining.{parts}
use Rattle.split.specs.declared.ConvexSplitStrategy.{ConvexSplitStrategy}
use Rattle.split.specs.declared.ConvexSplitStrategy.TheVariants.{EarClipping, Fan, Centroid}
use Rattle.split.specs.Splitting.{split_parts}
use Rattle.pair.specs.Pair.{pair_contour}

-- ---- what an example says

pub data Example : Type 0 where
  accepted : Mesh → Example
  joined : Mesh → List (List Pt) → Example
  split : Mesh → ℕ → ConvexSplitStrategy → List (List Pt) → Example
  sum : List Pt → List Pt → List Pt → Example
  difference : List Pt → List Pt → List Pt → Example

abbrev pub Holds : Example → Type 0
Holds (accepted m) = first_fault (mesh_kinds m) ≡ 0
Holds (joined m ps) = parts m ≡ ps
Holds (split m limit how ps) = split_parts how limit m ≡ ps
Holds (sum a b c) = pair_contour false a b ≡ c
Holds (difference a b c) = pair_contour true a b ≡ c

-- ---- the paper's figures

abbrev pub p : ℕ → ℕ → Pt
p x y = record { x = pos x; y = pos y }

abbrev pub triangle : Pt → Pt → Pt → ℕ → ℕ → ℕ → Triangle
triangle a b c i j k = record { v0 = a; v1 = b; v2 = c; n0 = i; n1 = j; n2 = k }

-- "Dart: (0,0) (4,0) (0,4) with (4,0) (10,−2) (0,4): neighbours [1, none, none] and [none, 0,
-- none]"
abbrev pub dart : Mesh
dart = triangle (p 0 0) (p 4 0) (p 0 4) 1 none none ∷ triangle (p 4 0) (record { x = pos 10; y = negsuc 1 }) (p 0 4) none 0 none ∷ []

-- "Square: (0,0) (4,0) (4,4), [none, 1, none]; (0,0) (4,4) (0,4), [none, none, 0]"
abbrev pub square : Mesh
square = triangle (p 0 0) (p 4 0) (p 4 4) none 1 none ∷ triangle (p 0 0) (p 4 4) (p 0 4) none none 0 ∷ []

-- "(0,0) (2,0) (0,2) joined over its long edge by (4,0)"
abbrev pub long_edge : Mesh
long_edge = triangle (p 0 0) (p 2 0) (p 0 2) 1 none none ∷ triangle (p 4 0) (p 0 2) (p 2 0) 0 none none ∷ []

-- "That triangle K, (0,0) (2,0) (0,2)"
abbrev pub K : List Pt
K = p 0 0 ∷ p 2 0 ∷ p 0 2 ∷ []

-- ---- the list

unfoldable pub starred : List Example
starred =
    accepted dart
    ∷ joined dart ((p 0 4 ∷ p 0 0 ∷ p 4 0 ∷ []) ∷ (p 0 4 ∷ p 4 0 ∷ record { x = pos 10; y = negsuc 1 } ∷ []) ∷ [])
    ∷ accepted square
    ∷ joined square ((p 0 4 ∷ p 0 0 ∷ p 4 0 ∷ p 4 4 ∷ []) ∷ [])
    ∷ split square 3 EarClipping ((p 0 4 ∷ p 0 0 ∷ p 4 0 ∷ []) ∷ (p 4 0 ∷ p 4 4 ∷ p 0 4 ∷ []) ∷ [])
    ∷ split square 3 Fan ((p 0 4 ∷ p 0 0 ∷ p 4 0 ∷ []) ∷ (p 0 4 ∷ p 4 0 ∷ p 4 4 ∷ []) ∷ [])
    ∷ split square 3 Centroid (
    (p 2 2 ∷ p 0 4 ∷ p 0 0 ∷ []) ∷ (p 2 2 ∷ p 0 0 ∷ p 4 0 ∷ []) ∷ (p 2 2 ∷ p 4 0 ∷ p 4 4 ∷ []) ∷ (p 2 2 ∷ p 4 4 ∷ p 0 4 ∷ []) ∷ []
    )
    ∷ accepted long_edge
    ∷ joined long_edge ((p 4 0 ∷ p 0 2 ∷ p 0 0 ∷ []) ∷ [])
    ∷ sum K K (p 0 0 ∷ p 4 0 ∷ p 0 4 ∷ [])
    ∷ difference K K (
    record { x = pos 0; y = negsuc 1 } ∷ record { x = pos 2; y = negsuc 1 } ∷ p 2 0 ∷ p 0 2 ∷ record { x = negsuc 1; y = pos 2 }
    ∷ record { x = negsuc 1; y = pos 0 } ∷ []
    )
    ∷ sum (p 5 5 ∷ []) K (p 5 5 ∷ p 7 5 ∷ p 5 7 ∷ [])
    ∷ sum (p 5 5 ∷ []) (p 1 1 ∷ []) []
    ∷ []

-- the joint statement, shown in proofs/Shown.antt
abbrev pub StarredHold : Type 0
StarredHold = All Holds starred
