-- What all pairs take and tell at the boundary: bounds and counts, laid out for C. Assumes nothing.
use Rattle.std.specs.Prelude.{List, ℕ, ℤ}
use Rattle.table.specs.declared.IntRect.{IntRect}
use Rattle.minkowski.specs.declared.PairCounts.{PairCounts}
use Rattle.minkowski.specs.Pairs.{Operand}
use Rattle.boundary_pairs.specs.declared.Bounds.{Bounds}
use Rattle.boundary_pairs.specs.declared.ToldPairs.{ToldPairs}

abbrev pub rect_of : Bounds → IntRect
rect_of b = record { min_x = b.min_x; max_x = b.max_x; min_y = b.min_y; max_y = b.max_y }

-- an operand as it is lent
abbrev pub lent : List ℕ → List ℤ → Bounds → Operand
lent starts corners bounds = record { starts = starts; corners = corners; bounds = rect_of bounds }

abbrev pub told_bounds : IntRect → Bounds
told_bounds b = record { min_x = b.min_x; max_x = b.max_x; min_y = b.min_y; max_y = b.max_y }

abbrev pub told_counts : PairCounts → ToldPairs
told_counts a = record { fault = a.fault; contours = a.contours; corners = a.corners; bounds = told_bounds a.bounds }
