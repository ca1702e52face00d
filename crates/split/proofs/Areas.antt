-- Splitting keeps doubled areas: of one contour (`split_area`), and so of an accepted mesh, for any
-- limit and split (`split_areas`). Assumes nothing.
use mathlib.Core.Path.{◌≡◌, refl, sym, ◌∙◌, ap}
use mathlib.Core.Bool.{Bool, true, false, cond}
use mathlib.Core.List.{List, [], ◌∷◌, map, flatten}
use Prim.Native.Nat.{ℕ, suc, ◌≤◌, ◌<◌}
use native.Mathlib.Omega.{arith}
use borrow.Author.Tests.{leb-false}
use lib.Dec.{leb}
use lib.ListN.{length}
use lib.IntN.{ℤ, pos, ◌+ℤ◌, +ℤ_idr}
use Rattle.integers.specs.Lists.{sumℤ}
use Rattle.integers.specs.Faults.{first_fault}
use Rattle.integers.proofs.Order.{by_test}
use Rattle.integers.proofs.Sums.{sum_map_flatten}
use Rattle.plane.specs.Plane.{Pt}
use Rattle.plane.specs.Contour.{contour_area}
use Rattle.mesh.specs.Mesh.{Mesh, mesh_kinds, mesh_area}
use Rattle.mesh.proofs.Accepted.{accepted}
use Rattle.convex.specs.Joining.{parts}
use Rattle.convex.proofs.Parts.{parts_area}
use Rattle.split.specs.declared.ConvexSplitStrategy.{ConvexSplitStrategy}
use Rattle.split.specs.declared.ConvexSplitStrategy.TheVariants.{EarClipping, Fan, Centroid}
use Rattle.split.specs.Splitting.{centre_of, centre_serves, centred_parts, centroid_parts, fan_parts, split_by, split_contour, split_parts, raised, SplitKeepsArea}
use Rattle.split.proofs.Chords.{ear_areas, fan_areas}
use Rattle.split.proofs.Radial.{centroid_areas}

by_area : (how : ConvexSplitStrategy) {m : ℕ} (l : List Pt) → 3 ≤ m → 3 ≤ length l → sumℤ (map contour_area (split_by how m l)) ≡ contour_area l
unfolding centred_parts
by_area EarClipping {m} l h k = ear_areas l h k
by_area Fan {m} l h k = fan_areas l h k
by_area Centroid [] h k = absurd (omega arith)
by_area Centroid {m} (c ∷ l) h k =
    by_test (centre_serves (centre_of c (c ∷ l)) (c ∷ l)) (λ e. rw e (centroid_areas (centre_of c (c ∷ l)) c l h)) (λ e. rw e (fan_areas (c ∷ l) h k))

pub split_area : (how : ConvexSplitStrategy) {m : ℕ} (l : List Pt) → 3 ≤ m → sumℤ (map contour_area (split_contour how m l)) ≡ contour_area l
unfolding split_contour
split_area how {m} l h =
    by_test (leb (length l) m) (λ e. rw e (unfold sumℤ in +ℤ_idr (contour_area l)))
    (λ e. let k : m < length l = leb-false (length l) m e in rw e (by_area how l h (omega arith)))

each : (how : ConvexSplitStrategy) {m : ℕ} (ps : List (List Pt)) → 3 ≤ m → sumℤ (map contour_area (flatten (map (split_contour how m) ps))) ≡ sumℤ (map contour_area ps)
each how {m} ps h = sum_map_flatten contour_area (map (split_contour how m) ps) ∙ ap sumℤ (all ps)
  where
    all : (ps : List (List Pt)) → map (λ r. sumℤ (map contour_area r)) (map (split_contour how m) ps) ≡ map contour_area ps
    all [] = refl
    all (p ∷ ps) = λ i. split_area how p h i ∷ all ps i

pub split_areas : SplitKeepsArea
unfolding split_parts
split_areas how m mesh h = each how (parts mesh) (omega arith) ∙ parts_area (accepted mesh h)
