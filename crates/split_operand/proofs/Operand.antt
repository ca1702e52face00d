-- The split parts of an accepted mesh are an operand without faults of its own
-- (`split_is_operand`), and two such operands are refused for their result's bounds or for want of
-- parts alone (`split_pairs`). Assumes nothing.
use mathlib.Core.Path.{◌≡◌, refl, sym, ◌∙◌, ap, subst}
use mathlib.Core.Bool.{Bool, true, false}
use mathlib.Core.List.{List, [], ◌∷◌, ◌++◌, flatten}
use Prim.Native.Nat.{ℕ}
use lib.IntN.{ℤ, pos}
use lib.Signed.{◌≤ℤ◌}
use Rattle.integers.specs.Lists.{All}
use Rattle.integers.specs.Faults.{first_fault}
use Rattle.integers.proofs.Faults.{first_next}
use Rattle.integers.proofs.Elements.{all_map2, all_flatten}
use Rattle.plane.specs.Plane.{Pt, on_grid}
use Rattle.plane.specs.Contour.{contour_area}
use Rattle.mesh.specs.Mesh.{Mesh, mesh_kinds}
use Rattle.mesh.proofs.Accepted.{accepted}
use Rattle.table.specs.Table.{corners_of, bounds_list, bounds_broken}
use Rattle.corners.proofs.Corners.{points_numbers}
use Rattle.corners.proofs.Range.{numbers_range}
use Rattle.table.proofs.Rules.{parts_table}
use Rattle.pair.specs.Walk.{winding_leaves}
use Rattle.split.specs.declared.ConvexSplitStrategy.{ConvexSplitStrategy}
use Rattle.split.specs.Splitting.{split_parts}
use Rattle.split.proofs.Areas.{split_areas}
use Rattle.split.proofs.Sizes.{split_table}
use Rattle.minkowski.specs.Pairs.{some_winding_leaves}
use Rattle.split_pairs.proofs.Joined.{areas_fit}
use Rattle.split_pairs.proofs.Theorem.{split_polygons, split_on_grid}
use Rattle.split_operand.specs.Operand.{SplitIsOperand, SplitPairs}
use Rattle.split_operand.proofs.Running.{winding_stays}

-- ---- windings

-- each part's area fits, for all together have the mesh's
pub split_fits : (how : ConvexSplitStrategy) (m : ℕ) (mesh : Mesh) → first_fault (mesh_kinds mesh) ≡ 0 → All (λ l. contour_area l ≤ℤ pos 9223372036854775807) (split_parts how m mesh)
split_fits how m mesh h =
    areas_fit (split_parts how m mesh) (split_polygons how m mesh h) (subst (λ z. z ≤ℤ pos 9223372036854775807) (sym (split_areas how m mesh h)) (accepted mesh h).fits)

none_leaves : (reflected : Bool) (ps : List (List Pt)) → All (λ l. winding_leaves reflected l ≡ false) ps → some_winding_leaves reflected ps ≡ false
unfolding some_winding_leaves
none_leaves reflected [] h = refl
none_leaves reflected (p ∷ ps) h = rw h.0 (none_leaves reflected ps h.1)

-- ---- the operand

pub split_is_operand : SplitIsOperand
unfolding corners_of
split_is_operand how m mesh b h range around =
    let ps : List (List Pt) = split_parts how m mesh in
    record {
      table = (split_table how m mesh h).table;
      range = numbers_range (flatten ps) (bounds_list b) ((all_flatten (λ p. on_grid p ≡ true) ps).1 (split_on_grid how m mesh h)) range;
      bounds = ap (bounds_broken b) (points_numbers (flatten ps)) ∙ around;
      windings = λ reflected. ap (some_winding_leaves reflected) (parts_table ps)
          ∙ none_leaves reflected ps (all_map2 ps (λ l p f. winding_stays reflected p f) (split_polygons how m mesh h) (split_fits how m mesh h));
    }

pub split_pairs : SplitPairs
split_pairs reflected l r a b =
    first_next 7 _ a.table ∙ first_next 7 _ b.table ∙ first_next 2 _ a.range ∙ first_next 2 _ b.range
    ∙ first_next 9 _ a.bounds ∙ first_next 9 _ b.bounds ∙ first_next 8 _ (a.windings false) ∙ first_next 8 _ (b.windings reflected)
