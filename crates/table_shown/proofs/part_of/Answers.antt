-- `table_shown::part_of` meets its contract: part k of a table that is not broken lies within its
-- corners. Assumes nothing.
use mathlib.Core.Path.{◌≡◌, refl, ◌∙◌}
use mathlib.Core.List.{List}
use Prim.Native.Nat.{ℕ}
use lib.ListN.{get_or}
use native.Mathlib.Omega.{arith}
use Rattle.corners.specs.Corners.{corner_place}
use Rattle.corners.proofs.Corners.{length_points}
use Rattle.table.proofs.Shown.{placed, numbers_between}
use Rattle.table_shown.specs.Place.{part_place}
use Rattle.table_shown.proofs.part_of.Goals as goal

module _ (starts : List ℕ) (k : ℕ) where
  placed_at : (place : ℕ × ℕ) → corner_place place (get_or starts k 0) ≡ part_place starts place k
  unfolding part_place
  placed_at place = refl

pub part-requires : goal.part-requires
part-requires c = let p = placed _ _ c.requires.0 c.requires.1 in
    (p.rises, omega (arith, p.within, length_points c.args.corners.now))

pub returns-clause-numbers : goal.returns-clause-numbers
returns-clause-numbers c = let p = c.part.ensures in
    p.numbers ∙ numbers_between _ _ _

pub returns-clause-placed : goal.returns-clause-placed
returns-clause-placed c = let p = c.part.ensures in
    p.placed ∙ placed_at _ _ _
