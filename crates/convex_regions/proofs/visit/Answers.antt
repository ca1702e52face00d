-- `convex_regions::visit` meets its contract: `visited_skip` and `visited_join` of Regions. Assumes
-- nothing.
use mathlib.Core.List.{List}
use mathlib.Core.Bool.{Bool}
use mathlib.Core.Path.{◌≡◌}
use Prim.Native.Nat.{ℕ, ◌<◌}
use native.Mathlib.Omega.{arith}
use lib.ListN.{length}
use lib.IntN.{ℤ}
use Rattle.mesh.specs.Rows.{rows_mesh}
use Rattle.mesh.proofs.Rows.{length_rows}
use Rattle.convex_regions.proofs.Regions.{visited_join}
use Rattle.convex_regions.proofs.visit.Goals as goal

in_flags : (rows : List (List ℤ)) (flags : List Bool) {k : ℕ} → length flags ≡ length (rows_mesh rows) → k < length rows → k < length flags
in_flags rows flags e h = omega (arith, length_rows rows)

pub bounds-taken-k : goal.bounds-taken-k
bounds-taken-k c = let g = c.args in
    in_flags g.mesh.now g.taken.now c.requires.0.marks c.requires.1

pub returns-else-taken-k : goal.returns-else-taken-k
returns-else-taken-k c = let g = c.args in
    visited_join (in_flags g.mesh.now g.taken.now c.requires.0.marks c.requires.1) c.if-taken-k.false c.append_region.ensures
