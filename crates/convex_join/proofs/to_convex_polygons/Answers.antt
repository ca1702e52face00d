-- `convex_join::to_convex_polygons` meets its contract: a refusal by convex_gather's
-- `mesh_refused`, an answer by the four sizes. Assumes nothing.
use borrow.Author.Rules.{rules}
use mathlib.Core.Path.{sym, ◌∙◌, ap}
use native.Mathlib.Omega.{arith}
use Rattle.faults.specs.Told.{told}
use Rattle.faults.proofs.Numbers.{number_above}
use Rattle.mesh.specs.Rows.{rows_mesh}
use Rattle.convex.specs.Joining.{parts, parts_fault}
use Rattle.convex_gather.proofs.Answer.{mesh_refused}
use Rattle.convex_regions.proofs.Regions.{few_rows}
use Rattle.convex_join.proofs.to_convex_polygons.Goals as goal

pub returns-in-Err : goal.returns-in-Err
unfolding parts_fault
returns-in-Err c = let m = rows_mesh c.args.mesh.now in
    let e = c.number.ensures ∙ ap told (sym c.in-Err.is) ∙ c.mesh_fault.ensures in
    mesh_refused m (parts m) c.args.starts.now c.args.corners.now e (λ z. absurd (omega (arith, z, c.number.ensures, number_above c.in-Err.fault))) c.refusal.ensures

pub join_in-requires-else-n-le-MEDIUM : goal.join_in-requires-else-n-le-MEDIUM
join_in-requires-else-n-le-MEDIUM c = let e = sym c.mesh_fault.ensures ∙ ap told c.in_default.is in
    let few = few_rows c.args.mesh.now e in
    search rules
