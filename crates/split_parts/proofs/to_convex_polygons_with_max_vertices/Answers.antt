-- `split_parts::to_convex_polygons_with_max_vertices` meets its contract: a refusal by
-- convex_gather's `mesh_refused`, an answer by joining where no part of a tiny mesh can be past the
-- limit (`left_whole`), by `split_tiny`, or by `split_more` with the limit raised (`same_limit`).
-- Assumes nothing.
use mathlib.Core.Path.{sym, ◌∙◌, ap}
use native.Mathlib.Omega.{arith}
use Rattle.mesh.specs.Rows.{rows_mesh}
use Rattle.mesh.proofs.Rows.{length_rows}
use Rattle.split.specs.Splitting.{split_parts, split_fault}
use Rattle.convex_gather.proofs.Answer.{mesh_refused}
use Rattle.split_parts.proofs.Alike.{left_whole, same_limit}
use Rattle.faults.specs.Told.{told}
use Rattle.faults.proofs.Numbers.{not_0}
use Rattle.split_parts.proofs.to_convex_polygons_with_max_vertices.Goals as goal

pub returns-in-Err : goal.returns-in-Err
unfolding split_fault
returns-in-Err c = let g = c.args in
    let m = rows_mesh g.mesh.now in
    mesh_refused m (split_parts g.strategy g.limit m) g.starts.now g.corners.now (c.number.ensures ∙ ap told (sym c.in-Err.is) ∙ c.mesh_fault.ensures) (not_0 c.in-Err.fault c.number.ensures) c.refusal.ensures

pub returns-then-n-raised : goal.returns-then-n-raised
returns-then-n-raised c = let g = c.args in
    let a = sym c.mesh_fault.ensures ∙ (ap told c.in_default.is) in
    let m = rows_mesh g.mesh.now in
    left_whole g.strategy g.limit m a (omega (arith, length_rows g.mesh.now, c.if-n-raised.true, c.raised.ensures)) c.join_tiny.ensures

pub returns-then-limit-lt-MIN_LIMIT : goal.returns-then-limit-lt-MIN_LIMIT
returns-then-limit-lt-MIN_LIMIT c = let g = c.args in
    let m = rows_mesh g.mesh.now in
    same_limit g.strategy g.limit m 3 (omega (arith, c.if-limit-lt-MIN_LIMIT.true)) c.split_more.ensures
