-- `split_sizes::split_within` meets its contract: the joined parts are those of the mesh, what they
-- split into has room, and is answered by convex_gather's `mesh_answered`. Assumes nothing.
use native.Mathlib.Omega.{arith}
use Rattle.mesh.specs.Rows.{rows_mesh}
use Rattle.split.specs.Splitting.{split_parts, split_fault}
use Rattle.convex_gather.proofs.Answer.{mesh_answered}
use Rattle.convex_regions.proofs.Regions.{few_rows}
use Rattle.split_sizes.proofs.Each.{splittable, room_all, holds_all, gathered_in}
use borrow.Author.Rules.{rules}
use Rattle.split_sizes.proofs.split_within.Goals as goal

pub gather-u-requires : goal.gather-u-requires
gather-u-requires c = let few = few_rows c.args.mesh.now c.requires.0 in
    search rules

pub split_all-t-requires : goal.split_all-t-requires
split_all-t-requires c = let g = c.args in
    let w = c.requires.1 in
    let m = g.mesh.now in
    (splittable _ _ _ m c.requires.0 c.gather-u.ensures.0, omega (arith, c.raised-most.ensures), room_all _ _ _ m c.requires.0 c.gather-u.ensures.0 g.strategy g.limit c.raised-most.ensures _ _ w.for_split_begins w.for_points w.few_points)

pub hand_out-requires : goal.hand_out-requires
hand_out-requires c = let g = c.args in
    let w = c.requires.1 in
    let k = c.split_all-t.auto in
    holds_all _ _ _ g.mesh.now c.requires.0 c.gather-u.ensures.0 g.strategy g.limit c.raised-most.ensures c.split_all-t.ensures k.starts k.points w.for_split_begins w.for_points w.few_starts w.few_points

pub returns : goal.returns
unfolding split_fault
returns c = let g = c.args in
    let m = rows_mesh g.mesh.now in
    let ps = split_parts g.strategy g.limit m in
    let t = gathered_in _ _ _ g.mesh.now c.requires.0 c.gather-u.ensures.0 g.strategy g.limit c.raised-most.ensures c.split_all-t.ensures in
    mesh_answered m c.requires.0 (c.hand_out.ensures.answer ps t)
