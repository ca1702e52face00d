-- `convex_join::join_within` meets its contract: an accepted mesh has at most 1,024 triangles, and
-- its parts are `answered`. Assumes nothing.
use borrow.Author.Rules.{rules}
use Rattle.mesh.specs.Rows.{rows_mesh}
use Rattle.convex_regions.proofs.Regions.{few_rows}
use Rattle.convex_join.proofs.Answer.{answered}
use Rattle.convex_join.proofs.join_within.Goals as goal

pub gather-t-requires : goal.gather-t-requires
gather-t-requires c = let few = few_rows c.args.mesh.now c.requires.0 in
    search rules

pub returns : goal.returns
returns c = answered (rows_mesh c.args.mesh.now) c.requires.0 c.gather-t.ensures.0 c.hand_out.ensures
