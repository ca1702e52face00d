-- `split_sizes::split_more` meets its contract: each size does. Assumes nothing.
use borrow.Author.Rules.{rules}
use Rattle.convex_regions.proofs.Regions.{few_rows}
use Rattle.split_sizes.proofs.split_more.Goals as goal

pub split_in-requires-else-n-le-MEDIUM : goal.split_in-requires-else-n-le-MEDIUM
split_in-requires-else-n-le-MEDIUM c = let few = few_rows c.args.mesh.now c.requires in
    search rules
