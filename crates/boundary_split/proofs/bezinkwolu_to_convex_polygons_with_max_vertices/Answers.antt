-- `boundary_split::bezinkwolu_to_convex_polygons_with_max_vertices` meets its contract: no such
-- split, or the answer of split_parts. Assumes nothing.
use borrow.Author.Rules.{rules}
use Rattle.mesh.specs.Rows.{rows_mesh}
use Rattle.boundary_split.proofs.Numbered.{no_split, by_split}
use Rattle.boundary_split.proofs.bezinkwolu_to_convex_polygons_with_max_vertices.Goals as goal

pub returns-then-split-gt-LAST_SPLIT : goal.returns-then-split-gt-LAST_SPLIT
returns-then-split-gt-LAST_SPLIT c = no_split c.args.limit (rows_mesh c.args.mesh.now) c.args.starts.now c.args.corners.now c.if-split-gt-LAST_SPLIT.true

pub returns : goal.returns
returns c = by_split c.args.limit (rows_mesh c.args.mesh.now) c.args.starts.now c.args.corners.now c.if-split-gt-LAST_SPLIT.false c.strategy.ensures c.to_convex_polygons_with_max_vertices.ensures
