-- `convex_grow::start_region` meets its contract: `started_by` of Growth. Assumes nothing.
use borrow.Author.Rules.{rules}
use mathlib.Core.Path.{sym}
use Prim.Native.Nat.{◌<◌, ◌≤◌}
use native.Mathlib.Omega.{arith}
use lib.ListN.{length}
use Rattle.mesh.specs.Rows.{rows_mesh}
use Rattle.mesh.proofs.Rows.{length_rows, triangle_row}
use Rattle.convex_grow.proofs.Growth.{started_by}
use Rattle.convex_grow.proofs.start_region.Goals as goal

pub put_vertex-requires : goal.put_vertex-requires
put_vertex-requires c = let h : 3 ≤ length c.args.corners.now = omega (arith, c.requires.0.enough, c.requires.1, length_rows c.args.mesh.now) in
    search rules

pub put_vertex-requires-2 : goal.put_vertex-requires-2
put_vertex-requires-2 c = let h : 3 ≤ length c.args.corners.now = omega (arith, c.requires.0.enough, c.requires.1, length_rows c.args.mesh.now) in
    search rules

pub put_vertex-requires-3 : goal.put_vertex-requires-3
put_vertex-requires-3 c = let h : 3 ≤ length c.args.corners.now = omega (arith, c.requires.0.enough, c.requires.1, length_rows c.args.mesh.now) in
    search rules

pub bounds-taken-k : goal.bounds-taken-k
bounds-taken-k c = omega (arith, c.requires.0.marks, c.requires.1, length_rows c.args.mesh.now)

pub returns : goal.returns
returns c = let g = c.args in
    let l : g.k < length (rows_mesh g.mesh.now) = omega (arith, c.requires.1, length_rows g.mesh.now) in
    let a = c.put_vertex.ensures in
    let d = c.put_vertex-2.ensures in
    let e = c.put_vertex-3.ensures in
    started_by (length g.corners.now) (rows_mesh g.mesh.now) g.corners.now g.edges.now g.taken.now g.k c.requires.0 l c.requires.2 (sym (triangle_row g.mesh.now g.k c.requires.1)) a.buffer d.buffer e.buffer a.edge d.edge e.edge
