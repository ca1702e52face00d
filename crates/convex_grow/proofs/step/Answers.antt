-- `convex_grow::step` meets its contract: what is across by Choice, `moved_step` and `pushed_step`
-- of Steps. Assumes nothing.
use borrow.Author.Rules.{rules}
use mathlib.Core.Path.{◌≡◌, refl, ◌∙◌}
use lib.ListN.{length}
use Rattle.mesh.specs.Mesh.{none}
use Rattle.mesh.specs.Rows.{rows_mesh}
use Rattle.convex_ring.proofs.Reading.{around_of}
use Rattle.convex_grow.proofs.Choice.{answer, nothing, in_rows, skipped, row_across, far_vertex, far_grid, joined, apart}
use Rattle.convex_grow.proofs.Steps.{stepped_by, moved_step, push_room, pushed_step}
use Rattle.convex_grow.proofs.step.Goals.{then-across-eq-NIL_INDEX-via-then-across-eq-NIL_INDEX, then-across-eq-NIL_INDEX-via-else-across-eq-NIL_INDEX+then-taken-across}
use Rattle.convex_grow.proofs.step.Goals as goal

-- nothing is across, or a triangle taken
pub returns-then-across-eq-NIL_INDEX : goal.returns-then-across-eq-NIL_INDEX
returns-then-across-eq-NIL_INDEX c = let g = c.args in
    let stays : answer (length g.corners.now) g.mesh.now g.corners.now g.edges.now g.taken.now g.p c.requires.0 ≡ none =
    elim c.then-across-eq-NIL_INDEX.branch [
      | then-across-eq-NIL_INDEX-via-then-across-eq-NIL_INDEX w ↦ nothing (length g.corners.now) g.mesh.now g.corners.now g.edges.now g.taken.now g.p c.requires.0 w.if-across-eq-NIL_INDEX.true
      | then-across-eq-NIL_INDEX-via-else-across-eq-NIL_INDEX+then-taken-across w ↦ skipped (length g.corners.now) g.mesh.now g.corners.now g.edges.now g.taken.now g.p c.requires.0 w.if-across-eq-NIL_INDEX.false w.if-taken-across.true
    ] in
    stepped_by c.move_top.ensures.buffer refl refl c.move_top.ensures.counts (moved_step (length g.corners.now) (rows_mesh g.mesh.now) g.corners.now g.edges.now g.taken.now g.p c.requires.0 c.requires.1 stays)

pub offset_bounds-mesh-across : goal.offset_bounds-mesh-across
offset_bounds-mesh-across c = let g = c.args in
    let h = in_rows (length g.corners.now) g.mesh.now g.corners.now g.edges.now g.taken.now g.p c.requires.0 c.if-across-eq-NIL_INDEX.false in
    search rules

pub bounds-mesh-across : goal.bounds-mesh-across
bounds-mesh-across c = let g = c.args in
    in_rows (length g.corners.now) g.mesh.now g.corners.now g.edges.now g.taken.now g.p c.requires.0 c.if-across-eq-NIL_INDEX.false

pub joins_over-requires : goal.joins_over-requires
joins_over-requires c = let g = c.args in
    (around_of c.requires.0 c.requires.1, far_grid (length g.corners.now) g.mesh.now g.corners.now g.edges.now g.taken.now g.p c.requires.0 c.if-across-eq-NIL_INDEX.false c.far_of-far.ensures.0)

pub push-requires : goal.push-requires
push-requires c = let g = c.args in
    let some = c.if-across-eq-NIL_INDEX.false in
    let j = joined (length g.corners.now) g.mesh.now g.corners.now g.edges.now g.taken.now g.p c.requires.0 some c.far_of-far.ensures.0 c.if-taken-across.false c.joins_over.ensures c.if-joins_over.true in
    (c.requires.0.ready.edges, c.requires.1, push_room (length g.corners.now) (rows_mesh g.mesh.now) g.corners.now g.edges.now g.taken.now g.p c.requires.0 c.requires.1 (λ e. some (j ∙ e)))

pub returns-then-joins_over : goal.returns-then-joins_over
returns-then-joins_over c = let g = c.args in
    let some = c.if-across-eq-NIL_INDEX.false in
    let far = c.far_of-far.ensures in
    let put = c.push.ensures in
    let j = joined (length g.corners.now) g.mesh.now g.corners.now g.edges.now g.taken.now g.p c.requires.0 some far.0 c.if-taken-across.false c.joins_over.ensures c.if-joins_over.true in
    pushed_step (length g.corners.now) (rows_mesh g.mesh.now) g.corners.now g.edges.now g.taken.now g.p c.requires.0 c.requires.1 j some (row_across (length g.corners.now) g.mesh.now g.corners.now g.edges.now g.taken.now g.p c.requires.0 some) (far_vertex (length g.corners.now) g.mesh.now g.corners.now g.edges.now g.taken.now g.p c.requires.0 some far.0) far.1 far.2 put.buffer put.both put.counts

pub returns-else-joins_over : goal.returns-else-joins_over
returns-else-joins_over c = let g = c.args in
    stepped_by c.move_top-else-joins_over.ensures.buffer refl refl c.move_top-else-joins_over.ensures.counts (moved_step (length g.corners.now) (rows_mesh g.mesh.now) g.corners.now g.edges.now g.taken.now g.p c.requires.0 c.requires.1 (apart (length g.corners.now) g.mesh.now g.corners.now g.edges.now g.taken.now g.p c.requires.0 c.if-across-eq-NIL_INDEX.false c.far_of-far.ensures.0 c.if-taken-across.false c.joins_over.ensures c.if-joins_over.false))
