-- `mesh_text::put_line` meets its contract. Assumes nothing.
use Rattle.mesh_fields.proofs.Puts.{put_wrong}
use Rattle.mesh_text.proofs.Gatherings.{fits_many, put_first, put_next}
use Rattle.mesh_text.proofs.put_line.Goals as goal

pub returns-then-count-eq0 : goal.returns-then-count-eq0
returns-then-count-eq0 c = put_first c.args.line.now c.if-count-eq0.true c.put_head.ensures

pub returns-then-count-gt-MAX_WRITTEN : goal.returns-then-count-gt-MAX_WRITTEN
returns-then-count-gt-MAX_WRITTEN c = put_wrong (fits_many c.args.line.now c.if-count-eq0.false c.if-count-gt-MAX_WRITTEN.true)

pub returns : goal.returns
returns c = put_next c.args.line.now c.if-count-eq0.false c.if-count-gt-MAX_WRITTEN.false c.put_triangle.ensures
