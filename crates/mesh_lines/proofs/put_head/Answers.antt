-- `mesh_lines::put_head` meets its contract: one put after another. Assumes nothing.
use mathlib.Core.Path.{refl}
use mathlib.Core.List.{[]}
use Rattle.mesh_fields.proofs.Puts.{put_then, put_stops, put_none}
use Rattle.mesh_lines.specs.Lines.{is_head}
use Rattle.mesh_lines.proofs.put_head.Goals as goal

pub returns-then-put_split : goal.returns-then-put_split
unfolding is_head
returns-then-put_split c = put_then c.put_limit.ensures c.if-put_limit.true refl (put_then c.put_split.ensures c.if-put_split.true refl (put_none c.ends.ensures))

pub returns-else-put_split : goal.returns-else-put_split
unfolding is_head
returns-else-put_split c = put_then c.put_limit.ensures c.if-put_limit.true refl (put_stops c.put_split.ensures _ [] c.if-put_split.false)

pub returns-else-put_limit : goal.returns-else-put_limit
unfolding is_head
returns-else-put_limit c = put_stops c.put_limit.ensures _ _ c.if-put_limit.false
