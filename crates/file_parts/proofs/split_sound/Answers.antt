-- `file_parts::split_sound` meets its contract: the parts of the mesh that the rows read are.
-- Assumes nothing.
use Rattle.listing.proofs.File.{sound}
use Rattle.file_parts.proofs.Files.{records_there, sound_left}
use borrow.Author.Rules.{rules}
use Rattle.file_parts.proofs.split_sound.Goals as goal

pub slice_bounds-read_rows-count : goal.slice_bounds-read_rows-count
slice_bounds-read_rows-count c = (sound c.args.bytes.now c.requires.header).enough

pub slice_bounds-read_rows-start : goal.slice_bounds-read_rows-start
slice_bounds-read_rows-start c = (sound c.args.bytes.now c.requires.header).enough

pub read_rows-requires : goal.read_rows-requires
read_rows-requires c = records_there c.args.bytes.now c.args.rows.now c.requires.header c.requires.for_rows

pub corner_limit-limit-requires : goal.corner_limit-limit-requires
corner_limit-limit-requires c = (sound c.args.bytes.now c.requires.header).enough

pub strategy-strategy-requires : goal.strategy-strategy-requires
strategy-strategy-requires c = (sound c.args.bytes.now c.requires.header).enough

pub returns : goal.returns
returns c = let p = sound_left c.requires c.strategy-strategy.ensures c.corner_limit-limit.ensures _ c.read_rows.ensures c.to_convex_polygons_with_max_vertices.ensures in
    record { counts = p.0; starts = p.1.0; corners = p.1.1.0; within = p.1.1.1 }
