-- `mesh_operand::bounds_within` meets its contract: the bounds of the mesh that the rows read are.
-- Assumes nothing.
use mathlib.Core.Path.{◌∙◌, ap}
use Rattle.listing.proofs.File.{sound}
use Rattle.file_parts.proofs.Files.{records_there, rows_read}
use Rattle.mesh_bounds.specs.Bounds.{mesh_bounds}
use Rattle.mesh_operand.proofs.Operand.{accepted_header}
use borrow.Author.Rules.{rules}
use Rattle.mesh_operand.proofs.bounds_within.Goals as goal

pub slice_bounds-read_rows-count : goal.slice_bounds-read_rows-count
slice_bounds-read_rows-count c = (sound c.args.bytes.now (accepted_header c.args.bytes.now c.requires.accepted)).enough

pub slice_bounds-read_rows-start : goal.slice_bounds-read_rows-start
slice_bounds-read_rows-start c = (sound c.args.bytes.now (accepted_header c.args.bytes.now c.requires.accepted)).enough

pub read_rows-requires : goal.read_rows-requires
read_rows-requires c = records_there c.args.bytes.now c.args.rows.now (accepted_header c.args.bytes.now c.requires.accepted) c.requires.for_rows

pub returns : goal.returns
returns c = c.mesh_bounds.ensures ∙ ap mesh_bounds (rows_read c.args.bytes.now c.args.rows.now (accepted_header c.args.bytes.now c.requires.accepted) c.requires.for_rows _ c.read_rows.ensures)
