-- `mesh_file::header_fault` meets its contract: the kinds in their order. Assumes nothing.
use Rattle.mesh_file.proofs.Header.{no_header, too_many, broken_header, sound_header}
use Rattle.mesh_file.proofs.header_fault.Goals as goal

pub returns-then-bytes-lt-HEADER : goal.returns-then-bytes-lt-HEADER
returns-then-bytes-lt-HEADER c = no_header c.args.bytes.now c.if-bytes-lt-HEADER.true

pub returns-then-triangle_count-gt-MAX_TRIANGLES : goal.returns-then-triangle_count-gt-MAX_TRIANGLES
returns-then-triangle_count-gt-MAX_TRIANGLES c = too_many _ c.if-bytes-lt-HEADER.false c.triangle_count.ensures c.if-triangle_count-gt-MAX_TRIANGLES.true

pub returns-then-header_broken : goal.returns-then-header_broken
returns-then-header_broken c = broken_header _ c.if-bytes-lt-HEADER.false c.triangle_count.ensures c.if-triangle_count-gt-MAX_TRIANGLES.false c.header_broken.ensures c.if-header_broken.true

pub returns : goal.returns
returns c = sound_header _ c.if-bytes-lt-HEADER.false c.triangle_count.ensures c.if-triangle_count-gt-MAX_TRIANGLES.false c.header_broken.ensures c.if-header_broken.false
