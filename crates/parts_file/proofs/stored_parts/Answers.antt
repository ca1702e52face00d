-- `parts_file::stored_parts` meets its contract: a file's refusal, or the stored table of its
-- parts, which fits. Assumes nothing.
use mathlib.Core.Path.{sym}
use lib.Seq.{length-take-le}
use Rattle.corners.proofs.Corners.{whole_corners}
use Rattle.file_parts.proofs.Files.{starts_in, corners_in}
use Rattle.parts_file.proofs.Stored.{refused_left, stored_left}
use borrow.Author.Rules.{rules}
use Rattle.parts_file.proofs.stored_parts.Goals as goal

pub front-requires : goal.front-requires
front-requires c = whole_corners _ _ (corners_in c.args.bytes.now _ _ (c.split_file-told.ensures.counts, (c.split_file-told.ensures.starts, (c.split_file-told.ensures.corners, c.split_file-told.ensures.within))) c.if-told-ne0.false)

pub returns : goal.returns
returns c = let e = c.write_table.ensures in
    let v = stored_left c.args.bytes.now _ _ c.args.out.now (c.split_file-told.ensures.counts, (c.split_file-told.ensures.starts, (c.split_file-told.ensures.corners, c.split_file-told.ensures.within))) c.if-told-ne0.false (search rules) c.front.ensures e.told e.bytes in
    record { told = v.0; bytes = v.1.0; counted = v.1.1 }
