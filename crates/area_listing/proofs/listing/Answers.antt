-- `area_listing::listing` meets its contract: a file's refusal, or the listing of its parts; any
-- answer fits. Assumes nothing.
use mathlib.Core.Path.{sym}
use native.Mathlib.Omega.{arith}
use lib.Seq.{length-take-le}
use Rattle.corners.proofs.Corners.{whole_corners}
use Rattle.text.proofs.Puts.{put_as}
use Rattle.file_parts.proofs.Files.{starts_in, corners_in}
use Rattle.area_listing.proofs.Printed.{told_refused, refused_room, parts_listed, parts_listable, listed_room, answered}
use borrow.Author.Rules.{rules}
use Rattle.area_listing.proofs.listing.Goals as goal

pub put_refusal-requires : goal.put_refusal-requires
put_refusal-requires c = omega (arith, refused_room c.args.bytes.now _ _ (c.split_file-told.ensures.counts, (c.split_file-told.ensures.starts, (c.split_file-told.ensures.corners, c.split_file-told.ensures.within))) c.if-told-ne0.true)

pub returns-then-told-ne0 : goal.returns-then-told-ne0
returns-then-told-ne0 c = let v = answered (put_as (sym (told_refused c.args.bytes.now _ _ (c.split_file-told.ensures.counts, (c.split_file-told.ensures.starts, (c.split_file-told.ensures.corners, c.split_file-told.ensures.within))) c.if-told-ne0.true)) c.put_refusal.ensures) in
    record { length = v.0; text = v.1.0; counted = v.1.1 }

pub front-requires : goal.front-requires
front-requires c = whole_corners _ _ (corners_in c.args.bytes.now _ _ (c.split_file-told.ensures.counts, (c.split_file-told.ensures.starts, (c.split_file-told.ensures.corners, c.split_file-told.ensures.within))) c.if-told-ne0.false)

pub put_listing-requires : goal.put_listing-requires
put_listing-requires c = let b = c.args.bytes.now in
    let z = c.if-told-ne0.false in
    let f = c.front.ensures in
    (parts_listable b _ _ (c.split_file-told.ensures.counts, (c.split_file-told.ensures.starts, (c.split_file-told.ensures.corners, c.split_file-told.ensures.within))) z f, omega (arith, listed_room b _ _ (c.split_file-told.ensures.counts, (c.split_file-told.ensures.starts, (c.split_file-told.ensures.corners, c.split_file-told.ensures.within))) z f))

pub returns : goal.returns
returns c = let v = answered (put_as (parts_listed c.args.bytes.now _ _ (c.split_file-told.ensures.counts, (c.split_file-told.ensures.starts, (c.split_file-told.ensures.corners, c.split_file-told.ensures.within))) c.if-told-ne0.false c.front.ensures) c.put_listing.ensures) in
    record { length = v.0; text = v.1.0; counted = v.1.1 }
