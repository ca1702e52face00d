-- `pairs_text::next_chunk` meets its contract: the pieces in the walks of a job begun are the
-- job's. Assumes nothing.
use mathlib.Core.Path.{◌≡◌}
use native.Mathlib.Omega.{arith}
use lib.ListN.{length}
use Rattle.pairs_text.specs.Pieces.{chunk_room}
use Rattle.pairs_text.proofs.Started.{started, pieces_in_lem}
use Rattle.pairs_text.proofs.Putting.{handed_chunk}
use Rattle.pairs_text.proofs.next_chunk.Goals as goal

pub put_begun-requires : goal.put_begun-requires
put_begun-requires c = started c.args.bytes.now c.begin_job-begun.ensures

pub returns : goal.returns
returns c = let B = c.args.bytes.now in
    let room : length c.args.out.now ≡ chunk_room = omega arith in
    let h = handed_chunk B (pieces_in_lem B c.begin_job-begun.ensures) room c.put_begun.ensures in
    record { size = h.0; next = h.1.0; more = h.1.1.0; text = h.1.1.1.0; counted = h.1.1.1.1 }
