-- `mesh_told::put_said` meets its contract. Assumes nothing.
use Prim.Native.Nat.{◌+◌, ◌≤◌}
use native.Mathlib.Omega.{arith}
use lib.ListN.{length}
use Rattle.mesh_told.specs.Told.{said_room}
use Rattle.mesh_told.proofs.Telling.{put_many, put_pieces, standing_after}
use Rattle.mesh_told.proofs.put_said.Goals as goal

pub returns-then-count-gt-MAX_WRITTEN : goal.returns-then-count-gt-MAX_WRITTEN
returns-then-count-gt-MAX_WRITTEN c = put_many c.args.line.now c.if-count-gt-MAX_WRITTEN.true c.put_bytes.ensures

pub put_should-requires : goal.put_should-requires
put_should-requires c = omega (arith, standing_after _ c.put_standing-after.ensures)

pub returns : goal.returns
returns c = let g = c.args in
    let room : g.at + said_room ≤ length g.out.now = omega arith in
    put_pieces g.line.now c.if-count-gt-MAX_WRITTEN.false c.wrong_field-j.ensures c.field-entry.ensures c.wanted_at.ensures room
    c.put_standing-after.ensures c.put_should.ensures
