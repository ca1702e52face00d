-- `mesh_told::put_standing` meets its contract. Assumes nothing.
use Prim.Native.Nat.{◌+◌, ◌≤◌}
use native.Mathlib.Omega.{arith}
use lib.ListN.{length}
use Rattle.mesh_told.specs.Told.{standing_room}
use Rattle.mesh_told.proofs.Telling.{put_ends, put_quoted}
use Rattle.mesh_told.proofs.put_standing.Goals as goal

pub returns-then-entry-eq0 : goal.returns-then-entry-eq0
returns-then-entry-eq0 c = put_ends c.args.entry.now c.if-entry-eq0.true c.put_bytes.ensures

pub returns : goal.returns
returns c = let g = c.args in
    let room : g.at + standing_room ≤ length g.out.now = omega arith in
    put_quoted g.entry.now c.if-entry-eq0.false c.shown-n.ensures.0 room c.put_bytes-open.ensures c.put_bytes-close.ensures c.put_bytes-2.ensures
