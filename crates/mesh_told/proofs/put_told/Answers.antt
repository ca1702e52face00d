-- `mesh_told::put_told` meets its contract, by what the text was turned into. Assumes nothing.
use mathlib.Core.Path.{◌∙◌, ap}
use Prim.Native.Nat.{◌≤◌}
use Rattle.std.specs.Prelude.{Err}
use native.Mathlib.Omega.{arith}
use lib.ListN.{length}
use Rattle.mesh_told.specs.Told.{told_room}
use Rattle.mesh_told.proofs.Telling.{told_written, told_wrong, told_long}
use Rattle.mesh_told.proofs.put_told.Goals as goal

pub returns-in_default : goal.returns-in_default
returns-in_default c = let p = told_written c.args.text.now {out = c.args.out.now} c.in_default.is in record { text = p.0; counted = p.1 }

pub returns-in-Wrong : goal.returns-in-Wrong
returns-in-Wrong c =
    let g = c.args in
    let room : told_room ≤ length g.out.now = omega arith in
    let p = told_wrong g.text.now room (c.in-Err.is ∙ ap Err c.in-Wrong.is) c.put_wrong.ensures in
    record { text = p.0; counted = p.1 }

pub returns-in-TooLong : goal.returns-in-TooLong
returns-in-TooLong c =
    let g = c.args in
    let room : told_room ≤ length g.out.now = omega arith in
    let p = told_long g.text.now room (c.in-Err.is ∙ ap Err c.in-TooLong.is) c.put_bytes.ensures in
    record { text = p.0; counted = p.1 }
