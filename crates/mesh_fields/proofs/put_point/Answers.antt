-- `mesh_fields::put_point` meets its contract. Assumes nothing.
use Rattle.mesh_fields.proofs.Puts.{put_wrong}
use Rattle.mesh_fields.proofs.Tests.{between, no_comma_of, no_point, put_both, put_no_x}
use Rattle.mesh_fields.proofs.put_point.Goals as goal

pub returns-in_default : goal.returns-in_default
returns-in_default c = put_wrong (no_point c.args.entry.now (no_comma_of c.args.entry.now c.comma.ensures c.in_default.is))

pub returns-then-put_reading : goal.returns-then-put_reading
returns-then-put_reading c = let l = c.args.entry.now in
    put_both l (between l c.comma.ensures c.in-Some.is) c.coordinate-x.ensures c.put_reading.ensures c.if-put_reading.true c.coordinate-y.ensures c.put_reading-then-put_reading.ensures

pub returns-else-put_reading : goal.returns-else-put_reading
returns-else-put_reading c = let l = c.args.entry.now in
    put_no_x l (between l c.comma.ensures c.in-Some.is) c.coordinate-x.ensures c.put_reading.ensures c.if-put_reading.false
