-- `text::put_decimal` meets its contract: the kit's digits are of the fewest places, and so are
-- `decimal`. Assumes nothing.
use native.Mathlib.Omega.{arith}
use Rattle.text.proofs.Fewest.{decimal_put}
use Rattle.text.proofs.Puts.{put_as}
use Rattle.text.proofs.put_decimal.Goals as goal

pub put_bytes-requires : goal.put_bytes-requires
put_bytes-requires c = let d = c.decimal-places.ensures in
    omega (arith, d.in_bounds.1, (decimal_put (omega arith) d.in_bounds.1 d.len d.digits).1)

pub returns : goal.returns
returns c = let d = c.decimal-places.ensures in
    put_as (decimal_put (omega arith) d.in_bounds.1 d.len d.digits).0 c.put_bytes.ensures
