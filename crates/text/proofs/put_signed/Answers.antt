-- `text::put_signed` meets its contract: a minus and the size, or the size alone. Assumes nothing.
use mathlib.Core.Path.{refl, ap}
use native.Mathlib.Omega.{arith}
use lib.ListN.{length}
use Rattle.integers.proofs.Bits.{kept}
use Rattle.text.proofs.Signed.{signed_below, signed_above}
use Rattle.text.proofs.Puts.{put_after_lem, put_as}
use Rattle.text.proofs.put_signed.Goals as goal

pub put_bytes-after-requires : goal.put_bytes-after-requires
put_bytes-after-requires c = omega (arith, ap length (signed_below (kept c.ranges.n) refl c.if-n-lt0.true))

pub put_decimal-requires : goal.put_decimal-requires
put_decimal-requires c = omega (arith, ap length (signed_below (kept c.ranges.n) c.size.ensures c.if-n-lt0.true), c.put_bytes-after.ensures.after)

pub returns-then-n-lt0 : goal.returns-then-n-lt0
returns-then-n-lt0 c = put_as (signed_below (kept c.ranges.n) c.size.ensures c.if-n-lt0.true)
    (put_after_lem (omega arith) c.put_bytes-after.ensures c.put_decimal.ensures)

pub put_decimal-requires-else-n-lt0 : goal.put_decimal-requires-else-n-lt0
put_decimal-requires-else-n-lt0 c = omega (arith, ap length (signed_above (kept c.ranges.n) c.size-else-n-lt0.ensures c.if-n-lt0.false))

pub returns-else-n-lt0 : goal.returns-else-n-lt0
returns-else-n-lt0 c = put_as (signed_above (kept c.ranges.n) c.size-else-n-lt0.ensures c.if-n-lt0.false) c.put_decimal-else-n-lt0.ensures
