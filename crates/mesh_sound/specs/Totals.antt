-- A total of doubled areas, or none where it is past 2^63 - 1. Assumes nothing.
use Rattle.std.specs.Prelude.{cond, ℤ, pos, Option, Some, None}
use Rattle.std.specs.Int.Signed.{lt_z}

unfoldable pub added_of : ℤ → Option ℤ
added_of z = cond (lt_z (pos 9223372036854775807) z) None (Some z)
