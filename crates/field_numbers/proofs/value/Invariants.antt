-- `field_numbers::value` meets its contract. The loop's invariant: v and then the digits from i on
-- write the number. Assumes nothing.
use mathlib.Core.Path.{◌≡◌}
use Prim.Native.Nat.{◌^◌, ◌<◌}
use lib.ListN.{drop}
use Rattle.field_numbers.specs.Numbers.{value_of, value_from}
use Rattle.field_numbers.proofs.value.Given as goal

abbrev pub invariant-loop-b : goal.invariant-loop-b
invariant-loop-b l = (l.v < 10 ^ l.b-index) × (value_of l.digits ≡ value_from l.v (drop l.b-index l.digits))
