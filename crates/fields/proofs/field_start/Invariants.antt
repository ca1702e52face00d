-- `fields::field_start` meets its contract. The loop's invariant: after n turns field n begins at
-- i. Assumes nothing.
use mathlib.Core.Path.{◌≡◌}
use Prim.Native.Nat.{◌≤◌}
use lib.ListN.{length, drop}
use Rattle.fields.specs.Fields.{fields_from}
use Rattle.fields.proofs.field_start.Given as goal

abbrev pub invariant-loop : goal.invariant-loop
invariant-loop l = (drop l.i l.line ≡ fields_from l.counter l.line) × (l.i ≤ length l.line)
