-- `mesh_wrong::wrong_field` meets its contract. The loop's invariant: the first wrong field is the
-- first from field j on. Assumes nothing.
use mathlib.Core.Path.{◌≡◌}
use Prim.Native.Nat.{◌-◌}
use Rattle.mesh_wrong.specs.Wanted.{wrong_field_from}
use Rattle.mesh_wrong.proofs.wrong_field.Given as goal

abbrev pub invariant-loop-j : goal.invariant-loop-j
invariant-loop-j l = wrong_field_from 7 l.count l.line 0 ≡ wrong_field_from (7 - l.j) l.count l.line l.j
