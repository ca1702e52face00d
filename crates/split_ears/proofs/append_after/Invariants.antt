-- `split_ears::append_after` meets its contract: the first k corners are appended. Assumes nothing.
use mathlib.Core.Path.{◌≡◌}
use Prim.Native.Nat.{◌+◌, ◌<◌}
use lib.ListN.{length}
use Rattle.points.specs.Points.{Appended}
use Rattle.split_ears.specs.Rings.{stepped, corners_after}
use Rattle.split_ears.proofs.append_after.Given as goal

abbrev pub invariant-loop-k : goal.invariant-loop-k
invariant-loop-k l = (l.end ≡ stepped l.ring l.start l.k) × (l.end < length l.contour) × Appended (corners_after l.contour l.ring l.start l.k) l.initial.points l.count l.points (l.count + l.k)
