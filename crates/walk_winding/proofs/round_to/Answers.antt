-- `walk_winding::round_to` meets its contract. Assumes nothing.
use mathlib.Core.Path.{sym}
use native.Mathlib.Omega.{arith}
use Rattle.walk_winding.proofs.Windings.{round_near, round_past}
use Rattle.walk_winding.proofs.round_to.Goals as goal

pub returns-then-i-n : goal.returns-then-i-n
returns-then-i-n c = (sym (round_near c.if-i-n.true), c.if-i-n.true)

pub returns-else-i-n : goal.returns-else-i-n
returns-else-i-n c = (sym (round_past c.if-i-n.false), omega arith)
