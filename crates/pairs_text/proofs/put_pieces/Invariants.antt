-- `pairs_text::put_pieces` meets its contract: a piece a turn, each put into what is left of the
-- lent bytes. Assumes nothing.
use Prim.Native.Nat.{◌≤◌, max}
use Rattle.pairs_text.specs.Walks.{pieces_in}
use Rattle.pairs_text.proofs.Putting.{Putting}
use Rattle.pairs_text.proofs.put_pieces.Given as goal

abbrev pub invariant-loop-k : goal.invariant-loop-k
invariant-loop-k l = (l.k ≤ max l.from l.pieces) × Putting (pieces_in l.begun l.firsts l.points) l.from l.k l.size l.initial.out l.out
