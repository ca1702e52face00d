-- `pairs_place::placed_walks` meets its contract. The loop's invariant is placement's `ByTurn`,
-- where what is told so far says whether a contour was touched. Assumes nothing.
use mathlib.Core.Path.{◌≡◌}
use mathlib.Core.Bool.{cond}
use Rattle.plane.specs.Machine.{point}
use Rattle.pair_walks.specs.Walks.{contours_in}
use Rattle.placement.specs.declared.Contact.TheVariants.{Apart, Touching}
use Rattle.placement.proofs.Contours.{ByTurn}
use Rattle.pairs_place.proofs.Pairs.{touching}
use Rattle.pairs_place.proofs.placed_walks.Given as goal

abbrev pub invariant-loop-k : goal.invariant-loop-k
invariant-loop-k l = (l.contact ≡ cond (touching l.contact) Touching Apart) × ByTurn (point l.z) (contours_in l.firsts l.points l.left l.right) l.k (touching l.contact)
