-- `walk_example::print_pair` ends: the measure is the steps left. Assumes nothing.
use Rattle.pair.specs.Pair.{steps_left}
use Rattle.walk_example.proofs.print_pair.Given as goal

abbrev pub decreases-loop-next : goal.decreases-loop-next
decreases-loop-next l = steps_left l.at
