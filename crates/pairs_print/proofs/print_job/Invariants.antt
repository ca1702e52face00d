-- `pairs_print::print_job` ends: the measure is how many pieces are left. Assumes nothing.
use Rattle.pairs_print.proofs.Left.{left}
use Rattle.pairs_print.proofs.print_job.Given as goal

abbrev pub decreases-loop-more : goal.decreases-loop-more
decreases-loop-more g l = left l.bytes l.from l.more
