-- `pairs_print::print_job` ends: each step leaves fewer pieces. Assumes nothing.
use Rattle.pairs_print.proofs.Left.{left_falls}
use Rattle.pairs_print.proofs.print_job.Goals as goal

pub loop-more-smaller : goal.loop-more-smaller
loop-more-smaller g c =
    left_falls c.args.bytes.now c.loop-more.from c.loop-more-test.true c.next_chunk-chunk.ensures.next c.next_chunk-chunk.ensures.more
