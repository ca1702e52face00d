-- `wide::multiply_words` meets its contract: no product of halves wraps, and their sum is the
-- product. Assumes nothing.
use Rattle.wide.proofs.Halves.{halves}
use Rattle.wide.proofs.multiply_words.Goals as goal

pub returns : goal.returns
returns c = halves c.args.a c.args.b
