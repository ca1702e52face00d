-- `wide_divide::divide_digit` meets its contract. The loop's invariant: the guess with its rest
-- makes u, and one more is too large (`Guess`); the measure is the guess. Assumes nothing.
use Rattle.wide_divide.proofs.Guess.{guess_early, guess_late}
use Rattle.wide_divide.proofs.divide_digit.Goals as goal

pub returns-then-product-sum : goal.returns-then-product-sum
returns-then-product-sum c = guess_early c.args.u c.args.x c.args.v c.requires.0 c.requires.1 c.requires.2 c.loop-rest.invariant c.if-product-sum.true

pub returns : goal.returns
returns c = guess_late c.args.u c.args.x c.args.v c.requires.0 c.requires.1 c.requires.2 c.loop-rest.invariant c.ranges.v.fits c.loop-rest-test.false
