-- `wide_divide::divide_digit` meets its contract. The loop's invariant: the guess with its rest
-- makes u, and one more is too large (`Guess`); the measure is the guess. Assumes nothing.
use Rattle.wide_divide.proofs.Guess.{Guess}
use Rattle.wide_divide.proofs.divide_digit.Given as goal

abbrev pub invariant-loop-rest : goal.invariant-loop-rest
invariant-loop-rest l = Guess l.u l.x l.v l.q l.rest

abbrev pub decreases-loop-rest : goal.decreases-loop-rest
decreases-loop-rest l = l.q
