use borrow.Author.Rules.{rules}
use Rattle.plane.proofs.Size.{sizes}
use Rattle.plane.proofs.cross_of.Goals as goal

pub overflow_sub-result : goal.overflow_sub-result
overflow_sub-result c = search (rules, sizes)

pub returns : goal.returns
returns c = search (rules, sizes)
