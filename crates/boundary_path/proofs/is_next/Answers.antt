-- `boundary_path::is_next` meets its contract. Assumes nothing.
use mathlib.Core.Path.{◌∙◌, sym}
use borrow.Author.Tests.{not-true, not-false}
use Rattle.path.proofs.Tests.{first_fails}
use Rattle.boundary_path.proofs.Rows.{next_first, next_behind}
use borrow.Author.Rules.{rules}
use Rattle.boundary_path.proofs.is_next.Goals as goal

pub returns-then-i-eq0 : goal.returns-then-i-eq0
returns-then-i-eq0 c = next_first c.args.row (sym c.is_drawn.ensures ∙ c.if-not-is_drawn.false) c.if-i-eq0.true

pub returns : goal.returns
returns c = next_behind c.args.row (sym c.is_drawn.ensures ∙ c.if-not-is_drawn.false) c.if-i-eq0.false
