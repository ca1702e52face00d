-- `mesh_fields::comma` meets its contract: the tests in turn. Assumes nothing.
use borrow.Author.Rules.{rules}
use Rattle.mesh_fields.proofs.Tests.{too_short, not_opened, not_closed, no_comma, comma_at}
use Rattle.mesh_fields.proofs.comma.Goals as goal

pub returns-in_default : goal.returns-in_default
returns-in_default c = too_short c.args.entry.now (search rules)

pub returns-in_default-2 : goal.returns-in_default-2
returns-in_default-2 c = not_closed c.args.entry.now (λ q. search rules)

pub returns-in_default-3 : goal.returns-in_default-3
returns-in_default-3 c = not_opened c.args.entry.now (λ q. search rules)

pub returns-then-at-entry : goal.returns-then-at-entry
returns-then-at-entry c = comma_at c.args.entry.now (search rules) (search rules) c.run_end-at.ensures.0 c.if-at-entry.true

pub returns-else-at-entry : goal.returns-else-at-entry
returns-else-at-entry c = no_comma c.args.entry.now (search rules) (search rules) c.run_end-at.ensures.0 c.if-at-entry.false
