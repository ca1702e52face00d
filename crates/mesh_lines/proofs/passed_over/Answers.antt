-- `mesh_lines::passed_over` meets its contract. Assumes nothing.
use mathlib.Core.Path.{◌∙◌}
use borrow.Author.Tests.{eq-eqb}
use Rattle.mesh_lines.proofs.Steps.{blank, first_byte}
use Rattle.mesh_lines.proofs.passed_over.Goals as goal

pub returns-then-start-line : goal.returns-then-start-line
returns-then-start-line c = eq-eqb _ _ c.if-start-line.true ∙ blank c.args.line.now c.field_start-start.ensures.0 c.field_start-start.ensures.1 c.if-start-line.true

pub returns-else-start-line : goal.returns-else-start-line
returns-else-start-line c = first_byte c.args.line.now c.field_start-start.ensures.0 c.field_start-start.ensures.1 c.if-start-line.false
