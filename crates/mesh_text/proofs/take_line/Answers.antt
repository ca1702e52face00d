-- `mesh_text::take_line` meets its contract. Assumes nothing.
use mathlib.Core.Path.{sym, ◌∙◌}
use Rattle.mesh_text.proofs.Gatherings.{taken_passed, taken_right, taken_wrong}
use Rattle.mesh_text.proofs.take_line.Goals as goal

pub returns-then-passed_over : goal.returns-then-passed_over
returns-then-passed_over c = taken_passed _ _ _ (sym c.passed_over.ensures ∙ c.if-passed_over.true) c.requires.1

pub returns-then-put_line : goal.returns-then-put_line
returns-then-put_line c = taken_right _ _ _ (sym c.passed_over.ensures ∙ c.if-passed_over.false) c.put_line.ensures c.if-put_line.true

pub returns : goal.returns
returns c = taken_wrong _ _ _ (sym c.passed_over.ensures ∙ c.if-passed_over.false) c.put_line.ensures c.if-put_line.false
