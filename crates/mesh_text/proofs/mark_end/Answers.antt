-- `mesh_text::mark_end` meets its contract, test by test. Assumes nothing.
use native.Mathlib.Omega.{arith}
use Rattle.mesh_text.proofs.Mark.{mark_short, first_other, second_other, third_other, marked}
use Rattle.mesh_text.proofs.mark_end.Goals as goal

pub returns-then-text-lt3 : goal.returns-then-text-lt3
returns-then-text-lt3 c = (mark_short _ c.if-text-lt3.true, omega arith)

pub returns-then-text : goal.returns-then-text
returns-then-text c = (first_other _ c.if-text-lt3.false c.if-text.true, omega arith)

pub returns-then-text-2 : goal.returns-then-text-2
returns-then-text-2 c = (second_other _ c.if-text-lt3.false c.if-text.false c.if-text-2.true, omega arith)

pub returns-then-text-3 : goal.returns-then-text-3
returns-then-text-3 c = (third_other _ c.if-text-lt3.false c.if-text.false c.if-text-2.false c.if-text-3.true, omega arith)

pub returns : goal.returns
returns c = (marked _ c.if-text-lt3.false c.if-text.false c.if-text-2.false c.if-text-3.false, omega arith)
