-- `mesh_wrong::wrong_field` meets its contract. The loop's invariant: the first wrong field is the
-- first from field j on. Assumes nothing.
use mathlib.Core.Path.{◌≡◌, sym, ◌∙◌}
use native.Mathlib.Omega.{arith}
use Rattle.mesh_wrong.proofs.Wants.{field_tested, field_right, field_wrong, fields_over}
use Rattle.mesh_wrong.proofs.wrong_field.Goals as goal

pub loop-j-preserved : goal.loop-j-preserved
loop-j-preserved c = let g = c.args in
    let j = c.loop-j.j in
    let t = field_tested g.count g.line.now j c.wanted_at-wanted.ensures c.field-entry.ensures c.is_wanted.ensures c.if-not-is_wanted.false in
    c.loop-j.invariant ∙ field_right g.count g.line.now j (omega arith) t

pub returns-then-not-is_wanted : goal.returns-then-not-is_wanted
returns-then-not-is_wanted c = let g = c.args in
    let j = c.loop-j.j in
    let t = field_tested g.count g.line.now j c.wanted_at-wanted.ensures c.field-entry.ensures c.is_wanted.ensures c.if-not-is_wanted.true in
    sym (c.loop-j.invariant ∙ field_wrong g.count g.line.now j (omega arith) t)

pub returns : goal.returns
returns c =
    let e : 7 ≡ c.loop-j.j = omega arith in
    e ∙ sym (c.loop-j.invariant ∙ fields_over c.args.count c.args.line.now c.loop-j.j (omega arith))
