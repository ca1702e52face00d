-- `walk_next::next` meets its contract: refused and as they came, or what `emit` ensures. Assumes
-- nothing.
use mathlib.Core.Path.{sym, ◌∙◌, subst}
use Rattle.walk.specs.Clauses.{NextBy}
use Rattle.walk_next.proofs.Promises.{judged_by, next_refused, next_given, next_by}
use Rattle.walk_next.proofs.next.Goals as goal

pub returns-then-fault-ne0 : goal.returns-then-fault-ne0
returns-then-fault-ne0 c = let l = c.args.left.now in
    let r = c.args.right.now in
    let s = c.args.s in
    subst (NextBy l r s) (sym (next_refused l r s c.pair_fault-fault.ensures c.if-fault-ne0.true)) (next_by l r s)

pub emit-requires : goal.emit-requires
emit-requires c = judged_by c.args.left.now c.args.right.now c.args.s (sym c.pair_fault-fault.ensures ∙ c.if-fault-ne0.false)

pub returns : goal.returns
returns c = let l = c.args.left.now in
    let r = c.args.right.now in
    let s = c.args.s in
    subst (NextBy l r s) (sym (next_given l r s c.pair_fault-fault.ensures c.if-fault-ne0.false c.emit.ensures)) (next_by l r s)
