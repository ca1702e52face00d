-- `walk_pair::pair_checked` meets its contract: by the two walks begun. Assumes nothing.
use mathlib.Core.Path.{sym, ◌∙◌}
use Rattle.walk_pair.proofs.Pairs.{pair_at, pair_first, pair_second, pair_both}
use Rattle.walk_pair.proofs.pair_checked.Goals as goal

pub returns-in-At-At : goal.returns-in-At-At
returns-in-At-At c = pair_at c.args.reflected c.args.left.now c.args.right.now c.requires.0 c.requires.1 c.requires.2 c.requires.3
    (sym c.begin_checked-first.ensures ∙ c.in-At-At.is-0) (sym c.begin_checked-second.ensures ∙ c.in-At-At.is-1)

pub returns-in-At-Refused : goal.returns-in-At-Refused
returns-in-At-Refused c = pair_second c.args.reflected c.args.left.now c.args.right.now c.requires.0 c.requires.1 c.requires.2 c.requires.3
    (sym c.begin_checked-first.ensures ∙ c.in-At-Refused.is-0) (sym c.begin_checked-second.ensures ∙ c.in-At-Refused.is-1)

pub returns-in-Refused-At : goal.returns-in-Refused-At
returns-in-Refused-At c = pair_first c.args.reflected c.args.left.now c.args.right.now c.requires.0 c.requires.1 c.requires.2 c.requires.3
    (sym c.begin_checked-first.ensures ∙ c.in-Refused-At.is-0) (sym c.begin_checked-second.ensures ∙ c.in-Refused-At.is-1)

pub returns-in-Refused-Refused : goal.returns-in-Refused-Refused
returns-in-Refused-Refused c = pair_both c.args.reflected c.args.left.now c.args.right.now c.requires.0 c.requires.1 c.requires.2 c.requires.3
    (sym c.begin_checked-first.ensures ∙ c.in-Refused-Refused.is-0) (sym c.begin_checked-second.ensures ∙ c.in-Refused-Refused.is-1)
    c.first_of.ensures
