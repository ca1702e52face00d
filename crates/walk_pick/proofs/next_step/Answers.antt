-- `walk_pick::next_step` meets its contract: by the steps left of each walk. Assumes nothing.
use mathlib.Core.Path.{◌∙◌}
use Rattle.pair.specs.Pair.{lesser}
use Rattle.walk_pick.proofs.Picks.{edge_ready, neither, only_second, only_first, both}
use Rattle.walk_pick.proofs.next_step.Goals as goal

pub returns-in-0-eq0 : goal.returns-in-0-eq0
returns-in-0-eq0 c = (neither _ _ _ c.in-0-eq0.is-0 c.in-0-eq0.is-1, tt)

pub edge_of-requires : goal.edge_of-requires
edge_of-requires c = edge_ready c.args.right.now c.args.s.b c.requires.right_short c.requires.right_placed_lem c.requires.right_range

pub returns-in-0-default : goal.returns-in-0-default
returns-in-0-default c = (only_second _ _ _ c.in-0-default.is-0 c.in-0-default.is-1.1 c.edge_of.ensures.0, c.edge_of.ensures.1)

pub edge_of-requires-in_default-eq0 : goal.edge_of-requires-in_default-eq0
edge_of-requires-in_default-eq0 c = edge_ready c.args.left.now c.args.s.a c.requires.left_short c.requires.left_placed_lem c.requires.left_range

pub returns-in_default-eq0 : goal.returns-in_default-eq0
returns-in_default-eq0 c = (only_first _ _ _ c.in_default-eq0.is-0.1 c.in_default-eq0.is-1 c.edge_of-in_default-eq0.ensures.0, c.edge_of-in_default-eq0.ensures.1)

pub edge_of-requires-in_default : goal.edge_of-requires-in_default
edge_of-requires-in_default c = edge_ready c.args.left.now c.args.s.a c.requires.left_short c.requires.left_placed_lem c.requires.left_range

pub edge_of-requires-in_default-2 : goal.edge_of-requires-in_default-2
edge_of-requires-in_default-2 c = edge_ready c.args.right.now c.args.s.b c.requires.right_short c.requires.right_placed_lem c.requires.right_range

pub returns-in_default : goal.returns-in_default
returns-in_default c = (c.lesser.ensures.0 ∙ (λ i. lesser (c.edge_of-in_default.ensures.0 i) (c.edge_of-in_default-2.ensures.0 i)) ∙ both _ _ _ c.in_default.is-0.1 c.in_default.is-1.1, c.lesser.ensures.1)
