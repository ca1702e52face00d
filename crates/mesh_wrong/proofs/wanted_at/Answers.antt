-- `mesh_wrong::wanted_at` meets its contract, arm by arm. Assumes nothing.
use borrow.Author.Rules.{rules}
use Rattle.mesh_wrong.proofs.Wants.{name_wanted, limit_wanted, split_wanted, head_ends, point_wanted, neighbour_wanted, triangle_ends}
use Rattle.mesh_wrong.proofs.wanted_at.Goals as goal

pub returns-in-0-eq0 : goal.returns-in-0-eq0
returns-in-0-eq0 c = name_wanted (search rules) (search rules)

pub returns-in-0-eq1 : goal.returns-in-0-eq1
returns-in-0-eq1 c = limit_wanted (search rules) (λ q. search rules) (search rules)

pub returns-in-0-eq2 : goal.returns-in-0-eq2
returns-in-0-eq2 c = split_wanted (search rules) (λ q. search rules) (λ q. search rules) (search rules)

pub returns-in-0-default : goal.returns-in-0-default
returns-in-0-default c = head_ends (search rules) (λ q. search rules) (λ q. search rules) (λ q. search rules)

pub returns-in-0-default-2 : goal.returns-in-0-default-2
returns-in-0-default-2 c = head_ends (search rules) (λ q. search rules) (λ q. search rules) (λ q. search rules)

pub returns-in_default-0-to-2 : goal.returns-in_default-0-to-2
returns-in_default-0-to-2 c = point_wanted (λ q. search rules) (search rules)

pub returns-in_default-3-to-5 : goal.returns-in_default-3-to-5
returns-in_default-3-to-5 c = neighbour_wanted (λ q. search rules) (search rules) (search rules)

pub returns-in_default : goal.returns-in_default
returns-in_default c = triangle_ends (λ q. search rules) (search rules) (search rules)
