-- `boundary_table::bezinkwolu_show_part` meets its contract: the fault and the length of what
-- `show_part` shows, and where that begins. Assumes nothing.
use borrow.Author.Rules.{rules}
use Rattle.boundary_table.proofs.Place.{told_refused, shown_refused, right_kept, left_kept, right_told, left_told}
use Rattle.boundary_table.proofs.bezinkwolu_show_part.Goals as goal

pub returns-then-fault-ne0 : goal.returns-then-fault-ne0
returns-then-fault-ne0 c = let e = c.show_part-part.ensures.told in
    (told_refused _ _ _ _ _ _ e c.if-fault-ne0.true, shown_refused _ _ _ _ _ _ e c.if-fault-ne0.true)

pub first_number-requires : goal.first_number-requires
first_number-requires c = right_kept _ _ _ _ _ _ c.show_part-part.ensures.told c.if-fault-ne0.false c.if-right.true

pub returns-then-right : goal.returns-then-right
returns-then-right c = let s = c.show_part-part.ensures in
    right_told _ _ _ _ _ _ s.told c.if-fault-ne0.false s.shown c.if-right.true c.first_number.ensures

pub first_number-requires-2 : goal.first_number-requires-2
first_number-requires-2 c = left_kept _ _ _ _ _ _ c.show_part-part.ensures.told c.if-fault-ne0.false c.if-right.false

pub returns : goal.returns
returns c = let s = c.show_part-part.ensures in
    left_told _ _ _ _ _ _ s.told c.if-fault-ne0.false s.shown c.if-right.false c.first_number-2.ensures
