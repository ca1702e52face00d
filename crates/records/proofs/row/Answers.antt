-- `records::row` meets its contract: nine numbers over zeros. Assumes nothing.
use Rattle.records.specs.Record.{row_in}
use Rattle.records.proofs.row.Goals as goal

pub returns : goal.returns
unfolding row_in
returns c = c.numbers.ensures.places
