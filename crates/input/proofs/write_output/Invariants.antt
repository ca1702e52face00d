-- `input::write_output`: what is written lies within the text. Assumes nothing.
use Rattle.std.proofs.Common.{◌≤◌, length}
use Rattle.input.proofs.write_output.Given as goal

abbrev pub invariant-loop : goal.invariant-loop
invariant-loop g l = l.written ≤ length l.text
