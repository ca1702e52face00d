-- Words put at a place of lent words, where what was read is right. Past them nothing is said: they
-- are work. Assumes nothing.
use Rattle.std.specs.Prelude.{◌≡◌, Bool, true, List, ◌++◌, ℕ, ◌+◌, length, take}

-- t tells whether it was right; where it was, `new` begins with what `old` had before `at` and then
-- ws
pub record Put (t : Bool) (ws : List ℕ) (at : ℕ) (old new : List ℕ) (r : Bool) : Type 0 where
  pub answer : r ≡ t
  pub front : t ≡ true → take (at + length ws) new ≡ take at old ++ ws
  pub as_many : length new ≡ length old
