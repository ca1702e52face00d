-- A name, a number in decimal and an end as text, put on the front of lent bytes. Assumes nothing.
use Rattle.std.specs.Prelude.{◌≡◌, cond, List, ◌++◌, ℕ, ltb, length}
use Rattle.io.specs.Counts.{IsPrefixLen}
use Rattle.integers.specs.Lists.{overlay}
use Rattle.text.specs.Text.{decimal}

abbrev pub text_of : List ℕ → ℕ → List ℕ → List ℕ
text_of name n end = name ++ decimal n ++ end

-- where the text does not fit, 0 is told and nothing changed. The last line follows from those
-- before it, and says that as many bytes as were told can be lent on
pub record Text (name : List ℕ) (n : ℕ) (end out : List ℕ) (r : ℕ) (out' : List ℕ) : Type 0 where
  pub told : r ≡ cond (ltb (length out) (length (text_of name n end))) 0 (length (text_of name n end))
  pub text : out' ≡ cond (ltb (length out) (length (text_of name n end))) out (overlay (text_of name n end) out)
  pub within : IsPrefixLen r out'
