-- What the digits of a number denote ("a law over `digits`, not only that its fuel suffices").
-- Proved in proofs/Denotes.antt. Assumes nothing.
use Rattle.std.specs.Prelude.{◌≡◌, List, [], ◌∷◌, ℕ, ◌+◌, ◌-◌, ◌*◌, ◌^◌, ◌≤◌, ◌<◌, length, get_or}
use Rattle.integers.specs.Lists.{All}
use Rattle.text.specs.Text.{decimal}

-- the bytes read as base ten, after those that gave v
unfoldable pub value_from : ℕ → List ℕ → ℕ
value_from v [] = v
value_from v (b ∷ t) = value_from (10 * v + (b - 48)) t

abbrev pub value_of : List ℕ → ℕ
value_of t = value_from 0 t

-- '0' to '9'
abbrev pub IsDigit : ℕ → Type 0
IsDigit b = (48 ≤ b) × (b ≤ 57)

-- t is n in base ten: there is a digit, and the first is 0 only where it is the only one (so n is
-- below 10 there)
pub record Denotes (n : ℕ) (t : List ℕ) : Type 0 where
  pub value : value_of t ≡ n
  pub digit : All IsDigit t
  pub some : 0 < length t
  pub lead : 1 < length t → 48 < get_or t 0 0

abbrev pub DecimalDenotes : Type 0
DecimalDenotes = (n : ℕ) → n < 10 ^ 20 → Denotes n (decimal n)
