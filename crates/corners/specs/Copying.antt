-- Corners copied from one list into another. Assumes nothing.
use Rattle.std.specs.Prelude.{◌≡◌, List, ◌++◌, ℕ, ◌*◌, length, take, ℤ}
use Rattle.integers.specs.Lists.{overlay}

-- the first i numbers of `from` were put after the first `at` corners, whatever those are
pub record Copied (from : List ℤ) (at i : ℕ) (out out' : List ℤ) : Type 0 where
  pub size : length out' ≡ length out
  pub written : (front old : List ℤ) → length front ≡ 2 * at → out ≡ overlay front old → out' ≡ overlay (front ++ take i from) old
