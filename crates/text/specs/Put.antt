-- Text put at a place of lent bytes. Assumes nothing.
use Rattle.std.specs.Prelude.{◌≡◌, List, ◌++◌, ℕ, ◌+◌, length, take}
use Rattle.integers.specs.Lists.{overlay}

-- the bytes `out` with the text t at place `at`; before and after it they are what they were
unfoldable pub put_at : ℕ → List ℕ → List ℕ → List ℕ
put_at at t out = overlay (take at out ++ t) out

-- t is put at place `at`, and the place after it is told
pub record PutText (t : List ℕ) (at : ℕ) (out out' : List ℕ) (r : ℕ) : Type 0 where
  pub after : r ≡ at + length t
  pub bytes : out' ≡ put_at at t out
