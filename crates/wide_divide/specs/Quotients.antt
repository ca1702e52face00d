-- Quotients of naturals, as the code answers them. Assumes nothing.
use Rattle.std.specs.Prelude.{◌≡◌, ℕ, ◌+◌, ◌*◌, ◌/◌, ◌^◌, ◌≤◌, ◌<◌}
use Rattle.wide_divide.specs.declared.Quotient.{Quotient}

-- n = quotient · d + remainder, with a remainder below d
pub record Divided (n d : ℕ) (q : Quotient) : Type 0 where
  pub whole : q.quotient * d + q.remainder ≡ n
  pub rest : q.remainder < d

-- d doubled s times has the top bit of a word
pub record Normal (d s : ℕ) : Type 0 where
  pub short : s < 64
  pub top : 2 ^ 63 ≤ d * 2 ^ s
  pub word : d * 2 ^ s < 2 ^ 64

-- n / d to nearest, a half up
abbrev pub nearest : ℕ → ℕ → ℕ
nearest n d = (2 * n + d) / (2 * d)
