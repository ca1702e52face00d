-- The first of two walks' faults, where both have one: 8 comes before 20, so the lesser. Assumes
-- nothing.
use Rattle.std.specs.Prelude.{cond, ℕ, ltb}

abbrev pub first_of : ℕ → ℕ → ℕ
first_of f g = cond (ltb g f) g f
