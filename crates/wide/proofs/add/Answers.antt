-- `wide::add` meets its contract: magnitudes of one sign are added, those of two signs taken from
-- each other. Assumes nothing.
use mathlib.Core.Path.{◌≡◌, refl, sym, ◌∙◌, ap}
use mathlib.Core.Bool.{Bool, true, false, not, beq}
use Prim.Native.Nat.{ℕ, ◌+◌}
use lib.IntN.{ℤ, ◌+ℤ◌}
use Rattle.integers.proofs.Tests.{differ}
use Rattle.wide.specs.Words.{signed, magnitude}
use Rattle.wide.proofs.Signs.{sum_same}
use Rattle.wide.proofs.add.Goals as goal

same : (s t : Bool) → beq s t ≡ true → s ≡ t
same true true h = refl
same true false h = differ h
same false true h = differ h
same false false h = refl

other : (s t : Bool) → beq s t ≡ false → not s ≡ t
other true true h = differ (sym h)
other true false h = refl
other false true h = refl
other false false h = differ (sym h)

one_sign : (s t : Bool) {k : ℕ} (m n : ℕ) → beq s t ≡ true → k ≡ m + n → signed s k ≡ signed s m +ℤ signed t n
one_sign s t {k} m n h e = sum_same k m n s e ∙ ap (λ b. signed s m +ℤ signed b n) (same s t h)

two_signs : (s t : Bool) {v : ℤ} (m n : ℕ) → beq s t ≡ false → v ≡ signed s m +ℤ signed (not s) n → v ≡ signed s m +ℤ signed t n
two_signs s t m n h e = e ∙ ap (λ b. signed s m +ℤ signed b n) (other s t h)

pub returns-then-a-b : goal.returns-then-a-b
returns-then-a-b c = one_sign c.args.a.negative c.args.b.negative (magnitude c.args.a.words) (magnitude c.args.b.words) c.if-a-b.true c.add_magnitudes.ensures
