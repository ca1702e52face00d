-- `mesh_neighbors::earlier_of` meets its contract: the tests of `earlier`, and no fault has the
-- number 0. Assumes nothing.
use mathlib.Core.Path.{◌≡◌, sym, ◌∙◌, ap}
use Rattle.std.specs.Prelude.{Result, Ok, Err}
use Prim.Native.Nat.{ℕ, ◌<◌, ◌≤◌}
use native.Mathlib.Omega.{arith}
use borrow.Author.Rules.{rules}
use borrow.Author.Tests.{ne_eqb, lt-ltb, le-ltb}
use Rattle.faults.specs.declared.Fault.{Fault}
use Rattle.faults.specs.Told.{number, told}
use Rattle.faults.proofs.Numbers.{number_above}
use Rattle.mesh_neighbors.specs.Earliest.{earlier}
use Rattle.mesh_neighbors.proofs.earlier_of.Goals as goal

some : (f : Fault) → number f ≡ 0 → ⊥
some f e = absurd (omega (arith, e, number_above f))

first : (f g : Fault) → number f < number g → number f ≡ earlier (number f) (number g)
unfolding earlier
first f g h = rw (ne_eqb _ 0 (some f), ne_eqb _ 0 (some g), lt-ltb _ _ h)

second : (f g : Fault) → number g ≤ number f → number g ≡ earlier (number f) (number g)
unfolding earlier
second f g h = rw (ne_eqb _ 0 (some f), ne_eqb _ 0 (some g), le-ltb _ _ h)

left : {a : Result (Unit {0}) Fault} (b : Result (Unit {0}) Fault) {x : Unit {0}} → a ≡ Ok x → told b ≡ earlier (told a) (told b)
unfolding earlier
left b e = rw e

right : (a : Result (Unit {0}) Fault) {b : Result (Unit {0}) Fault} {x : Unit {0}} → b ≡ Ok x → told a ≡ earlier (told a) (told b)
unfolding earlier
right (Ok y) h = rw h
right (Err f) h = rw (h, ne_eqb _ 0 (some f))

pub returns-then-number : goal.returns-then-number
returns-then-number c = first c.in-Err-Err.f c.in-Err-Err.g (omega (arith, c.if-number.true, c.number.ensures, c.number-in-Err-Err.ensures)) ∙ (λ i. earlier (told (sym c.in-Err-Err.is-0 i)) (told (sym c.in-Err-Err.is-1 i)))

pub returns-else-number : goal.returns-else-number
returns-else-number c = second c.in-Err-Err.f c.in-Err-Err.g (omega (arith, c.if-number.false, c.number.ensures, c.number-in-Err-Err.ensures)) ∙ (λ i. earlier (told (sym c.in-Err-Err.is-0 i)) (told (sym c.in-Err-Err.is-1 i)))

pub returns-in-Ok-default : goal.returns-in-Ok-default
returns-in-Ok-default c = left c.args.b c.in-Ok-default.is-0

pub returns-in_default-Ok : goal.returns-in_default-Ok
returns-in_default-Ok c = right c.args.a c.in_default-Ok.is-1
