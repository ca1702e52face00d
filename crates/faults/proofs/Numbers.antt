-- Faults and their numbers: each is that of its own number, and what is judged is known by the
-- number that is told of it. Assumes nothing.
use Rattle.std.specs.Prelude.{ℕ, Result, ◌≡◌, ◌<◌, refl, Ok, Err}
use Rattle.std.proofs.Common.{sym, ◌∙◌, ap, arith}
use Rattle.faults.specs.declared.Fault.{Fault}
use Rattle.faults.specs.declared.Fault.TheVariants as fault
use Rattle.faults.specs.Told.{number, told, numbered, judged}

pub numbered_number : (f : Fault) → numbered (number f) ≡ f
unfolding numbered
numbered_number fault.Triangles = refl
numbered_number fault.Range = refl
numbered_number fault.Stray = refl
numbered_number fault.Naming = refl
numbered_number fault.Edge = refl
numbered_number fault.Flat = refl
numbered_number fault.Rules = refl
numbered_number fault.Winding = refl
numbered_number fault.Bounds = refl
numbered_number fault.Result = refl
numbered_number fault.Total = refl
numbered_number fault.Part = refl
numbered_number fault.File = refl
numbered_number fault.Path = refl
numbered_number fault.Empty = refl
numbered_number fault.CornerRoom = refl
numbered_number fault.StartRoom = refl
numbered_number fault.Place = refl

-- a fault answers what a number other than 0 judges
pub judged_err : {T : Type 0} (x : T) (f : Fault) → Err f ≡ judged (number f) x
unfolding numbered
judged_err x fault.Triangles = refl
judged_err x fault.Range = refl
judged_err x fault.Stray = refl
judged_err x fault.Naming = refl
judged_err x fault.Edge = refl
judged_err x fault.Flat = refl
judged_err x fault.Rules = refl
judged_err x fault.Winding = refl
judged_err x fault.Bounds = refl
judged_err x fault.Result = refl
judged_err x fault.Total = refl
judged_err x fault.Part = refl
judged_err x fault.File = refl
judged_err x fault.Path = refl
judged_err x fault.Empty = refl
judged_err x fault.CornerRoom = refl
judged_err x fault.StartRoom = refl
judged_err x fault.Place = refl

-- the same of a number that is known to be the fault's
pub judged_by : {T : Type 0} (x : T) {f : Fault} {n : ℕ} → number f ≡ n → Err f ≡ judged n x
judged_by x {f} e = judged_err x f ∙ ap (λ n. judged n x) e

-- and of 0
pub judged_ok : {T : Type 0} (x : T) {n : ℕ} → n ≡ 0 → Ok x ≡ judged n x
judged_ok x e = ap (λ n. judged n x) (sym e)

-- no fault has the number 0
pub number_above : (f : Fault) → 0 < number f
number_above fault.Triangles = omega arith
number_above fault.Range = omega arith
number_above fault.Stray = omega arith
number_above fault.Naming = omega arith
number_above fault.Edge = omega arith
number_above fault.Flat = omega arith
number_above fault.Rules = omega arith
number_above fault.Winding = omega arith
number_above fault.Bounds = omega arith
number_above fault.Result = omega arith
number_above fault.Total = omega arith
number_above fault.Part = omega arith
number_above fault.File = omega arith
number_above fault.Path = omega arith
number_above fault.Empty = omega arith
number_above fault.CornerRoom = omega arith
number_above fault.StartRoom = omega arith
number_above fault.Place = omega arith

-- so a number that is a fault's is not 0
pub not_0 : {n : ℕ} (f : Fault) → n ≡ number f → n ≡ 0 → ⊥
not_0 f e z = absurd (omega (arith, e, z, number_above f))
