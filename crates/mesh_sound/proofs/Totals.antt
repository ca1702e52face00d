-- What an answer of `add_area` tells of the sum. Assumes nothing.
use mathlib.Core.Path.{◌≡◌, sym, ◌∙◌, ap}
use mathlib.Core.Bool.{cond}
use Prim.Native.Nat.{ℕ}
use native.Mathlib.Omega.{arith}
use lib.IntN.{ℤ, pos}
use lib.Signed.{◌≤ℤ◌, ◌<ℤ◌, lt_z}
use Rattle.integers.proofs.Order.{by_test}
use Rattle.integers.proofs.Tests.{lt_z-≤, lt_z-<}
use Rattle.std.specs.Prelude.{Some, None}
use Rattle.mesh_sound.specs.Totals.{added_of}

pub total_of : {z : ℤ} (n : ℤ) → added_of z ≡ Some n → (n ≡ z) × (z ≤ℤ pos 9223372036854775807)
unfolding added_of
total_of {z} n h =
    by_test (lt_z (pos 9223372036854775807) z)
    (λ e. absurd (let q : None ≡ Some n = sym (ap (λ t. cond t None (Some z)) e) ∙ h in let k : ◌≡◌ {A = ℕ} 0 1 = cc in omega (arith, k)))
    (λ e. ((let q : Some z ≡ Some n = sym (ap (λ t. cond t None (Some z)) e) ∙ h in cc), lt_z-≤ (pos 9223372036854775807) z e))

pub past_of : {z : ℤ} → added_of z ≡ None → pos 9223372036854775807 <ℤ z
unfolding added_of
past_of {z} h =
    by_test (lt_z (pos 9223372036854775807) z) (λ e. lt_z-< (pos 9223372036854775807) z e)
    (λ e. absurd (let q : Some z ≡ None = sym (ap (λ t. cond t None (Some z)) e) ∙ h in let k : ◌≡◌ {A = ℕ} 0 1 = cc in omega (arith, k)))
