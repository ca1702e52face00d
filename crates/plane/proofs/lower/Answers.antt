-- `plane::lower` meets its contract: a y that is not below 0 and not 0 is above it. Assumes
-- nothing.
use mathlib.Core.Path.{◌≡◌, refl, sym, ◌∙◌, ap}
use mathlib.Core.Bool.{Bool, true, false}
use Prim.Native.Nat.{zero, suc}
use borrow.Author.Rules.{rules}
use borrow.Author.Tests.{ne_eqb}
use lib.Dec.{eqb}
use lib.IntN.{ℤ, pos, negsuc}
use lib.Signed.{lt_z}
use mir.Syntax.{w64}
use mir.Val.{SFits, to_z, of_z}
use native.Mathlib.Omega.{arith}
use Rattle.integers.proofs.Order.{zarith}
use Rattle.integers.proofs.Tests.{<-lt_z}
use Rattle.integers.proofs.Bits.{kept}
use Rattle.plane.specs.Plane.{Pt, lower}
use Rattle.plane.proofs.lower.Goals as goal

-- a number that is neither below 0 nor 0 is above 0
above : (y : ℤ) → lt_z y (pos 0) ≡ false → (of_z w64 y ≡ 0 → ⊥) → lt_z (pos 0) y ≡ true
above (pos zero) h n = absurd (n refl)
above (pos (suc k)) h n = <-lt_z {x = pos 0} {y = pos (suc k)} (omega (zarith, arith))
above (negsuc k) h n = absurd (let e : ◌≡◌ {A = Bool} true false = sym (<-lt_z {x = negsuc k} {y = pos 0} (omega (zarith, arith))) ∙ h in cc)

module _ {v : Pt} (f : SFits w64 v.x) (g : SFits w64 v.y) where
  abbrev x' : ℤ
  x' = to_z w64 (of_z w64 v.x)

  abbrev y' : ℤ
  y' = to_z w64 (of_z w64 v.y)

  not_below : lt_z y' (pos 0) ≡ false → lt_z v.y (pos 0) ≡ false
  not_below h = ap (λ z. lt_z z (pos 0)) (sym (kept g)) ∙ h

  below : lt_z y' (pos 0) ≡ true → lt_z y' (pos 0) ≡ lower v
  unfolding lower
  below h = h ∙ rw (ap (λ z. lt_z z (pos 0)) (sym (kept g)) ∙ h)

  level : of_z w64 v.y ≡ 0 → lt_z x' (pos 0) ≡ lower v
  unfolding lower
  level e = rw (sym (kept g) ∙ ap (to_z w64) e, kept f)

  over : lt_z y' (pos 0) ≡ false → (of_z w64 v.y ≡ 0 → ⊥) → eqb (of_z w64 v.y) 0 ≡ lower v
  unfolding lower
  over h n = ne_eqb _ 0 n ∙ rw (not_below h, above v.y (not_below h) n)

pub returns-then-v-lt0 : goal.returns-then-v-lt0
returns-then-v-lt0 c = below (search rules) (search rules) c.if-v-lt0.true

pub returns-then-v-eq0 : goal.returns-then-v-eq0
returns-then-v-eq0 c = level (search rules) (search rules) c.if-v-eq0.true

pub returns-else-v-eq0 : goal.returns-else-v-eq0
returns-else-v-eq0 c = over (search rules) (search rules) c.if-v-lt0.false c.if-v-eq0.false
