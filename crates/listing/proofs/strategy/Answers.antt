-- `listing::strategy` meets its contract: the three cases of its definition. Assumes nothing.
use mathlib.Core.Path.{◌≡◌, refl, sym, ◌∙◌, ap}
use Prim.Native.Nat.{ℕ, zero, suc}
use native.Mathlib.Omega.{arith}
use Rattle.split.specs.declared.ConvexSplitStrategy.TheVariants.{EarClipping, Fan, Centroid}
use Rattle.listing.specs.File.{strategy_of}
use Rattle.listing.proofs.strategy.Goals as goal

ear : EarClipping ≡ strategy_of 0
unfolding strategy_of
ear = refl

fan : Fan ≡ strategy_of 1
unfolding strategy_of
fan = refl

-- neither 0 nor 1
centroid : (n : ℕ) → (n ≡ 0 → ⊥) → (n ≡ 1 → ⊥) → Centroid ≡ strategy_of n
unfolding strategy_of
centroid zero a b = absurd (a refl)
centroid (suc zero) a b = absurd (b refl)
centroid (suc (suc n)) a b = refl

pub returns-in-0 : goal.returns-in-0
returns-in-0 c = ear ∙ ap strategy_of (sym c.in-0.is)

pub returns-in-1 : goal.returns-in-1
returns-in-1 c = fan ∙ ap strategy_of (sym c.in-1.is)

pub returns-in_default : goal.returns-in_default
returns-in_default c = centroid _ (λ e. omega (arith, e)) (λ e. omega (arith, e))
