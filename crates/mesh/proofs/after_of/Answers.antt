-- `mesh::after_of` meets its contract. Assumes nothing.
use mathlib.Core.Path.{◌≡◌, refl, sym, ap}
use Prim.Native.Nat.{ℕ, zero, suc, ◌<◌}
use native.Mathlib.Omega.{arith}
use Rattle.mesh.specs.Mesh.{after}
use Rattle.mesh.proofs.after_of.Goals as goal

last : (i : ℕ) → (i ≡ 0 → ⊥) → (i ≡ 1 → ⊥) → ◌≡◌ {A = ℕ} 0 (after i)
unfolding after
last zero h k = absurd (h refl)
last (suc zero) h k = absurd (k refl)
last (suc (suc i)) h k = refl

pub returns-then-i-eq0 : goal.returns-then-i-eq0
unfolding after
returns-then-i-eq0 c = (ap after (sym c.if-i-eq0.true), omega arith)

pub returns-then-i-eq1 : goal.returns-then-i-eq1
unfolding after
returns-then-i-eq1 c = (ap after (sym c.if-i-eq1.true), omega arith)

pub returns : goal.returns
returns c = (last _ c.if-i-eq0.false c.if-i-eq1.false, omega arith)
