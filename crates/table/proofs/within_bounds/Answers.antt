-- `table::within_bounds` meets its contract: the four tests in turn. Assumes nothing.
use mathlib.Core.Path.{◌≡◌, refl, ◌∙◌, ap}
use mathlib.Core.Bool.{Bool, true, false, cond}
use borrow.Author.Rules.{rules}
use lib.IntN.{ℤ}
use lib.Signed.{le_z}
use mir.Syntax.{w32}
use mir.Val.{SFits, to_z, of_z}
use Rattle.integers.proofs.Bits.{kept}
use Rattle.table.specs.declared.IntRect.{IntRect}
use Rattle.table.specs.Table.{within_bounds}
use Rattle.table.proofs.within_bounds.Goals as goal
use Rattle.table.proofs.within_bounds.Goals.{then-bounds-p, else-bounds-p, then-p-bounds, else-p-bounds}

-- an operand as the machine holds it
abbrev held : ℤ → ℤ
held z = to_z w32 (of_z w32 z)

-- v is a and b
passed : {a v : Bool} (b : Bool) → a ≡ true → v ≡ b → v ≡ cond a b false
passed b e f = rw e f

failed : {a v : Bool} (b : Bool) → a ≡ false → v ≡ a → v ≡ cond a b false
failed b e f = f ∙ e ∙ rw e

all_four : (a b c d : Bool) → cond (cond (cond a b false) c false) d false ≡ cond a (cond b (cond c d false) false) false
all_four true true c d = refl
all_four true false c d = refl
all_four false b c d = refl

tests : (b : IntRect) (x y : ℤ) {v w r : Bool} → SFits w32 x → SFits w32 y → SFits w32 b.min_x → SFits w32 b.max_x → SFits w32 b.min_y → SFits w32 b.max_y
    → v ≡ cond (le_z (held b.min_x) (held x)) (le_z (held x) (held b.max_x)) false → w ≡ cond v (le_z (held b.min_y) (held y)) false
    → r ≡ cond w (le_z (held y) (held b.max_y)) false → r ≡ within_bounds b (record { x = x; y = y })
unfolding within_bounds
tests b x y fx fy f₁ f₂ f₃ f₄ e f g =
    g ∙ ap (λ t. cond t (le_z (held y) (held b.max_y)) false) (f ∙ ap (λ t. cond t (le_z (held b.min_y) (held y)) false) e)
    ∙ all_four (le_z (held b.min_x) (held x)) (le_z (held x) (held b.max_x)) (le_z (held b.min_y) (held y)) (le_z (held y) (held b.max_y))
    ∙ rw (kept fx, kept fy, kept f₁, kept f₂, kept f₃, kept f₄)

pub returns-then-bounds-p-2 : goal.returns-then-bounds-p-2
returns-then-bounds-p-2 c = tests c.args.bounds c.args.p.x c.args.p.y (search rules) (search rules) (search rules) (search rules) (search rules) (search rules)
    (elim c.if-bounds-p.branch [ then-bounds-p w ↦ passed _ w.if-bounds-p.true w.value-is | else-bounds-p w ↦ failed _ w.if-bounds-p.false w.value-is ])
    (elim c.if-p-bounds.branch [ then-p-bounds w ↦ passed _ w.if-p-bounds.true w.value-is | else-p-bounds w ↦ failed _ w.if-p-bounds.false w.value-is ])
    (passed _ c.if-bounds-p-2.true refl)

pub returns-else-bounds-p-2 : goal.returns-else-bounds-p-2
returns-else-bounds-p-2 c = tests c.args.bounds c.args.p.x c.args.p.y (search rules) (search rules) (search rules) (search rules) (search rules) (search rules)
    (elim c.if-bounds-p.branch [ then-bounds-p w ↦ passed _ w.if-bounds-p.true w.value-is | else-bounds-p w ↦ failed _ w.if-bounds-p.false w.value-is ])
    (elim c.if-p-bounds.branch [ then-p-bounds w ↦ passed _ w.if-p-bounds.true w.value-is | else-p-bounds w ↦ failed _ w.if-p-bounds.false w.value-is ])
    (failed _ c.if-bounds-p-2.false refl)
