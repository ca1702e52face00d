-- `walk_extremes::below` meets its contract: the code's tests are the definition's, each field read
-- back as it was. Assumes nothing.
use mathlib.Core.Path.{◌≡◌}
use mathlib.Core.Bool.{Bool, true, false}
use lib.IntN.{ℤ}
use lib.Signed.{lt_z}
use mir.Syntax.{w32}
use mir.Val.{SFits, to_z, of_z}
use Rattle.integers.proofs.Bits.{kept}
use Rattle.plane.specs.Plane.{Pt}
use Rattle.pair.specs.Walk.{below}
use borrow.Author.Rules.{rules}
use Rattle.walk_extremes.proofs.below.Goals as goal

-- a test of two fields as the machine holds them
held : {a b : ℤ} {t : Bool} → SFits w32 a → SFits w32 b → lt_z (to_z w32 (of_z w32 a)) (to_z w32 (of_z w32 b)) ≡ t → lt_z a b ≡ t
held f g e = rw (kept f, kept g) at e

module _ {p q : Pt} (px : SFits w32 p.x) (py : SFits w32 p.y) (qx : SFits w32 q.x) (qy : SFits w32 q.y) where
  abbrev machine : ℤ → ℤ
  machine z = to_z w32 (of_z w32 z)

  lower : lt_z (machine p.y) (machine q.y) ≡ true → true ≡ below p q
  unfolding below
  lower h = rw (held py qy h)

  higher : lt_z (machine p.y) (machine q.y) ≡ false → lt_z (machine q.y) (machine p.y) ≡ true → false ≡ below p q
  unfolding below
  higher h k = rw (held py qy h, held qy py k)

  level : lt_z (machine p.y) (machine q.y) ≡ false → lt_z (machine q.y) (machine p.y) ≡ false → lt_z (machine p.x) (machine q.x) ≡ below p q
  unfolding below
  level h k = rw (held py qy h, held qy py k, kept px, kept qx)

pub returns-then-p-q : goal.returns-then-p-q
returns-then-p-q c = lower (search rules) (search rules) (search rules) (search rules) c.if-p-q.true

pub returns-then-q-p : goal.returns-then-q-p
returns-then-q-p c = higher (search rules) (search rules) (search rules) (search rules) c.if-p-q.false c.if-q-p.true

pub returns : goal.returns
returns c = level (search rules) (search rules) (search rules) (search rules) c.if-p-q.false c.if-q-p.false
