-- `direction_keys::key_of` meets its contract: its quarter and its extents are those of
-- `turned_back`. Assumes nothing.
use mathlib.Core.Path.{◌≡◌, refl, sym, ◌∙◌, ap, subst}
use mathlib.Core.Bool.{Bool, true, false, cond}
use Prim.Native.Nat.{ℕ, ◌+◌, ◌<◌}
use native.Mathlib.Omega.{arith}
use lib.IntN.{pos, nat_abs}
use lib.Signed.{lt_z}
use Rattle.plane.specs.Plane.{lower}
use Rattle.plane.specs.declared.IntVector.{IntVector}
use Rattle.plane.specs.Machine.{Short, vector}
use Rattle.plane.specs.Halves.{Nz}
use Rattle.direction_keys.specs.Keys.{turned_as, turned_back, key_of, key}
use Rattle.direction_keys.proofs.Quarters.{turns, along_some}
use Rattle.direction_keys.proofs.Compare.{key_most}
use Rattle.direction_keys.proofs.Selects.{read, turned_by}
use Rattle.direction_keys.proofs.key_of.Goals as goal

-- at most three turns
few : (low first : Bool) {m n : ℕ} → m ≡ cond low 2 0 → n ≡ cond first 0 1 → m + n < 4
few true true e f = omega arith
few true false e f = omega arith
few false true e f = omega arith
few false false e f = omega arith

-- a short nonzero vector, its extents as the code has them, and the code's tests and numbers
module _
    {v : IntVector} (s : Short v) (nz : Nz (vector v)) {w h : ℕ} {low first : Bool} {m n c d : ℕ} (ew : (w ≡ nat_abs v.x) × (w < 2147483648)) (eh : (h ≡ nat_abs v.y) × (h < 2147483648))
    (el : low ≡ lower (vector v)) (ef : first ≡ cond low (lt_z v.x (pos 0)) (lt_z (pos 0) v.x)) (em : m ≡ cond low 2 0) (en : n ≡ cond first 0 1) (ec : c ≡ cond first w h) (ed : d ≡ cond first h w) where
  is_turned : turned_back (vector v) ≡ turned_as (m + n) c d
  is_turned = turned_by (vector v) ew.0 eh.0 el ef ∙ sym (λ i. turned_as (em i + en i) (ec i) (ed i))

  small : (first : Bool) {r x y : ℕ} → r ≡ cond first x y → x < 2147483648 → y < 2147483648 → r < 2147483648
  small true e h k = omega arith
  small false e h k = omega arith

  pub askable : (m + n < 4) × (0 < c) × (c < 2147483648) × (d < 2147483648)
  askable = (few low first em en, subst (λ t. 0 < t.along) is_turned (along_some (turns nz)), small first ec ew.1 eh.1, small first ed eh.1 ew.1)

  pub is_key : {r : ℕ} → r ≡ key_of (turned_as (m + n) c d) → (r ≡ key (vector v)) × (r < 9223372036854775808)
  is_key {r} e = (told, omega (arith, told, key_most nz (omega (arith, s.x_small.abs)) (omega (arith, s.y_small.abs))))
    where
      same : key_of (turned_back (vector v)) ≡ key (vector v)
      same = unfold key in refl

      told : r ≡ key (vector v)
      told = e ∙ sym (ap key_of is_turned) ∙ same

pub returns : goal.returns
returns c = let s = c.requires.0 in
    let wide = c.unsigned_abs-wide.ensures.value ∙ ap nat_abs (read s.x_small) in
    let high = c.unsigned_abs-high.ensures.value ∙ ap nat_abs (read s.y_small) in
    is_key s c.requires.1 (wide, omega (arith, wide, s.x_small.abs)) (high, omega (arith, high, s.y_small.abs))
    c.below-low.ensures c.level-first.ensures c.pick.ensures c.pick-2.ensures c.pick-3.ensures c.pick-4.ensures c.key_turned.ensures
