-- A key without a branch: the sign of both extents in one number (`sign_lower`), a key by the
-- lesser extent and the greater (`key_picked`), and the quarter of a vector by two tests
-- (`turned_by`). Assumes nothing.
use mathlib.Core.Path.{◌≡◌, refl, sym, ap}
use mathlib.Core.Bool.{Bool, true, false, cond}
use Prim.Native.Nat.{ℕ, ◌+◌, ◌*◌, ◌-◌, ◌≤◌, ◌<◌}
use native.Mathlib.Omega.{arith}
use lib.Dec.{ltb}
use lib.IntN.{ℤ, pos, nat_abs, ◌+ℤ◌, ◌*ℤ◌}
use lib.Signed.{lt_z, ◌<ℤ◌, ◌≤ℤ◌}
use mir.Syntax.{w64}
use mir.Val.{SFits, to_z, of_z}
use borrow.Author.Tests.{ltb-true, ltb-false}
use Rattle.integers.proofs.Order.{zarith, Compared, compared, less, same, more, add_parts, mul_parts}
use Rattle.integers.proofs.Sizes.{abs_parts}
use Rattle.integers.proofs.Tests.{<-lt_z, ≤-lt_z}
use Rattle.integers.proofs.Bits.{kept, fits_size}
use Rattle.plane.specs.Plane.{Pt, lower}
use Rattle.plane.specs.Machine.{Extent}
use Rattle.direction_keys.specs.Keys.{one, fraction, turned_as, turned_back, key_of}

-- a short number is read back as it was
pub read : {z : ℤ} → Extent z → to_z w64 (of_z w64 z) ≡ z
read {z = z} e = kept {w = w64} {z = z} (fits_size (omega (arith, e.abs)))

-- ---- the sign of both extents

abbrev pub sign_of : ℤ → ℤ → ℤ
sign_of y x = y *ℤ pos 4294967296 +ℤ x

module _ {x y : ℤ} (h : Extent x) (k : Extent y) where
  pub scaled_fits : SFits w64 (y *ℤ pos 4294967296)
  scaled_fits = fits_size (omega (arith, k.abs, abs_parts (y *ℤ pos 4294967296), abs_parts y, mul_parts y (pos 4294967296)))

  pub sign_fits : SFits w64 (sign_of y x)
  sign_fits =
      fits_size (omega (arith, h.abs, k.abs, abs_parts (sign_of y x), abs_parts x, abs_parts y, abs_parts (y *ℤ pos 4294967296), mul_parts y (pos 4294967296), add_parts (y *ℤ pos 4294967296) x))

  -- below 0 exactly in the lower half
  pub sign_lower : lt_z (sign_of y x) (pos 0) ≡ lower (record { x = x; y = y })
  unfolding lower
  sign_lower = by (compared y (pos 0))
    where
      down : y <ℤ pos 0 → sign_of y x <ℤ pos 0
      down l = omega (zarith, l, h.abs, abs_parts x, mul_parts y (pos 4294967296), add_parts (y *ℤ pos 4294967296) x)

      up : pos 0 <ℤ y → pos 0 ≤ℤ sign_of y x
      up l = omega (zarith, l, h.abs, abs_parts x, mul_parts y (pos 4294967296), add_parts (y *ℤ pos 4294967296) x)

      alone : y ≡ pos 0 → sign_of y x ≡ x
      alone e = omega (zarith, e, mul_parts y (pos 4294967296), add_parts (y *ℤ pos 4294967296) x)

      by : Compared y (pos 0) → lt_z (sign_of y x) (pos 0) ≡ cond (lt_z y (pos 0)) true (cond (lt_z (pos 0) y) false (lt_z x (pos 0)))
      by (less l) = rw (<-lt_z (down l), <-lt_z l)
      by (same e) = rw (alone e, e)
      by (more l) = rw (≤-lt_z (up l), ≤-lt_z {x = y} {y = pos 0} (omega (zarith, l)), <-lt_z l)

-- ---- a key by the lesser extent and the greater

module _ (q c d : ℕ) where
  abbrev lesser : ℕ
  lesser = cond (ltb c d) c d

  abbrev greater : ℕ
  greater = cond (ltb c d) d c

  pub key_picked : {r : ℕ} → r ≡ fraction lesser greater → r ≤ one → cond (ltb c d) (2 * q * one + 2 * one - r) (2 * q * one + r) ≡ key_of (turned_as q c d)
  key_picked {r} e h = by (ltb c d) e
    where
      by : (t : Bool) → r ≡ fraction (cond t c d) (cond t d c) → cond t (2 * q * one + 2 * one - r) (2 * q * one + r) ≡ cond t ((2 * q + 2) * one - fraction c d) (2 * q * one + fraction d c)
      by true e = rw (sym e) (omega arith)
      by false e = ap (λ r. 2 * q * one + r) e

  pub picked : 0 < c → c < 2147483648 → d < 2147483648 → (0 < greater) × (lesser ≤ greater) × (greater < 2147483648)
  picked h k l = by (ltb c d) (ltb-true c d) (ltb-false c d)
    where
      by : (t : Bool) → (t ≡ true → c < d) → (t ≡ false → d ≤ c) → (0 < cond t d c) × (cond t c d ≤ cond t d c) × (cond t d c < 2147483648)
      by true m n = (omega (arith, m refl), omega (arith, m refl), l)
      by false m n = (h, n refl, k)

-- ---- the quarter of a vector by two tests: whether it lies in the lower half, and whether it
-- points to the side that comes first there

pub turned_by :
    (v : Pt) {w h : ℕ} {low first : Bool} → w ≡ nat_abs v.x → h ≡ nat_abs v.y → low ≡ lower v → first ≡ cond low (lt_z v.x (pos 0)) (lt_z (pos 0) v.x) →
    turned_back v ≡ turned_as (cond low 2 0 + cond first 0 1) (cond first w h) (cond first h w)
unfolding turned_back
turned_by v {low = true} {first = true} ew eh el ef = rw (sym el, sym ef, ew, eh)
turned_by v {low = true} {first = false} ew eh el ef = rw (sym el, sym ef, ew, eh)
turned_by v {low = false} {first = true} ew eh el ef = rw (sym el, sym ef, ew, eh)
turned_by v {low = false} {first = false} ew eh el ef = rw (sym el, sym ef, ew, eh)
