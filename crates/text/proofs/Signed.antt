-- Signed numbers and corners as text, as code puts them: a number z that code reads back as u. In
-- order: below 0 and not (`signed_below`, `signed_above`); a corner's length (`corner_length`) and
-- its three pieces (`corner_pieces`). Assumes nothing.
use mathlib.Core.Path.{◌≡◌, refl, sym, ◌∙◌, ap, ap₂}
use mathlib.Core.Bool.{true, false}
use mathlib.Core.List.{List, [], ◌∷◌, ◌++◌}
use Prim.Native.Nat.{ℕ, ◌+◌, ◌≤◌}
use native.Mathlib.Omega.{arith}
use lib.IntN.{ℤ, pos, negsuc, nat_abs}
use lib.ListN.{length, length-append}
use lib.Signed.{lt_z}
use Rattle.integers.proofs.Tests.{differ, zneeds}
use Rattle.text.specs.Text.{decimal, signed_decimal, corner_text}
use Rattle.text.specs.Put.{PutText}
use Rattle.text.proofs.Puts.{put_after_lem, put_as}

below : (z : ℤ) → lt_z z (pos 0) ≡ true → signed_decimal z ≡ (45 ∷ []) ++ decimal (nat_abs z)
unfolding signed_decimal
below (pos n) h = absurd (omega (zneeds, h))
below (negsuc n) h = refl

above : (z : ℤ) → lt_z z (pos 0) ≡ false → signed_decimal z ≡ decimal (nat_abs z)
unfolding signed_decimal
above (pos n) h = refl
above (negsuc n) h = differ (sym h)

module _ {u z : ℤ} (e : u ≡ z) {m : ℕ} (f : m ≡ nat_abs u) where
  pub signed_below : lt_z u (pos 0) ≡ true → (45 ∷ []) ++ decimal m ≡ signed_decimal z
  signed_below h = ap (λ n. (45 ∷ []) ++ decimal n) f ∙ sym (below u h) ∙ ap signed_decimal e

  pub signed_above : lt_z u (pos 0) ≡ false → decimal m ≡ signed_decimal z
  signed_above h = ap (λ n. decimal n) f ∙ sym (above u h) ∙ ap signed_decimal e

module _ {u x v y : ℤ} (e : u ≡ x) (f : v ≡ y) where
  pub corner_length : length (corner_text (record { x = x; y = y })) ≡ length (signed_decimal u) + length (signed_decimal v) + 4
  unfolding corner_text
  corner_length = rw (e, f) (simp length-append (omega arith))

  pub corner_pieces :
      {at a b r : ℕ} {o o₁ o₂ o₃ : List ℕ} → at ≤ length o →
      PutText ((32 ∷ 40 ∷ []) ++ signed_decimal u) at o o₁ a → PutText ((44 ∷ []) ++ signed_decimal v) a o₁ o₂ b → PutText (41 ∷ []) b o₂ o₃ r →
      PutText (corner_text (record { x = x; y = y })) at o o₃ r
  unfolding corner_text
  corner_pieces h p q s =
      put_as (ap₂ (λ m n. (32 ∷ 40 ∷ signed_decimal m) ++ (44 ∷ signed_decimal n) ++ (41 ∷ [])) e f) (put_after_lem h (put_after_lem h p q) s)
