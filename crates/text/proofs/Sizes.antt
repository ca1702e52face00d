-- How long numbers and corners are as text. In order: a number (`decimal_size`, and `decimal_below`
-- where it is below a power of ten), a signed one of 32 bits (`signed_size`), a corner
-- (`corner_size`) and corners (`corners_size`). Assumes nothing.
use mathlib.Core.Path.{ap}
use mathlib.Core.List.{List, [], ◌∷◌}
use Prim.Native.Nat.{ℕ, zero, suc, ◌+◌, ◌*◌, ◌^◌, ◌/◌, ◌%◌, ◌≤◌, ◌<◌}
use native.Mathlib.Omega.{arith}
use borrow.Author.Tests.{ltb-false}
use lib.Dec.{ltb}
use lib.IntN.{ℤ, pos, negsuc}
use lib.ListN.{length, length-append}
use mir.Syntax.{w32}
use mir.Val.{SFits}
use Rattle.integers.specs.Lists.{All}
use Rattle.integers.proofs.Order.{by_test}
use Rattle.plane.specs.Plane.{Pt}
use Rattle.text.specs.Text.{digits, decimal, signed_decimal, corner_text, corners_text}
use Rattle.text.proofs.Digits.{tenth}
use Rattle.text.proofs.Corners.{corners_none, corners_more}

-- no more digits than the fuel
digits_size : (k n : ℕ) (t : List ℕ) → length (digits k n t) ≤ k + length t
unfolding digits
digits_size zero n t = omega arith
digits_size (suc k) n t = by_test (ltb n 10) (λ e. rw e (omega arith)) (λ e. rw e (omega (arith, digits_size k (n / 10) ((48 + n % 10) ∷ t))))

-- no more than the power of ten that it is below
digits_below : (j k : ℕ) {n : ℕ} (t : List ℕ) → n < 10 ^ suc k → length (digits j n t) ≤ suc k + length t
unfolding digits
digits_below zero k t h = omega arith
digits_below (suc j) zero {n} t h = by_test (ltb n 10) (λ e. rw e (omega arith)) (λ e. absurd (omega (arith, h, ltb-false n 10 e)))
digits_below (suc j) (suc k) {n} t h =
    by_test (ltb n 10) (λ e. rw e (omega arith)) (λ e. rw e (omega (arith, digits_below j k ((48 + n % 10) ∷ t) (tenth (suc k) h))))

pub decimal_size : (n : ℕ) → length (decimal n) ≤ 20
decimal_size n = omega (arith, digits_size 20 n [])

pub decimal_below : (k n : ℕ) → n < 10 ^ suc k → length (decimal n) ≤ suc k
decimal_below k n h = omega (arith, digits_below 20 k [] h)

pub signed_size : {z : ℤ} → SFits w32 z → length (signed_decimal z) ≤ 11
unfolding signed_decimal
signed_size {z = pos n} f = omega (arith, decimal_below 9 n (omega (arith, f.sfits)))
signed_size {z = negsuc n} f = omega (arith, decimal_below 9 (suc n) (omega (arith, f.sfits)))

-- a corner of two numbers of 32 bits
pub record Word32s (p : Pt) : Type 0 where
  pub x_fits : SFits w32 p.x
  pub y_fits : SFits w32 p.y

pub corner_size : {p : Pt} → Word32s p → length (corner_text p) ≤ 26
unfolding corner_text
corner_size f = simp length-append (omega (arith, signed_size f.x_fits, signed_size f.y_fits))

pub corners_size : (ps : List Pt) → All Word32s ps → length (corners_text ps) ≤ 26 * length ps
corners_size [] h = omega (arith, ap length corners_none)
corners_size (p ∷ ps) h = omega (arith, ap length (corners_more p ps), length-append (corner_text p) (corners_text ps), corner_size h.0, corners_size ps h.1)
