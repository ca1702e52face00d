-- Rounding and the tests at single numbers, each by its bits, as they compute. Assumes nothing.
use mathlib.Core.Path.{◌≡◌, refl}
use mathlib.Core.Bool.{true, false}
use Prim.Native.Nat.{ℕ}
use lib.IntN.{ℤ, pos, negsuc}
use lib.Ieee.{inf, binary64, of_bits, fits}
use Rattle.floats.specs.Floats.{number, multiple, nearest}
use Rattle.grid.specs.Grid.{within_range, step_count, on_grid}

abbrev round : ℕ → ℤ
round bits = nearest (multiple (of_bits binary64 bits))

-- 0.49999999999999994, 0.5, -0.5, 2.5, -2.5, -0.0
below_half : round 0x3fdf_ffff_ffff_ffff ≡ pos 0
unfolding nearest multiple of_bits
below_half = refl

half : round 0x3fe0_0000_0000_0000 ≡ pos 1
unfolding nearest multiple of_bits
half = refl

minus_half : round 0xbfe0_0000_0000_0000 ≡ negsuc 0
unfolding nearest multiple of_bits
minus_half = refl

two_and_half : round 0x4004_0000_0000_0000 ≡ pos 3
unfolding nearest multiple of_bits
two_and_half = refl

minus_two_and_half : round 0xc004_0000_0000_0000 ≡ negsuc 2
unfolding nearest multiple of_bits
minus_two_and_half = refl

minus_zero : round 0x8000_0000_0000_0000 ≡ pos 0
unfolding nearest multiple of_bits
minus_zero = refl

-- 1,048,576 is in the range; the next f64 is not
last_within_range : within_range (of_bits binary64 0x4130_0000_0000_0000) ≡ true
unfolding within_range number multiple of_bits fits
last_within_range = refl

next_past_range : within_range (of_bits binary64 0x4130_0000_0000_0001) ≡ false
unfolding within_range number multiple of_bits fits
next_past_range = refl

-- 1,073,741,823.5 rounds to 2 ^ 30 and is off the grid, the f64 before it is on it; an infinity is
-- off it
edge_off : on_grid (of_bits binary64 0x41cf_ffff_ffc0_0000) ≡ false
unfolding on_grid nearest multiple of_bits
edge_off = refl

before_edge_on : on_grid (of_bits binary64 0x41cf_ffff_ffbf_ffff) ≡ true
unfolding on_grid nearest multiple of_bits
before_edge_on = refl

infinity_off : on_grid (inf false) ≡ false
unfolding on_grid
infinity_off = refl

-- 1,024 and 1 are step counts; 2,048, 3 and 0.5 are not
steps_1024 : step_count (of_bits binary64 0x4090_0000_0000_0000) ≡ true
unfolding step_count of_bits
steps_1024 = refl

steps_1 : step_count (of_bits binary64 0x3ff0_0000_0000_0000) ≡ true
unfolding step_count of_bits
steps_1 = refl

steps_2048 : step_count (of_bits binary64 0x40a0_0000_0000_0000) ≡ false
unfolding step_count of_bits
steps_2048 = refl

steps_3 : step_count (of_bits binary64 0x4008_0000_0000_0000) ≡ false
unfolding step_count of_bits
steps_3 = refl

steps_half : step_count (of_bits binary64 0x3fe0_0000_0000_0000) ≡ false
unfolding step_count of_bits
steps_half = refl
