-- Small paths, each number by its bits, as the definitions compute. The frame has its origin at
-- 0.5, 0 and two steps to the millimetre. Assumes nothing.
use mathlib.Core.Path.{◌≡◌, refl}
use mathlib.Core.List.{List, [], ◌∷◌}
use Prim.Native.Nat.{ℕ}
use lib.IntN.{pos, negsuc}
use lib.Ieee.{Float, binary64, of_bits, fits, add, sub, mul}
use Rattle.integers.specs.Faults.{first_fault}
use Rattle.corners.specs.Corners.{numbers_of}
use Rattle.floats.specs.Floats.{number, multiple, nearest}
use Rattle.grid.specs.Grid.{within_range, step_count, on_grid}
use Rattle.path.specs.declared.PathItem.{PathItem}
use Rattle.path.specs.declared.PathItem.TheVariants.{Move, Line, Horizontal, Vertical, RelativeLine, Close}
use Rattle.path.specs.declared.Frame.{Frame}
use Rattle.path.specs.Path.{every, points_from, lines_then_close, in_order, path_contour, path_fault}

abbrev f64 : ℕ → Float
f64 bits = of_bits binary64 bits

abbrev zero : Float
zero = f64 0

abbrev half : Float
half = f64 0x3fe0_0000_0000_0000

abbrev one : Float
one = f64 0x3ff0_0000_0000_0000

abbrev two : Float
two = f64 0x4000_0000_0000_0000

-- -0.25
abbrev below : Float
below = f64 0xbfd0_0000_0000_0000

abbrev frame : Frame
frame = record { x = half; y = zero; steps = two }

-- 1, -0.25; then y 2; then x 0.5; then 1, -0.25 from there
abbrev items : List PathItem
items = Move one below ∷ Vertical two ∷ Horizontal half ∷ RelativeLine one below ∷ Close ∷ []

-- (1 - 0.5) 2 = 1 and -0.25 * 2 = -0.5, which rounds to -1; 2 * 2 = 4; (1.5 - 0.5) 2 = 2 and
-- 1.75 * 2 = 3.5, which rounds to 4
items_corners : numbers_of (path_contour frame items) ≡ pos 1 ∷ negsuc 0 ∷ pos 1 ∷ pos 4 ∷ pos 0 ∷ pos 4 ∷ pos 2 ∷ pos 4 ∷ []
unfolding numbers_of path_contour points_from nearest multiple of_bits add sub mul
items_corners = refl

items_accepted : path_fault frame items 8 ≡ 0
unfolding path_fault first_fault every in_order lines_then_close points_from within_range step_count on_grid number nearest multiple of_bits fits add sub mul
items_accepted = refl

-- seven numbers hold three corners
items_narrow : path_fault frame items 7 ≡ 21
unfolding path_fault first_fault every in_order lines_then_close points_from within_range step_count on_grid number nearest multiple of_bits fits add sub mul
items_narrow = refl

-- a move and a close are a path of one corner
one_corner : path_fault frame (Move one one ∷ Close ∷ []) 2 ≡ 0
unfolding path_fault first_fault every in_order lines_then_close points_from within_range step_count on_grid number nearest multiple of_bits fits sub mul
one_corner = refl

-- no item, no close, no move, an item behind the close
nothing_refused : path_fault frame [] 8 ≡ 14
unfolding path_fault first_fault every in_order lines_then_close points_from number step_count of_bits fits
nothing_refused = refl

open_refused : path_fault frame (Move one one ∷ Line two two ∷ []) 8 ≡ 14
unfolding path_fault first_fault every in_order lines_then_close points_from within_range number multiple step_count of_bits fits
open_refused = refl

unmoved_refused : path_fault frame (Line one one ∷ Close ∷ []) 8 ≡ 14
unfolding path_fault first_fault every in_order lines_then_close points_from within_range number multiple step_count of_bits fits
unmoved_refused = refl

behind_refused : path_fault frame (Move one one ∷ Close ∷ Line two two ∷ []) 8 ≡ 14
unfolding path_fault first_fault every in_order lines_then_close points_from within_range number multiple step_count of_bits fits
behind_refused = refl
