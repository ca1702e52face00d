-- How long lines are: the head line has at most 114 bytes (`head_size`), the line of at most 2,052
-- corners of 32-bit numbers at most 53,399 (`line_size`). Assumes nothing.
use mathlib.Core.List.{List}
use Prim.Native.Nat.{ℕ, ◌*◌, ◌≤◌}
use native.Mathlib.Omega.{arith}
use lib.ListN.{length}
use mir.Syntax.{w32}
use mir.Val.{SFits}
use Rattle.integers.specs.Lists.{All}
use Rattle.plane.specs.Plane.{Pt}
use Rattle.table.specs.declared.IntRect.{IntRect}
use Rattle.text.proofs.Sizes.{decimal_size, decimal_below, signed_size, Word32s, corners_size}
use Rattle.table.specs.Table.{max_contour}
use Rattle.pair_lines.specs.Putting.{line_room}
use Rattle.pair_lines.specs.Lines.{pairs_head, pair_line}
use Rattle.pair_lines.proofs.Pieces.{bounds_length, head_length, line_length}

pub head_size : (n k : ℕ) {b : IntRect} → SFits w32 b.min_x → SFits w32 b.max_x → SFits w32 b.min_y → SFits w32 b.max_y → length (pairs_head n k b) ≤ 114
head_size n k {b} e f g h =
    omega (
      arith,
      head_length n k b,
      bounds_length b,
      decimal_size n,
      decimal_size k,
      signed_size e,
      signed_size f,
      signed_size g,
      signed_size h,
    )

-- 20 + 1 + 20 + 1 + 4 + 26 · 2,052 + 1
pub line_size : (i j : ℕ) (ps : List Pt) → All Word32s ps → length ps ≤ 2 * max_contour → length (pair_line i j ps) ≤ line_room
line_size i j ps w h = omega (arith, line_length i j ps, decimal_size i, decimal_size j, decimal_below 3 (length ps) (omega arith), corners_size ps w)
