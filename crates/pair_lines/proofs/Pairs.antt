-- The pair of two walks in a buffer: its corners stand on the front of the work buffer
-- (`merged_front`), their numbers have 32 bits (`pair_words`), they are few (`pair_few`), so that a
-- line has room (`pair_room`); as code has them (`pair_inside`); and it is the
-- contour of the parts that were unrolled (`line_of_pair`). Assumes nothing.
use mathlib.Core.Path.{◌≡◌, refl, sym, ◌∙◌, ap, ap₂}
use mathlib.Core.Bool.{Bool, true, false}
use mathlib.Core.List.{List, [], ◌∷◌, map}
use Prim.Native.Nat.{ℕ, ◌+◌, ◌*◌, ◌≤◌, ◌<◌}
use native.Mathlib.Omega.{arith}
use lib.IntN.{ℤ}
use lib.ListN.{length, get_or, take, get_or-map}
use Rattle.integers.specs.Lists.{All, overlay}
use Rattle.integers.proofs.Elements.{all_map, all_get_d}
use Rattle.integers.proofs.Overlay.{overlay_nil, take_overlay}
use Rattle.plane.specs.Plane.{Pt, ◌+ᵖ◌, on_grid}
use Rattle.plane.specs.Machine.{Coordinate}
use Rattle.plane.proofs.Size.{on_grid_both}
use Rattle.corners.specs.Corners.{points_of, numbers_of}
use Rattle.table.specs.Table.{max_contour}
use Rattle.corners.proofs.Corners.{whole_corners, length_numbers, points_numbers}
use Rattle.text.proofs.Sizes.{Word32s}
use Rattle.pair.specs.Pair.{pair_contour}
use Rattle.pair_points.specs.Points.{unrolled, merged_of}
use Rattle.pair_points.proofs.Merged.{pair_merged, length_merged}
use Rattle.pair_points.proofs.Sums.{merged_sums}
use Rattle.pair_merge.specs.Putting.{CornersPut}
use Rattle.minkowski_faults.proofs.Range.{coordinate_add_fits}
use Rattle.pair_walks.specs.Walks.{walks_in, walk_in, lefts_in, rights_in, pair_in}
use Rattle.pair_walks.proofs.Walks.{walk_inside, walk_short}
use Rattle.pair_walks.proofs.Operands.{left_walk, right_walk}
use Rattle.pair_lines.specs.Lines.{pair_line}
use Rattle.pair_lines.specs.Putting.{Puttable}
use Rattle.pair_lines.proofs.Sizes.{line_size}

-- corners put on the front of a buffer are its first numbers
pub merged_front : {ps : List Pt} {o o' : List ℤ} {k : ℕ} → CornersPut ps o 0 o' k → points_of (take (2 * k) o') ≡ ps
unfolding numbers_of
merged_front {ps} {o} {o'} {k} p =
    let e : o' ≡ overlay (numbers_of ps) o = p.written [] o refl (sym (overlay_nil o)) in
    let n : 2 * k ≡ length (numbers_of ps) = omega (arith, p.count, length_numbers ps) in
    ap points_of (ap₂ take n e ∙ take_overlay (numbers_of ps) o) ∙ points_numbers ps

-- a sum of two points of the grid
sum_words : {x y : Pt} → Coordinate x.x × Coordinate x.y → Coordinate y.x × Coordinate y.y → Word32s (x +ᵖ y)
sum_words {x} {y} a b = record { x_fits = coordinate_add_fits a.0 b.0; y_fits = coordinate_add_fits a.1 b.1 }

module _ (firsts : List ℕ) (points : List (List ℤ)) (numbers : List ℕ) (left right p q : ℕ) (work : List ℤ) (out : List ℕ) (h : Puttable firsts points numbers left right p q work out) where
  abbrev a : List Pt
  a = walk_in firsts points (left + right) p

  abbrev b : List Pt
  b = walk_in firsts points (left + right) (left + q)

  left_inside : p < left + right
  left_inside = omega (arith, h.p_inside)

  right_inside : left + q < left + right
  right_inside = omega (arith, h.q_inside)

  on_grid_walk : {n : ℕ} → n < left + right → All (λ x. on_grid x ≡ true) (walk_in firsts points (left + right) n)
  on_grid_walk {n} k = all_get_d (All (λ x. on_grid x ≡ true)) (walks_in firsts points (left + right)) [] h.keyed.walks.grid n (walk_inside h.keyed.walks k)

  pub pair_words : All Word32s (pair_in firsts points left right p q)
  pair_words =
      merged_sums Word32s a b
      (all_map a (λ x g. all_map b (λ y k. sum_words (on_grid_both x g) (on_grid_both y k)) (on_grid_walk right_inside)) (on_grid_walk left_inside))

  pub pair_few : length (pair_in firsts points left right p q) ≤ 2 * max_contour
  pair_few =
      omega (
        arith,
        length_merged a b,
        walk_short h.keyed.walks left_inside,
        walk_short h.keyed.walks right_inside,
      )

  pub pair_room : length (pair_line p q (pair_in firsts points left right p q)) ≤ length out
  pair_room = omega (arith, line_size p q (pair_in firsts points left right p q) pair_words pair_few, h.for_line)

  -- merged into a buffer as long as the work buffer
  module _ {o o' : List ℤ} {k : ℕ} (m : CornersPut (pair_in firsts points left right p q) o 0 o' k) where
    pair_count : k ≤ 2 * max_contour
    pair_count = omega (arith, m.count, pair_few)

    pub pair_inside : length work ≡ length o → k ≤ length (points_of o')
    pair_inside f = whole_corners k o' (omega (arith, pair_count, m.size, h.for_corners, f))

unrolled_none : (reflected : Bool) → unrolled reflected [] ≡ []
unfolding unrolled
unrolled_none reflected = refl

unrolled_at : (reflected : Bool) (ps : List (List Pt)) (k : ℕ) → get_or (map (unrolled reflected) ps) k [] ≡ unrolled reflected (get_or ps k [])
unrolled_at reflected ps k = ap (λ d. get_or (map (unrolled reflected) ps) k d) (sym (unrolled_none reflected)) ∙ get_or-map (unrolled reflected) ps k []

-- the line of walks p and q is that of the contour of parts p and q
pub line_of_pair :
    (reflected : Bool) (ls rs : List (List Pt)) (firsts : List ℕ) (points : List (List ℤ)) {left : ℕ} (right : ℕ) {p : ℕ} (q : ℕ) → p < left →
    lefts_in firsts points left right ≡ map (unrolled false) ls → rights_in firsts points left right ≡ map (unrolled reflected) rs →
    pair_line p q (pair_in firsts points left right p q) ≡ pair_line p q (pair_contour reflected (get_or ls p []) (get_or rs q []))
line_of_pair reflected ls rs firsts points {left} right {p} q h e f =
    ap (pair_line p q)
    (ap₂ merged_of (sym (left_walk firsts points left right h) ∙ ap (λ l. get_or l p []) e ∙ unrolled_at false ls p) (sym (right_walk firsts points left right q) ∙ ap (λ l. get_or l q []) f ∙ unrolled_at reflected rs q)
    ∙ sym (pair_merged reflected (get_or ls p []) (get_or rs q [])))
