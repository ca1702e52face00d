-- Pair k of two operands' walks is that of left walk k / right and right walk k % right
-- (`pair_at`), and can be merged (`merging`); its corners on the front of a work buffer
-- (`front_range`, `front_fits`). Assumes nothing.
use mathlib.Core.Path.{◌≡◌, refl, sym, ◌∙◌, ap, ap₂, subst}
use mathlib.Core.Bool.{Bool, true, false}
use mathlib.Core.List.{List, [], ◌∷◌}
use Prim.Native.Nat.{ℕ, zero, suc, ◌+◌, ◌*◌, ◌/◌, ◌%◌, ◌<◌, ◌≤◌}
use native.Mathlib.Nat.{div-lt_iff_lt-mul, div-add-mod', mod-lt}
use native.Mathlib.Omega.{arith}
use lib.ListN.{length, get_or, take}
use lib.IntN.{ℤ}
use Rattle.integers.specs.Lists.{overlay}
use Rattle.integers.proofs.Elements.{all_get_d}
use Rattle.integers.proofs.Overlay.{overlay_nil, take_overlay}
use Rattle.integers.proofs.Tests.{both_true}
use Rattle.plane.specs.Plane.{Pt, in_range, on_grid}
use Rattle.table.specs.Table.{max_contour}
use Rattle.corners.specs.Corners.{points_of, numbers_of, off_range}
use Rattle.corners.proofs.Corners.{whole_corners, length_numbers}
use Rattle.pair_points.specs.Points.{merged_of}
use Rattle.pair_points.proofs.Merged.{length_merged}
use Rattle.pair_merge.specs.Putting.{CornersPut}
use Rattle.pair_walks.specs.Walks.{walk_in, lefts_in, rights_in, contours_in, pair_in}
use Rattle.pair_walks.proofs.Walks.{walk_short}
use Rattle.pair_walks.proofs.Operands.{left_walk, right_walk, lefts_count, rights_count, contours_count}
use Rattle.minkowski_order.proofs.Pairs.{pairs_at}
use Rattle.placement.specs.declared.Contact.{Contact}
use Rattle.placement.specs.declared.Contact.TheVariants.{Apart, Touching, Overlapping}
use Rattle.pairs_place.specs.Place.{Gridded, Walkable, Merging}

-- whether what is told so far is that a contour was touched
abbrev pub touching : Contact → Bool
touching Apart = false
touching Touching = true
touching Overlapping = false

-- ---- a pair by its number

some_factor : (m n : ℕ) → 0 < m * n → 0 < n
some_factor m zero h = absurd (omega arith)
some_factor m (suc n) h = omega arith

module _ {firsts : List ℕ} {points : List (List ℤ)} {numbers : List ℕ} {left right : ℕ} (w : Walkable firsts points numbers left right) where
  pub pairs_count : length (contours_in firsts points left right) ≡ left * right
  pairs_count = contours_count left right w.keyed.walks

  module _ {k : ℕ} (h : k < left * right) where
    pub some_right : 0 < right
    some_right = some_factor left right (omega arith)

    p_inside : k / right < left
    p_inside = (div-lt_iff_lt-mul some_right).1 h

    q_inside : k % right < right
    q_inside = mod-lt k some_right

    pub pair_at : get_or (contours_in firsts points left right) k [] ≡ pair_in firsts points left right (k / right) (k % right)
    pair_at =
        let ls = lefts_in firsts points left right in
        let rs = rights_in firsts points left right in
        let m = lefts_count firsts points left right w.keyed.walks in
        let n = rights_count firsts points left right w.keyed.walks in
        let e : k ≡ k / right * length rs + k % right = sym (ap (λ r. k / right * r + k % right) n ∙ div-add-mod' k right) in
        ap (λ i. get_or (contours_in firsts points left right) i []) e
        ∙ pairs_at merged_of rs ls (k / right) [] [] [] (omega (arith, p_inside, m)) (omega (arith, q_inside, n))
        ∙ ap₂ merged_of (left_walk firsts points left right p_inside) (right_walk firsts points left right (k % right))

    pub merging : {work : List ℤ} → 4 * max_contour ≤ length work → Merging firsts points numbers left right (k / right) (k % right) work
    merging room = record {
      keyed = w.keyed;
      p_inside = p_inside;
      q_inside = q_inside;
      grid = subst Gridded pair_at (all_get_d Gridded (contours_in firsts points left right) [] w.grid k (omega (arith, pairs_count)));
      for_corners = room;
    }

-- ---- corners on the front of a work buffer

grid_range : (l : List Pt) → Gridded l → off_range (numbers_of l) ≡ false
unfolding off_range numbers_of on_grid
grid_range [] h = refl
grid_range (p ∷ l) h = let b = both_true (in_range p.x) _ h.0 in rw (b.0, b.1) (grid_range l h.1)

pub front_range : {ps : List Pt} {o o' : List ℤ} {k : ℕ} → CornersPut ps o 0 o' k → Gridded ps → off_range (take (2 * k) o') ≡ false
unfolding numbers_of
front_range {ps} {o} {o'} {k} p g =
    let e : o' ≡ overlay (numbers_of ps) o = p.written [] o refl (sym (overlay_nil o)) in
    let n : 2 * k ≡ length (numbers_of ps) = omega (arith, p.count, length_numbers ps) in
    ap off_range (ap₂ take n e ∙ take_overlay (numbers_of ps) o) ∙ grid_range ps g

module _ {firsts : List ℕ} {points : List (List ℤ)} {numbers : List ℕ} {left right p q : ℕ} {work : List ℤ} (h : Merging firsts points numbers left right p q work) where
  pub front_fits : {o o' : List ℤ} {k : ℕ} → length work ≡ length o → CornersPut (pair_in firsts points left right p q) o 0 o' k → k ≤ length (points_of o')
  front_fits {o} {o'} {k} f m =
      let few : length (pair_in firsts points left right p q) ≤ 2 * max_contour =
      omega (
        arith,
        length_merged (walk_in firsts points (left + right) p) (walk_in firsts points (left + right) (left + q)),
        walk_short {q = p} h.keyed.walks (omega (arith, h.p_inside)),
        walk_short {q = left + q} h.keyed.walks (omega (arith, h.q_inside)),
      ) in
      whole_corners k o' (omega (arith, m.count, m.size, few, f, h.for_corners))
