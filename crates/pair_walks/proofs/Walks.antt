-- Walks read from their buffer (`walk_placed`, `walk_ready`, `walk_short`); unrolled parts gathered
-- are walks (`gathered_walks`), and their merges are the pairs' contours (`merged_pairs`). Assumes
-- nothing.
use mathlib.Core.Path.{◌≡◌, refl, sym, ◌∙◌, ap, ap₂, subst}
use mathlib.Core.Bool.{Bool, true, false}
use mathlib.Core.List.{List, [], ◌∷◌, ◌++◌, map, flatten}
use Prim.Native.Nat.{ℕ, zero, suc, ◌+◌, ◌-◌, ◌≤◌, ◌<◌}
use native.Mathlib.Omega.{arith}
use lib.ListN.{length, get_or, take, drop, length-map, length-take, length-drop}
use lib.Seq.{take_all}
use lib.IntN.{ℤ, pos, negsuc}
use Rattle.integers.specs.Lists.{All}
use Rattle.integers.proofs.Order.{zarith}
use Rattle.integers.proofs.Sizes.{abs_parts}
use Rattle.integers.proofs.Tests.{<-le_z, <-lt_z}
use Rattle.integers.proofs.Elements.{all_get_d, all_map, all_image}
use Rattle.plane.specs.Plane.{Pt, O, in_range, on_grid}
use Rattle.plane.specs.Machine.{Coordinate}
use Rattle.table.specs.Table.{parts_of, max_contour}
use Rattle.table.proofs.Parts.{parts_starts}
use Rattle.pair.specs.Pair.{pair_contour}
use Rattle.points.specs.Points.{corner_of, first_points}
use Rattle.points.specs.Gathered.{Gathered}
use Rattle.points.proofs.Reading.{PartPlaced, enough_starts, part_placed, start_at}
use Rattle.pair_points.specs.Points.{unrolled, Turning}
use Rattle.pair_points.proofs.Merged.{pair_merged, turning_unrolled, length_unrolled}
use Rattle.pair_merge.specs.Putting.{Mergeable}
use Rattle.pair_merge.proofs.Merging.{point_in}
use Rattle.minkowski.specs.Pairs.{pairs_of}
use Rattle.pair_walks.specs.Walks.{walks_in, Walks, merged_row, merged_all}

-- ---- walks in buffers

-- those gathered are those read
pub walks_in_lem : {firsts : List ℕ} {points : List (List ℤ)} {ps : List (List Pt)} → Gathered firsts points (record { parts = length ps; corners = length (flatten ps) }) ps → get_or firsts (length ps) 0 ≡ length (flatten ps) → walks_in firsts points (length ps) ≡ ps
walks_in_lem {points} {ps} g e = ap₂ parts_of g.begins (ap (λ n. first_points n points) e ∙ g.gathered) ∙ parts_starts ps

module _ {firsts : List ℕ} {points : List (List ℤ)} {n q : ℕ} (w : Walks firsts points n) (h : q < n) where
  abbrev ws : List (List Pt)
  ws = walks_in firsts points n

  pub walk_inside : q < length (walks_in firsts points n)
  walk_inside = omega (arith, h, w.gathered.parts)

  pub firsts_enough : q + 1 < length firsts
  firsts_enough = omega (arith, h, enough_starts firsts points (record { parts = n; corners = get_or firsts n 0 }) ws w.gathered)

  pub walk_placed : PartPlaced firsts points q (get_or (walks_in firsts points n) q [])
  walk_placed = part_placed firsts points (record { parts = n; corners = get_or firsts n 0 }) ws w.gathered walk_inside

  pub walk_short : length (get_or (walks_in firsts points n) q []) ≤ (max_contour + 1)
  walk_short = all_get_d (λ w. length w ≤ (max_contour + 1)) (walks_in firsts points n) [] w.short q walk_inside

  -- its points can be merged
  pub walk_ready : Mergeable (take (get_or firsts (q + 1) 0 - get_or firsts q 0) (drop (get_or firsts q 0) points))
  walk_ready = ready walk_placed.corners (all_get_d (All (λ p. on_grid p ≡ true)) ws [] w.grid q walk_inside) (all_get_d Turning ws [] w.turning q walk_inside)
    where
      ready : {l : List (List ℤ)} {p : List Pt} → map corner_of l ≡ p → All (λ c. on_grid c ≡ true) p → Turning p → Mergeable l
      ready {l} e g t = record { grid = record { at = λ i. subst (λ c. on_grid c ≡ true) (point_in l i) (on (map corner_of l) i (subst (All (λ c. on_grid c ≡ true)) (sym e) g)) }; turning = subst Turning (sym e) t }
        where
          on : (l : List Pt) (i : ℕ) → All (λ c. on_grid c ≡ true) l → on_grid (get_or l i O) ≡ true
          on [] i g = unfold on_grid in_range in refl
          on (p ∷ l) zero g = g.0
          on (p ∷ l) (suc i) g = on l i g.1

  -- as long as its places
  pub walk_length : get_or firsts q 0 + length (get_or (walks_in firsts points n) q []) ≡ get_or firsts (q + 1) 0
  walk_length =
      let l = take (get_or firsts (q + 1) 0 - get_or firsts q 0) (drop (get_or firsts q 0) points) in
      omega (arith, walk_placed.rises, walk_placed.within, ap length walk_placed.corners, length-map l corner_of, length-take (get_or firsts (q + 1) 0 - get_or firsts q 0) (drop (get_or firsts q 0) points), length-drop (get_or firsts q 0) points)

-- walks begin one after another
pub firsts_rise : {firsts : List ℕ} {points : List (List ℤ)} {n : ℕ} → Walks firsts points n → (p d : ℕ) → p + d ≤ n → get_or firsts p 0 ≤ get_or firsts (p + d) 0
firsts_rise {firsts} w p zero h = omega (arith, ap (λ k. get_or firsts k 0) (end p))
  where
    end : (p : ℕ) → p + 0 ≡ p
    end p = omega arith
firsts_rise {firsts} {points} {n} w p (suc d) h =
    omega (arith, firsts_rise w p d (omega arith), (walk_placed {q = p + d} w (omega arith)).rises, ap (λ k. get_or firsts k 0) (along d))
  where
    along : (d : ℕ) → p + suc d ≡ p + d + 1
    along d = omega arith

-- a number of that size is in range
coordinate_in_range : {z : ℤ} → Coordinate z → in_range z ≡ true
unfolding in_range
coordinate_in_range {z} h =
    rw (<-le_z {x = z} {y = negsuc 1073741823} (omega (zarith, abs_parts z, h.abs)), <-lt_z {x = z} {y = pos 1073741824} (omega (zarith, abs_parts z, h.abs)))

coordinates_grid : {p : Pt} → Coordinate p.x × Coordinate p.y → on_grid p ≡ true
unfolding on_grid
coordinates_grid {p} h = rw (coordinate_in_range h.0, coordinate_in_range h.1)

-- lists gathered that turn at each point, of coordinates in range
module _ (firsts : List ℕ) (points : List (List ℤ)) (ps : List (List Pt)) (g : Gathered firsts points (record { parts = length ps; corners = length (flatten ps) }) ps) where
  pub last_place : get_or firsts (length ps) 0 ≡ length (flatten ps)
  last_place = start_at firsts points (record { parts = length ps; corners = length (flatten ps) }) ps g (omega arith) ∙ ap (λ l. length (flatten l)) (take_all (length ps) ps (omega arith))

  pub gathered_walks_in : walks_in firsts points (length ps) ≡ ps
  gathered_walks_in = walks_in_lem g last_place

  pub gathered_walks : All (All (λ p. Coordinate p.x × Coordinate p.y)) ps → All Turning ps → All (λ w. length w ≤ (max_contour + 1)) ps → Walks firsts points (length ps)
  gathered_walks h t k =
      let e : ps ≡ walks_in firsts points (length ps) = sym gathered_walks_in in
      record {
        gathered = subst (Gathered firsts points (record { parts = length ps; corners = get_or firsts (length ps) 0 })) e (subst (λ k. Gathered firsts points (record { parts = length ps; corners = k }) ps) (sym last_place) g);
        grid = subst (All (All (λ p. on_grid p ≡ true))) e (all_map ps (λ w k. all_map w (λ p c. coordinates_grid c) k) h);
        turning = subst (All Turning) e t;
        short = subst (All (λ w. length w ≤ (max_contour + 1))) e k;
      }

-- ---- of unrolled parts they are the pairs' contours

pub merged_pairs : (reflected : Bool) (As Bs : List (List Pt)) → merged_all (map (unrolled false) As) (map (unrolled reflected) Bs) ≡ pairs_of reflected As Bs
unfolding pairs_of flatten
merged_pairs reflected [] Bs = refl
merged_pairs reflected (A ∷ As) Bs = ap₂ ◌++◌ (row Bs) (merged_pairs reflected As Bs)
  where
    row : (Bs : List (List Pt)) → merged_row (unrolled false A) (map (unrolled reflected) Bs) ≡ map (pair_contour reflected A) Bs
    row [] = refl
    row (B ∷ Bs) = ap₂ ◌∷◌ (sym (pair_merged reflected A B)) (row Bs)
