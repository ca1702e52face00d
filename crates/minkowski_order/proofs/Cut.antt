-- The buffers cut to the points in use, up to the last first place: the walks there are the same
-- (`walks_same`), they are keyed, and every point is on the grid (`cut_used`). Assumes nothing.
use mathlib.Core.Path.{◌≡◌, refl, sym, ◌∙◌, ap, subst}
use mathlib.Core.List.{List, [], ◌∷◌, map}
use Prim.Native.Nat.{ℕ, zero, suc, ◌+◌, ◌<◌, ◌-◌, ◌≤◌}
use native.Mathlib.Omega.{arith}
use lib.IntN.{ℤ}
use Rattle.plane.specs.Plane.{Pt, O, in_range, on_grid}
use mathlib.Core.Bool.{true}
use lib.Dec.{ltb}
use lib.ListN.{length, get_or, take, drop, length-take, length-map}
use lib.Seq.{get_or-take, take-take}
use Rattle.integers.specs.Lists.{All}
use Rattle.integers.proofs.Elements.{all_flatten}
use Rattle.table.specs.Table.{max_contour, parts_of}
use Rattle.points.specs.Points.{corner_of, Grid, first_points}
use Rattle.points.proofs.Reading.{enough_starts}
use Rattle.pair_points.specs.Points.{merged_of, Turning}
use Rattle.pair_merge.specs.Putting.{CornersPut}
use Rattle.pair_merge.proofs.Merging.{point_in}
use Rattle.direction_keys.specs.Marks.{Close}
use Rattle.pair_walks.specs.Walks.{walks_in, walk_in, pair_in, Walks, contours_in, merged_all}
use Rattle.pair_walks.proofs.Walks.{walk_placed}
use Rattle.pair_numbers.specs.Numbers.{number_of, Keyed}
use Rattle.points.specs.Gathered.{Gathered}
use Rattle.minkowski_order.specs.Order.{Used}
use Rattle.minkowski_order.proofs.Held.{walk_ends}

module _ (firsts : List ℕ) (points : List (List ℤ)) (numbers : List ℕ) (left right : ℕ) (k : Keyed firsts points numbers left right) where
  -- the buffers up to the last first place
  abbrev cut_points : List (List ℤ)
  cut_points = take (get_or firsts (left + right) 0) points

  abbrev cut_numbers : List ℕ
  cut_numbers = take (get_or firsts (left + right) 0) numbers

  pub firsts_last : left + right < length firsts
  firsts_last = enough_starts firsts points (record { parts = left + right; corners = get_or firsts (left + right) 0 }) (walks_in firsts points (left + right)) k.walks.gathered

  points_same : first_points (get_or firsts (left + right) 0) cut_points ≡ first_points (get_or firsts (left + right) 0) points
  points_same = ap (map corner_of) (take-take (get_or firsts (left + right) 0) (get_or firsts (left + right) 0) points (omega arith))

  pub walks_same : walks_in firsts (take (get_or firsts (left + right) 0) points) (left + right) ≡ walks_in firsts points (left + right)
  walks_same = ap (parts_of (take (left + right + 1) firsts)) points_same

  pub contours_same : contours_in firsts (take (get_or firsts (left + right) 0) points) left right ≡ contours_in firsts points left right
  contours_same = ap (λ ws. merged_all (take left ws) (drop left ws)) walks_same

  pub pair_same : (p q : ℕ) → pair_in firsts (take (get_or firsts (left + right) 0) points) left right p q ≡ pair_in firsts points left right p q
  pair_same p q = ap (λ ws. merged_of (get_or ws p []) (get_or ws (left + q) [])) walks_same

  pub put_same : (p q : ℕ) {n : ℕ} {out out' : List ℤ} {at k' : ℕ} → n ≡ get_or firsts (left + right) 0 → CornersPut (pair_in firsts (take n points) left right p q) out at out' k' → CornersPut (pair_in firsts points left right p q) out at out' k'
  put_same p q {out = out} {out'} {at} {k'} e r = subst (λ l. CornersPut l out at out' k') (ap (λ n. pair_in firsts (take n points) left right p q) e ∙ pair_same p q) r

  -- there are as many points as that
  pub points_size : get_or firsts (left + right) 0 ≤ length points
  points_size = omega (arith, k.walks.gathered.corners, ap length k.walks.gathered.gathered, length-map cut_points corner_of, length-take (get_or firsts (left + right) 0) points)

  pub numbers_size : get_or firsts (left + right) 0 ≤ length numbers
  numbers_size = omega (arith, points_size, k.size)

  cut_gathered : Gathered firsts cut_points (record { parts = left + right; corners = get_or firsts (left + right) 0 }) (walks_in firsts points (left + right))
  cut_gathered =
      let g = k.walks.gathered in
      record { parts = g.parts; corners = g.corners; begins = g.begins; gathered = points_same ∙ g.gathered }

  cut_walks : Walks firsts cut_points (left + right)
  cut_walks =
      let e = sym walks_same in
      record {
        gathered = subst (Gathered firsts cut_points (record { parts = left + right; corners = get_or firsts (left + right) 0 })) e cut_gathered;
        grid = subst (All (All (λ p. on_grid p ≡ true))) e k.walks.grid;
        turning = subst (All Turning) e k.walks.turning;
        short = subst (All (λ w. length w ≤ (max_contour + 1))) e k.walks.short;
      }

  cut_few : length cut_points ≡ get_or firsts (left + right) 0
  cut_few = omega (arith, points_size, length-take (get_or firsts (left + right) 0) points)

  cut_many : length cut_numbers ≡ get_or firsts (left + right) 0
  cut_many = omega (arith, numbers_size, length-take (get_or firsts (left + right) 0) numbers)

  cut_keyed : Keyed firsts cut_points cut_numbers left right
  cut_keyed = record {
    walks = cut_walks;
    few = omega (arith, cut_few, points_size, k.few);
    size = omega (arith, cut_few, cut_many);
    numbered = record { at = λ n i hn hi. get_or-take (get_or firsts (left + right) 0) numbers (get_or firsts n 0 + i) 0 (below hn hi) ∙ subst (λ ws. i < length (get_or ws n []) → get_or numbers (get_or firsts n 0 + i) 0 ≡ number_of (ltb n left) (get_or ws n []) i) (sym walks_same) (λ hi. k.numbered.at n i hn hi) hi };
    close = λ p q hp hq. subst (λ ws. Close (get_or ws p []) (get_or ws (left + q) [])) (sym walks_same) (k.close p q hp hq);
  }
    where
      below : {n i : ℕ} → n < left + right → i < length (walk_in firsts cut_points (left + right) n) → get_or firsts n 0 + i < get_or firsts (left + right) 0
      below {n} hn hi = omega (arith, walk_ends cut_walks hn, (walk_placed cut_walks hn).within, cut_few)

  -- each of its points is of a walk
  cut_grid : Grid cut_points
  cut_grid = record { at = λ i. subst (λ c. on_grid c ≡ true) (point_in cut_points i) (on (map corner_of cut_points) i (subst (All (λ c. on_grid c ≡ true)) (sym k.walks.gathered.gathered) ((all_flatten (λ c. on_grid c ≡ true) (walks_in firsts points (left + right))).1 k.walks.grid))) }
    where
      on : (l : List Pt) (i : ℕ) → All (λ c. on_grid c ≡ true) l → on_grid (get_or l i O) ≡ true
      on [] i g = unfold on_grid in_range in refl
      on (p ∷ l) zero g = g.0
      on (p ∷ l) (suc i) g = on l i g.1

  pub cut_used : Used firsts (take (get_or firsts (left + right) 0) points) (take (get_or firsts (left + right) 0) numbers) left right
  cut_used = record { keyed = cut_keyed; buffers = record { grid = cut_grid; size = cut_keyed.size; few = cut_keyed.few }; same = cut_many ∙ sym cut_few }
