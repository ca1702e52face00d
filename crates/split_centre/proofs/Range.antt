-- Where the centre lies. In order: the moment of edges between bounds is between twice the bounds
-- by the doubled area (`moment_least`, `moment_most`), which is at least 0 (`area_least`); seen
-- from another point the doubled area is the same (`area_seen`); how large a moment is
-- (`moment_size`); where the first corner's offset to the centre lies (`offset_between`); the
-- centre is within any bounds of the corners (`centre_least`, `centre_most`, by coordinate
-- `centre_within`) and on the grid (`centre_on_grid`). Assumes nothing.
use mathlib.Core.Path.{◌≡◌, refl}
use mathlib.Core.Bool.{true}
use mathlib.Core.List.{List, [], ◌∷◌, map}
use Prim.Native.Nat.{ℕ, ◌*◌, ◌≤◌, ◌<◌}
use native.Mathlib.Omega.{arith}
use lib.IntN.{ℤ, pos, negsuc, nat_abs, ◌+ℤ◌, ◌-ℤ◌, ◌*ℤ◌}
use lib.Signed.{◌≤ℤ◌, ◌<ℤ◌, le_z}
use Rattle.integers.specs.Lists.{All, sumℤ, neighbours}
use Rattle.integers.proofs.Ring.{con, ◌:+◌, ◌:-◌, ◌:*◌, int, nat}
use Rattle.integers.proofs.Order.{zarith, add_parts, sub_parts, sub_of_≤}
use Rattle.integers.proofs.Arith.{◌:≤◌, ◌⇒◌, arithℤ}
use Rattle.integers.proofs.Signs.{nn_add, nn_mul}
use Rattle.integers.proofs.Tests.{le_z-≤, lt_z-<, <-le_z, <-lt_z}
use Rattle.integers.proofs.Sizes.{abs_parts}
use Rattle.integers.proofs.Elements.{all_map, all_image}
use Rattle.integers.proofs.Neighbours.{all_neighbours}
use Rattle.plane.specs.Plane.{Pt, in_range, on_grid, ◌-ᵖ◌, negᵖ, cross}
use Rattle.plane.specs.Contour.{contour_area}
use Rattle.plane.specs.Machine.{Coordinate}
use Rattle.plane.proofs.Size.{on_grid_both}
use Rattle.plane.proofs.Contours.{contour_shift}
use Rattle.split.specs.Splitting.{rounded, moment_x, moment_y, seen_from, centre_of}
use Rattle.split_centre.specs.Centre.{Summable}
use Rattle.split_centre.proofs.Rounding.{rounded_most, rounded_least}

-- ---- the sums over edges

abbrev pub area_of : List (Pt × Pt) → ℤ
area_of m = sumℤ (map (λ e. cross e.0 e.1) m)

-- f is a coordinate
abbrev pub moment_of : (Pt → ℤ) → List (Pt × Pt) → ℤ
moment_of f m = sumℤ (map (λ e. (f e.0 +ℤ f e.1) *ℤ cross e.0 e.1) m)

abbrev pub Wedges : List (Pt × Pt) → Type 0
Wedges m = All (λ e. le_z (pos 0) (cross e.0 e.1) ≡ true) m

-- 2 k (w + A) ≤ (a + b) w + M where k ≤ a, k ≤ b, 2 k A ≤ M
least_turn : (k a b w A M : ℤ) → pos 0 ≤ℤ (w *ℤ (a -ℤ k)) → pos 0 ≤ℤ (w *ℤ (b -ℤ k)) → ((k +ℤ k) *ℤ A) ≤ℤ M → ((k +ℤ k) *ℤ (w +ℤ A)) ≤ℤ ((a +ℤ b) *ℤ w +ℤ M)
least_turn = arithℤ (int ∷ int ∷ int ∷ int ∷ int ∷ int ∷ []) (λ k a b w A M. con (pos 0) :≤ w :* (a :- k) ⇒ con (pos 0) :≤ w :* (b :- k) ⇒ (k :+ k) :* A :≤ M ⇒ (k :+ k) :* (w :+ A) :≤ (a :+ b) :* w :+ M) (omega arith)

most_turn : (k a b w A M : ℤ) → pos 0 ≤ℤ (w *ℤ (k -ℤ a)) → pos 0 ≤ℤ (w *ℤ (k -ℤ b)) → M ≤ℤ ((k +ℤ k) *ℤ A) → ((a +ℤ b) *ℤ w +ℤ M) ≤ℤ ((k +ℤ k) *ℤ (w +ℤ A))
most_turn = arithℤ (int ∷ int ∷ int ∷ int ∷ int ∷ int ∷ []) (λ k a b w A M. con (pos 0) :≤ w :* (k :- a) ⇒ con (pos 0) :≤ w :* (k :- b) ⇒ M :≤ (k :+ k) :* A ⇒ (a :+ b) :* w :+ M :≤ (k :+ k) :* (w :+ A)) (omega arith)

none_least : (k : ℤ) → ((k +ℤ k) *ℤ pos 0) ≤ℤ pos 0
none_least = arithℤ (int ∷ []) (λ k. (k :+ k) :* con (pos 0) :≤ con (pos 0)) (omega arith)

none_most : (k : ℤ) → pos 0 ≤ℤ ((k +ℤ k) *ℤ pos 0)
none_most = arithℤ (int ∷ []) (λ k. con (pos 0) :≤ (k :+ k) :* con (pos 0)) (omega arith)

module _ (f : Pt → ℤ) (k : ℤ) where
  pub moment_least : (m : List (Pt × Pt)) → Wedges m → All (λ e. (k ≤ℤ f e.0) × (k ≤ℤ f e.1)) m → ((k +ℤ k) *ℤ area_of m) ≤ℤ moment_of f m
  unfolding sumℤ
  moment_least [] w h = none_least k
  moment_least (e ∷ m) w h =
      let p : pos 0 ≤ℤ cross e.0 e.1 = le_z-≤ (pos 0) (cross e.0 e.1) w.0 in
      least_turn k (f e.0) (f e.1) (cross e.0 e.1) (area_of m) (moment_of f m)
      (nn_mul p (sub_of_≤ h.0.0)) (nn_mul p (sub_of_≤ h.0.1)) (moment_least m w.1 h.1)

  pub moment_most : (m : List (Pt × Pt)) → Wedges m → All (λ e. (f e.0 ≤ℤ k) × (f e.1 ≤ℤ k)) m → moment_of f m ≤ℤ ((k +ℤ k) *ℤ area_of m)
  unfolding sumℤ
  moment_most [] w h = none_most k
  moment_most (e ∷ m) w h =
      let p : pos 0 ≤ℤ cross e.0 e.1 = le_z-≤ (pos 0) (cross e.0 e.1) w.0 in
      most_turn k (f e.0) (f e.1) (cross e.0 e.1) (area_of m) (moment_of f m)
      (nn_mul p (sub_of_≤ h.0.0)) (nn_mul p (sub_of_≤ h.0.1)) (moment_most m w.1 h.1)

-- 0 ≤ A
pub area_least : (m : List (Pt × Pt)) → Wedges m → pos 0 ≤ℤ area_of m
unfolding sumℤ
area_least [] w = omega zarith
area_least (e ∷ m) w = nn_add (le_z-≤ (pos 0) (cross e.0 e.1) w.0) (area_least m w.1)

-- ---- seen from the first corner

pub area_seen : (c : Pt) (l : List Pt) → contour_area (seen_from c l) ≡ contour_area l
area_seen c l = contour_shift (negᵖ c) l

-- 2 k A ≤ M and k ≤ 0 give k 3 A ≤ M
third_least : {k : ℤ} (A : ℤ) {M : ℤ} → k ≤ℤ pos 0 → pos 0 <ℤ A → ((k +ℤ k) *ℤ A) ≤ℤ M → (k *ℤ pos (3 * nat_abs A)) ≤ℤ M
third_least (negsuc a) h p l = absurd p.lt
third_least {k} (pos a) {M} h p l = of k a M (nn_mul {a = pos a} (omega zarith) (sub_of_≤ h)) l
  where
    of : (k : ℤ) (a : ℕ) (M : ℤ) → pos 0 ≤ℤ (pos a *ℤ (pos 0 -ℤ k)) → ((k +ℤ k) *ℤ pos a) ≤ℤ M → (k *ℤ (pos 3 *ℤ pos a)) ≤ℤ M
    of = arithℤ (int ∷ nat ∷ int ∷ []) (λ k a M. con (pos 0) :≤ a :* (con (pos 0) :- k) ⇒ (k :+ k) :* a :≤ M ⇒ k :* (con (pos 3) :* a) :≤ M) (omega arith)

third_most : {k : ℤ} (A : ℤ) {M : ℤ} → pos 0 ≤ℤ k → pos 0 <ℤ A → M ≤ℤ ((k +ℤ k) *ℤ A) → M ≤ℤ (k *ℤ pos (3 * nat_abs A))
third_most (negsuc a) h p l = absurd p.lt
third_most {k} (pos a) {M} h p l = of k a M (nn_mul {a = pos a} (omega zarith) h) l
  where
    of : (k : ℤ) (a : ℕ) (M : ℤ) → pos 0 ≤ℤ (pos a *ℤ k) → M ≤ℤ ((k +ℤ k) *ℤ pos a) → M ≤ℤ (k *ℤ (pos 3 *ℤ pos a))
    of = arithℤ (int ∷ nat ∷ int ∷ []) (λ k a M. con (pos 0) :≤ a :* k ⇒ M :≤ (k :+ k) :* a ⇒ M :≤ k :* (con (pos 3) :* a)) (omega arith)

-- how far the limits are from a coordinate
abbrev pub low : ℤ → ℤ
low z = negsuc 1073741822 -ℤ z

abbrev pub high : ℤ → ℤ
high z = pos 1073741823 -ℤ z

-- z is between the limits seen from s
abbrev pub Between : ℤ → ℤ → Type 0
Between s z = (low s ≤ℤ z) × (z ≤ℤ high s)

between : {z s : ℤ} → Coordinate z → Coordinate s → Between s (z -ℤ s)
between {z} {s} h k =
    (omega (zarith, sub_parts z s, sub_parts (negsuc 1073741822) s, abs_parts z, h.abs), omega (zarith, sub_parts z s, sub_parts (pos 1073741823) s, abs_parts z, h.abs))

in_range_lem : {z : ℤ} → negsuc 1073741822 ≤ℤ z → z ≤ℤ pos 1073741823 → in_range z ≡ true
unfolding in_range
in_range_lem {z} h k = rw (<-le_z {x = z} {y = negsuc 1073741823} (omega zarith)) (<-lt_z {x = z} {y = pos 1073741824} (omega zarith))

low_below : {z : ℤ} → Coordinate z → low z ≤ℤ pos 0
low_below {z} h = omega (zarith, sub_parts (negsuc 1073741822) z, abs_parts z, h.abs)

high_above : {z : ℤ} → Coordinate z → pos 0 ≤ℤ high z
high_above {z} h = omega (zarith, sub_parts (pos 1073741823) z, abs_parts z, h.abs)

-- |M| ≤ 2 (2^31 - 2) A
size_of : {k : ℤ} → Coordinate k → (A : ℤ) {M : ℤ} → pos 0 ≤ℤ A → ((low k +ℤ low k) *ℤ A) ≤ℤ M → M ≤ℤ ((high k +ℤ high k) *ℤ A) → nat_abs M ≤ 4294967292 * nat_abs A
size_of h (negsuc a) p l u = absurd p.le
size_of {k} h (pos a) {M} p l u =
    let t : M ≤ℤ pos (4294967292 * a) = most (high k) a M (nn_mul p (sub_of_≤ (high_most h))) u in
    let b : (pos 0 -ℤ pos (4294967292 * a)) ≤ℤ M = least (low k) a M (nn_mul p (low_least h)) l in
    omega (zarith, t, b, sub_parts (pos 0) (pos (4294967292 * a)), abs_parts M)
  where
    high_most : {k : ℤ} → Coordinate k → high k ≤ℤ pos 2147483646
    high_most {k} h = omega (zarith, sub_parts (pos 1073741823) k, abs_parts k, h.abs)

    low_least : {k : ℤ} → Coordinate k → pos 0 ≤ℤ (low k +ℤ pos 2147483646)
    low_least {k} h = omega (zarith, sub_parts (negsuc 1073741822) k, add_parts (low k) (pos 2147483646), abs_parts k, h.abs)

    most : (h : ℤ) (a : ℕ) (M : ℤ) → pos 0 ≤ℤ (pos a *ℤ (pos 2147483646 -ℤ h)) → M ≤ℤ ((h +ℤ h) *ℤ pos a) → M ≤ℤ (pos 4294967292 *ℤ pos a)
    most = arithℤ (int ∷ nat ∷ int ∷ []) (λ h a M. con (pos 0) :≤ a :* (con (pos 2147483646) :- h) ⇒ M :≤ (h :+ h) :* a ⇒ M :≤ con (pos 4294967292) :* a) (omega arith)

    least : (h : ℤ) (a : ℕ) (M : ℤ) → pos 0 ≤ℤ (pos a *ℤ (h +ℤ pos 2147483646)) → ((h +ℤ h) *ℤ pos a) ≤ℤ M → (pos 0 -ℤ pos 4294967292 *ℤ pos a) ≤ℤ M
    least = arithℤ (int ∷ nat ∷ int ∷ []) (λ h a M. con (pos 0) :≤ a :* (h :+ con (pos 2147483646)) ⇒ (h :+ h) :* a :≤ M ⇒ con (pos 0) :- con (pos 4294967292) :* a :≤ M) (omega arith)

-- of edges whose ends are between the limits seen from k
pub moment_size : (f : Pt → ℤ) {k : ℤ} → Coordinate k → (m : List (Pt × Pt)) → Wedges m → All (λ e. Between k (f e.0) × Between k (f e.1)) m → nat_abs (moment_of f m) ≤ 4294967292 * nat_abs (area_of m)
moment_size f {k} h m w b =
    size_of h (area_of m) (area_least m w) (moment_least f (low k) m w (all_map m (λ e b. (b.0.0, b.1.0)) b)) (moment_most f (high k) m w (all_map m (λ e b. (b.0.1, b.1.1)) b))

from_offset : (z : ℤ) {r : ℤ} → low z ≤ℤ r → r ≤ℤ high z → in_range (z +ℤ r) ≡ true
from_offset z {r} h k =
    in_range_lem (omega (zarith, add_parts z r, sub_parts (negsuc 1073741822) z)) (omega (zarith, add_parts z r, sub_parts (pos 1073741823) z))

less_both : {a b : ℤ} (s : ℤ) → a ≤ℤ b → (a -ℤ s) ≤ℤ (b -ℤ s)
less_both {a} {b} s h = omega (zarith, sub_parts a s, sub_parts b s)

-- ---- a coordinate of the centre

-- f is a coordinate, c the first corner, A the doubled area and M the moment of the edges seen from
-- it
module _ {f : Pt → ℤ} (minus : (a b : Pt) → f (a -ᵖ b) ≡ f a -ℤ f b) (small : (p : Pt) → on_grid p ≡ true → Coordinate (f p)) {c : Pt} {l : List Pt} (h : Summable (c ∷ l)) where
  abbrev seen : List (Pt × Pt)
  seen = neighbours (seen_from c (c ∷ l))

  pub area_above : pos 0 <ℤ area_of seen
  unfolding contour_area
  area_above = lt_z-< (pos 0) (area_of seen) (rw area_seen h.above)

  corners_between : All (λ p. Between (f c) (f p)) (seen_from c (c ∷ l))
  corners_between =
      (all_image (λ p. Between (f c) (f p)) (λ p. p -ᵖ c) (c ∷ l)).1
      (all_map (c ∷ l) (λ p g. rw (minus p c) (between (small p g) (small c h.grid.0))) h.grid)

  pub edges_between : All (λ e. Between (f c) (f e.0) × Between (f c) (f e.1)) seen
  edges_between = all_neighbours (λ p. Between (f c) (f p)) (seen_from c (c ∷ l)) corners_between

  pub moment_between : (((low (f c) +ℤ low (f c)) *ℤ area_of seen) ≤ℤ moment_of f seen) × (moment_of f seen ≤ℤ ((high (f c) +ℤ high (f c)) *ℤ area_of seen))
  moment_between = (
    moment_least f (low (f c)) seen h.wedges (all_map seen (λ e b. (b.0.0, b.1.0)) edges_between),
    moment_most f (high (f c)) seen h.wedges (all_map seen (λ e b. (b.0.1, b.1.1)) edges_between),
  )

  pub offset_between : (low (f c) ≤ℤ rounded (moment_of f seen) (3 * nat_abs (area_of seen))) × (rounded (moment_of f seen) (3 * nat_abs (area_of seen)) ≤ℤ high (f c))
  offset_between =
      let k : Coordinate (f c) = small c h.grid.0 in
      let d : 0 < 3 * nat_abs (area_of seen) = omega (zarith, area_above, abs_parts (area_of seen)) in (
        rounded_least (low (f c)) d
            (third_least (area_of seen) (low_below k) area_above moment_between.0),
        rounded_most (moment_of f seen) (high (f c)) d
            (third_most (area_of seen) (high_above k) area_above moment_between.1),
      )

  -- where a coordinate of every corner is at least a, the centre's is; where at most, too
  pub centre_least : {a : ℤ} → All (λ p. a ≤ℤ f p) (c ∷ l) → a ≤ℤ (f c +ℤ rounded (moment_of f seen) (3 * nat_abs (area_of seen)))
  centre_least {a} g =
      let k : ℤ = a -ℤ f c in
      let r : ℤ = rounded (moment_of f seen) (3 * nat_abs (area_of seen)) in
      let d : 0 < 3 * nat_abs (area_of seen) = omega (zarith, area_above, abs_parts (area_of seen)) in
      let e : All (λ p. k ≤ℤ f p) (seen_from c (c ∷ l)) = (all_image (λ p. k ≤ℤ f p) (λ p. p -ᵖ c) (c ∷ l)).1 (all_map (c ∷ l) (λ p q. rw (minus p c) (less_both (f c) q)) g) in
      let b : k ≤ℤ r =
      rounded_least k d
      (third_least {k = k} (area_of seen) (omega (zarith, sub_parts a (f c), g.0)) area_above (moment_least f k seen h.wedges (all_neighbours (λ p. k ≤ℤ f p) (seen_from c (c ∷ l)) e))) in
      omega (zarith, b, sub_parts a (f c), add_parts (f c) r)

  pub centre_most : {a : ℤ} → All (λ p. f p ≤ℤ a) (c ∷ l) → (f c +ℤ rounded (moment_of f seen) (3 * nat_abs (area_of seen))) ≤ℤ a
  centre_most {a} g =
      let k : ℤ = a -ℤ f c in
      let r : ℤ = rounded (moment_of f seen) (3 * nat_abs (area_of seen)) in
      let d : 0 < 3 * nat_abs (area_of seen) = omega (zarith, area_above, abs_parts (area_of seen)) in
      let e : All (λ p. f p ≤ℤ k) (seen_from c (c ∷ l)) = (all_image (λ p. f p ≤ℤ k) (λ p. p -ᵖ c) (c ∷ l)).1 (all_map (c ∷ l) (λ p q. rw (minus p c) (less_both (f c) q)) g) in
      let b : r ≤ℤ k =
      rounded_most (moment_of f seen) k d
      (third_most {k = k} (area_of seen) (omega (zarith, sub_parts a (f c), g.0)) area_above (moment_most f k seen h.wedges (all_neighbours (λ p. f p ≤ℤ k) (seen_from c (c ∷ l)) e))) in
      omega (zarith, b, sub_parts a (f c), add_parts (f c) r)

  pub coordinate_in_range : in_range (f c +ℤ rounded (moment_of f seen) (3 * nat_abs (area_of seen))) ≡ true
  coordinate_in_range = from_offset (f c) offset_between.0 offset_between.1

pub centre_on_grid : {c : Pt} {l : List Pt} → Summable (c ∷ l) → on_grid (centre_of c (c ∷ l)) ≡ true
unfolding on_grid centre_of moment_x moment_y contour_area
centre_on_grid {c} {l} h =
    rw (coordinate_in_range (λ a b. refl) (λ p g. (on_grid_both p g).0) h) (coordinate_in_range (λ a b. refl) (λ p g. (on_grid_both p g).1) h)

-- the centre is within any bounds of the corners
pub centre_within : {c : Pt} {l : List Pt} → Summable (c ∷ l) → {a b d e : ℤ} → All (λ p. ((a ≤ℤ p.x) × (p.x ≤ℤ b)) × ((d ≤ℤ p.y) × (p.y ≤ℤ e))) (c ∷ l)
    → ((a ≤ℤ (centre_of c (c ∷ l)).x) × ((centre_of c (c ∷ l)).x ≤ℤ b)) × ((d ≤ℤ (centre_of c (c ∷ l)).y) × ((centre_of c (c ∷ l)).y ≤ℤ e))
unfolding centre_of moment_x moment_y contour_area
centre_within {c} {l} h {a} {b} {d} {e} g = (
  (
    centre_least (λ u v. refl) (λ p k. (on_grid_both p k).0) h (all_map (c ∷ l) (λ p q. q.0.0) g),
    centre_most (λ u v. refl) (λ p k. (on_grid_both p k).0) h (all_map (c ∷ l) (λ p q. q.0.1) g),
  ),
  (
    centre_least (λ u v. refl) (λ p k. (on_grid_both p k).1) h (all_map (c ∷ l) (λ p q. q.1.0) g),
    centre_most (λ u v. refl) (λ p k. (on_grid_both p k).1) h (all_map (c ∷ l) (λ p q. q.1.1) g),
  ),
)
