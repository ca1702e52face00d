-- The edges of a contour: as many as corners, from another corner, the other way round, read
-- backwards from the same corner, turned through the origin, by place; and whether two points are
-- one (`eq_pt`), which is whether the edge between them is zero (`is_zero_sub`). Assumes nothing.
use mathlib.Core.Path.{◌≡◌, refl, sym, ◌∙◌, ap}
use mathlib.Core.Bool.{true, false, cond}
use mathlib.Core.List.{List, [], ◌∷◌, ◌++◌, map, reverse}
use Prim.Native.Nat.{ℕ, suc, ◌<◌}
use native.Mathlib.Omega.{arith}
use borrow.Author.Tests.{eqb-true, eqb-false}
use lib.Dec.{eqb}
use lib.ListN.{length, get_or, length-map, get_or-map}
use Rattle.integers.specs.Lists.{rotate, links, neighbours, swap, both}
use Rattle.integers.specs.Test.{eq_z}
use Rattle.integers.proofs.Ring.{◌:≡ᵖ◌, pt, ringᵖ}
use Rattle.integers.proofs.Order.{zarith, sub_parts, by_test}
use Rattle.integers.proofs.Tests.{differ, eq_z_true, eq_z_refl}
use Rattle.integers.proofs.Rotation.{map_rotate, map-reverse}
use Rattle.integers.proofs.Neighbours.{length_neighbours, neighbours_rotate, neighbours_reverse, neighbours_cons, links_reverse, map_neighbours, get_or_neighbours, get_or_neighbours_last}
use Rattle.plane.specs.Plane.{Pt, O, ◌-ᵖ◌, negᵖ, eq_pt, is_zero}
use Rattle.plane.specs.Contour.{edges, last_of}
use Rattle.plane.proofs.Terms.{OE, ◌-E◌, neg_e}
use Rattle.plane.proofs.Vectors.{pt_eq, negᵖ_edge, is_zero_true}

-- ---- edges

-- from the first to the second
abbrev diff : Pt × Pt → Pt
diff e = e.1 -ᵖ e.0

negᵖ_sub : (a b : Pt) → b -ᵖ a ≡ negᵖ (a -ᵖ b)
negᵖ_sub = ringᵖ (pt ∷ pt ∷ []) (λ a b. b -E a :≡ᵖ neg_e (a -E b)) tt

sub_self : (a : Pt) → a -ᵖ a ≡ O
sub_self = ringᵖ (pt ∷ []) (λ a. a -E a :≡ᵖ OE) tt

-- the links on to y are those before and one from the last
pub links_last : (x : Pt) (l : List Pt) (y : Pt) → links x (l ++ (y ∷ [])) ≡ links x l ++ ((last_of x l, y) ∷ [])
unfolding links last_of
links_last x [] y = refl
links_last x (z ∷ l) y = ap (λ r. (x, z) ∷ r) (links_last z l y)

-- as many as corners
pub length_edges : (l : List Pt) → length (edges l) ≡ length l
unfolding edges
length_edges l = length-map (neighbours l) diff ∙ length_neighbours l

-- from another corner, from another edge
pub edges_rotate : (k : ℕ) (l : List Pt) → edges (rotate k l) ≡ rotate k (edges l)
unfolding edges
edges_rotate k l = ap (map diff) (neighbours_rotate k l) ∙ map_rotate diff k (neighbours l)

-- edge i: from corner i to the next, round the end
pub get_or_edges : (l : List Pt) {i : ℕ} → i < length l → get_or (edges l) i O ≡ get_or l (cond (eqb (suc i) (length l)) 0 (suc i)) O -ᵖ get_or l i O
unfolding edges
get_or_edges l {i} h =
    get_or-map diff (neighbours l) i (O, O)
    ∙ by_test (eqb (suc i) (length l))
    (λ t. rw t (ap diff (get_or_neighbours_last l O (O, O) (eqb-true (suc i) (length l) t))))
    (λ t. rw t (ap diff (get_or_neighbours l O (O, O) (further t))))
  where
    further : eqb (suc i) (length l) ≡ false → suc i < length l
    further t = let n : suc i ≡ length l → ⊥ = eqb-false (suc i) (length l) t in omega arith

diff_swap : (m : List (Pt × Pt)) → map diff (map swap m) ≡ map negᵖ (map diff m)
diff_swap [] = refl
diff_swap (e ∷ m) = λ i. negᵖ_sub e.1 e.0 i ∷ diff_swap m i

-- the other way round, each edge negated: (a - b) = -(b - a)
pub edges_reverse : (l : List Pt) → edges (reverse l) ≡ rotate 1 (reverse (map negᵖ (edges l)))
unfolding edges
edges_reverse l =
    ap (map diff) (neighbours_reverse l) ∙ map_rotate diff 1 (reverse (map swap (neighbours l)))
    ∙ ap (rotate 1) (map-reverse diff (map swap (neighbours l)) ∙ ap reverse (diff_swap (neighbours l)))

-- read backwards from the same corner: the edges negated, in the other order
pub edges_backwards : (c : Pt) (l : List Pt) → edges (c ∷ reverse l) ≡ reverse (map negᵖ (edges (c ∷ l)))
unfolding edges
edges_backwards c l =
    ap (map diff) (neighbours_cons c (reverse l) ∙ links_reverse c l c) ∙ map-reverse diff (map swap (links c (l ++ (c ∷ []))))
    ∙ ap (λ m. reverse (map diff (map swap m))) (sym (neighbours_cons c l)) ∙ ap reverse (diff_swap (neighbours (c ∷ l)))

-- of the contour turned through the origin: -b - (-a) = -(b - a)
pub edges_negᵖ : (l : List Pt) → edges (map negᵖ l) ≡ map negᵖ (edges l)
unfolding edges
edges_negᵖ l = ap (map diff) (sym (map_neighbours negᵖ l)) ∙ each (neighbours l)
  where
    each : (m : List (Pt × Pt)) → map diff (map (both negᵖ) m) ≡ map negᵖ (map diff m)
    each [] = refl
    each (e ∷ m) = λ i. negᵖ_edge e.0 e.1 i ∷ each m i

-- ---- points

pub eq_pt_true : (a b : Pt) → eq_pt a b ≡ true → a ≡ b
eq_pt_true a b h = by_test (eq_z a.x b.x)
    (λ t. pt_eq (eq_z_true a.x b.x t) (eq_z_true a.y b.y (rw t at h))) (λ t. differ (rw t at h))

pub eq_pt_refl : (a : Pt) → eq_pt a a ≡ true
eq_pt_refl a = rw (eq_z_refl a.x, eq_z_refl a.y)

pub eq_pt_false : {a b : Pt} → eq_pt a b ≡ false → a ≡ b → ⊥
eq_pt_false {a} h e = differ (sym h ∙ ap (eq_pt a) (sym e) ∙ eq_pt_refl a)

pub ≢-eq_pt : {a b : Pt} → (a ≡ b → ⊥) → eq_pt a b ≡ false
≢-eq_pt {a} {b} h = by_test (eq_pt a b) (λ t. absurd (h (eq_pt_true a b t))) (λ t. t)

is_zero_O : is_zero O ≡ true
unfolding is_zero
is_zero_O = refl

-- q - p is zero exactly where p and q are equal
pub is_zero_sub : (p q : Pt) → is_zero (q -ᵖ p) ≡ eq_pt p q
is_zero_sub p q = by_test (eq_pt p q)
    (λ t. ap (λ c. is_zero (q -ᵖ c)) (eq_pt_true p q t) ∙ ap is_zero (sub_self q) ∙ is_zero_O ∙ sym t)
    (λ t. by_test (is_zero (q -ᵖ p)) (λ z. absurd (eq_pt_false t (sub_zero p q (is_zero_true (q -ᵖ p) z)))) (λ z. z ∙ sym t))
  where
    sub_zero : (p q : Pt) → q -ᵖ p ≡ O → p ≡ q
    sub_zero p q e = pt_eq (omega (zarith, sub_parts q.x p.x, ap (λ c. c.x) e)) (omega (zarith, sub_parts q.y p.y, ap (λ c. c.y) e))
