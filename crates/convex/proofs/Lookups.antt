-- Corners looked up by their numbers. In order: a list of numbered points (`look`), in which a
-- number that stands once is found from any start (`look_rotate`); the three lookups of a contour
-- from any start (`point_rotate`, `after_rotate`, `before_rotate`); a corner and the ring after it,
-- where a is the corner, b the first of the ring, b0 the second, a0 the last (`ring-…`); a corner
-- put after another (`put_after_lem`); the place of a corner (`place_of_lem`). Assumes nothing.
use mathlib.Core.Path.{◌≡◌, refl, sym, ◌∙◌, ap}
use mathlib.Core.Bool.{false, cond}
use mathlib.Core.List.{List, [], ◌∷◌, ◌++◌, map, map-map, map-append, append-nil}
use Prim.Native.Nat.{ℕ, zero, suc, ◌+◌, ◌-◌, ◌≤◌, ◌<◌}
use native.Mathlib.Omega.{arith}
use borrow.Author.Tests.{eqb-true, eq-eqb}
use lib.Dec.{eqb}
use lib.ListN.{length, take, drop, get_or, take-append-drop, length-map}
use Rattle.integers.specs.Lists.{count, rotate, links, neighbours}
use Rattle.integers.proofs.Order.{by_test}
use Rattle.integers.proofs.Counting.{count_cons, count_here, count_append, count_perm, count_any}
use Rattle.integers.proofs.Elements.{get_d_any}
use Rattle.integers.proofs.Rotation.{rotate_eq, map_rotate, perm_rotate}
use Rattle.integers.proofs.Neighbours.{neighbours_rotate, firsts_neighbours, seconds_neighbours}
use Rattle.plane.specs.Plane.{Pt, O}
use Rattle.convex.specs.Joining.{Corner, point_numbered, after_in, before_in, point_after, point_before, put_after, place_of}

-- ---- a list of numbered points

unfoldable look : ℕ → List (ℕ × Pt) → Pt
look n [] = O
look n (e ∷ l) = cond (eqb e.0 n) e.1 (look n l)

abbrev keys : List (ℕ × Pt) → List ℕ
keys l = map (λ e. e.0) l

-- n does not stand in a
look_past : (n : ℕ) (a b : List (ℕ × Pt)) → count n (keys a) ≡ 0 → look n (a ++ b) ≡ look n b
unfolding look
look_past n [] b h = refl
look_past n (e ∷ a) b h = by_test (eqb e.0 n)
    (λ t. absurd (omega (arith, count_here (keys a) (eqb-true e.0 n t))))
    (λ t. rw t (look_past n a b (omega (arith, count_cons n e.0 (keys a)))))

-- an entry that is not numbered n
look_skip : (n : ℕ) (a : List (ℕ × Pt)) (e : ℕ × Pt) (b : List (ℕ × Pt)) → eqb e.0 n ≡ false → look n (a ++ e ∷ b) ≡ look n (a ++ b)
unfolding look
look_skip n [] e b h = rw h
look_skip n (d ∷ a) e b h = ap (cond (eqb d.0 n) d.1) (look_skip n a e b h)

-- n stands in one of a and b at the most
look_swap : (n : ℕ) (a b : List (ℕ × Pt)) → count n (keys a) + count n (keys b) ≤ 1 → look n (b ++ a) ≡ look n (a ++ b)
unfolding look
look_swap n [] b h = ap (look n) (append-nil b)
look_swap n (e ∷ a) b h = by_test (eqb e.0 n)
    (λ t. look_past n b (e ∷ a) (omega (arith, count_here (keys a) (eqb-true e.0 n t))) ∙ rw t)
    (λ t. look_skip n b e a t ∙ look_swap n a b (omega (arith, count_cons n e.0 (keys a))) ∙ rw t)

-- n stands once at the most, so where the list starts does not matter
look_rotate : (n k : ℕ) (l : List (ℕ × Pt)) → count n (keys l) ≤ 1 → look n (rotate k l) ≡ look n l
look_rotate n k l h =
    let e : keys (take k l) ++ keys (drop k l) ≡ keys l = sym (map-append (λ e. e.0) (take k l) (drop k l)) ∙ ap keys (take-append-drop k l) in
    ap (look n) (rotate_eq k l)
    ∙ look_swap n (take k l) (drop k l) (omega (arith, count_append n (keys (take k l)) (keys (drop k l)), ap (count n) e)) ∙ ap (look n) (take-append-drop k l)

-- ---- the lookups of a contour

-- the numbers of a list of corners
abbrev pub numbers : List Corner → List ℕ
numbers l = map (λ c. c.number) l

abbrev own : Corner → ℕ × Pt
own c = (c.number, c.point)

abbrev onward : Corner × Corner → ℕ × Pt
onward e = (e.0.number, e.1.point)

abbrev backward : Corner × Corner → ℕ × Pt
backward e = (e.1.number, e.0.point)

-- the three lookups of a contour are lookups of numbered points
point_is : (n : ℕ) (l : List Corner) → point_numbered n l ≡ look n (map own l)
unfolding point_numbered look
point_is n [] = refl
point_is n (c ∷ l) = ap (cond (eqb c.number n) c.point) (point_is n l)

after_is : (n : ℕ) (l : List (Corner × Corner)) → after_in n l ≡ look n (map onward l)
unfolding after_in look
after_is n [] = refl
after_is n (e ∷ l) = ap (cond (eqb e.0.number n) e.1.point) (after_is n l)

before_is : (n : ℕ) (l : List (Corner × Corner)) → before_in n l ≡ look n (map backward l)
unfolding before_in look
before_is n [] = refl
before_is n (e ∷ l) = ap (cond (eqb e.1.number n) e.0.point) (before_is n l)

module _ (n k : ℕ) (l : List Corner) (h : count n (numbers l) ≤ 1) where
  -- the point of the corner numbered n, from any start
  pub point_rotate : point_numbered n (rotate k l) ≡ point_numbered n l
  point_rotate =
      point_is n (rotate k l) ∙ ap (look n) (map_rotate own k l) ∙ look_rotate n k (map own l) (rw map-map h) ∙ sym (point_is n l)

  onward_once : count n (keys (map onward (neighbours l))) ≤ 1
  onward_once = rw (map-map, ← map-map (λ c. c.number) (λ e. e.0) (neighbours l), firsts_neighbours) h

  -- the corner after it, from any start
  pub after_rotate : point_after n (rotate k l) ≡ point_after n l
  after_rotate =
      after_is n (neighbours (rotate k l)) ∙ ap (λ e. look n (map onward e)) (neighbours_rotate k l) ∙ ap (look n) (map_rotate onward k (neighbours l))
      ∙ look_rotate n k (map onward (neighbours l)) onward_once ∙ sym (after_is n (neighbours l))

  backward_once : count n (keys (map backward (neighbours l))) ≤ 1
  backward_once = rw (map-map, ← map-map (λ c. c.number) (λ e. e.1) (neighbours l), seconds_neighbours, map_rotate, count_perm n (perm_rotate 1 (numbers l))) h

  -- the corner before it, from any start
  pub before_rotate : point_before n (rotate k l) ≡ point_before n l
  before_rotate =
      before_is n (neighbours (rotate k l)) ∙ ap (λ e. look n (map backward e)) (neighbours_rotate k l) ∙ ap (look n) (map_rotate backward k (neighbours l))
      ∙ look_rotate n k (map backward (neighbours l)) backward_once ∙ sym (before_is n (neighbours l))

-- ---- a corner x and the ring after it

-- the first corner's number, and 0 of none
abbrev pub head_number : List Corner → ℕ
head_number [] = 0
head_number (c ∷ l) = c.number

-- the points of a list of corners
abbrev pub points : List Corner → List Pt
points l = map (λ c. c.point) l

-- a is x itself
pub ring_point : (x : Corner) (r : List Corner) → point_numbered x.number (x ∷ r) ≡ x.point
unfolding point_numbered
ring_point x r = rw (eq-eqb x.number x.number refl)

-- along the links from y through l to x, x is first come to from the last of y ∷ l
before_links : {n : ℕ} (y : Corner) (l : List Corner) (x : Corner) → count n (numbers l) ≡ 0 → x.number ≡ n
    → before_in n (links y (l ++ (x ∷ []))) ≡ get_or (points (y ∷ l)) (length l) O
unfolding before_in links
before_links {n} y [] x h e = rw (eq-eqb x.number n e)
before_links {n} y (z ∷ l) x h e = by_test (eqb z.number n)
    (λ t. absurd (omega (arith, count_here (numbers l) (eqb-true z.number n t))))
    (λ t. rw t (before_links z l x (omega (arith, count_cons n z.number (numbers l))) e))

-- a0 is the last of the ring
pub ring_before : (x : Corner) (r : List Corner) → 2 ≤ length r → count x.number (numbers (x ∷ r)) ≤ 1
    → point_before x.number (x ∷ r) ≡ get_or (points r) (length (points r) - 1) O
unfolding neighbours
ring_before x [] l h = absurd (omega arith)
ring_before x (b ∷ r) l h =
    let e : length r ≡ length (points (b ∷ r)) - 1 = omega (arith, length-map r (λ c. c.point)) in
    before_links x (b ∷ r) x (omega (arith, count_here {i = x.number} (numbers (b ∷ r)) refl)) refl ∙ ap (λ k. get_or (points (b ∷ r)) k O) e

-- b is the first of the ring, b0 the second
not_first : (x b : Corner) (r : List Corner) → count b.number (numbers (x ∷ b ∷ r)) ≤ 1 → eqb x.number b.number ≡ false
not_first x b r h = by_test (eqb x.number b.number)
    (λ t. absurd (omega (arith, count_here {i = b.number} (numbers (b ∷ r)) (eqb-true x.number b.number t), count_here {i = b.number} (numbers r) refl)))
    (λ t. t)

-- b: x is not numbered so, so the first of the ring is found
pub ring_first : (x : Corner) (r : List Corner) → 2 ≤ length r → count (head_number r) (numbers (x ∷ r)) ≤ 1 → point_numbered (head_number r) (x ∷ r) ≡ get_or (points r) 0 O
unfolding point_numbered
ring_first x [] l h = absurd (omega arith)
ring_first x (b ∷ r) l h = rw (not_first x b r h, eq-eqb b.number b.number refl)

-- b0: the pair (b, b0) comes after (x, b)
pub ring_second : (x : Corner) (r : List Corner) → 2 ≤ length r → count (head_number r) (numbers (x ∷ r)) ≤ 1 → point_after (head_number r) (x ∷ r) ≡ get_or (points r) 1 O
unfolding after_in neighbours links
ring_second x [] l h = absurd (omega arith)
ring_second x (b ∷ []) l h = absurd (omega arith)
ring_second x (b ∷ c ∷ r) l h = rw (not_first x b (c ∷ r) h, eq-eqb b.number b.number refl)

-- ---- a corner put after another, and the place of a corner

-- a x b with c put after x is a x c b, where no corner of a is numbered as x
pub put_after_lem : {n : ℕ} (c : Corner) (a : List Corner) (x : Corner) (b : List Corner) → count n (numbers a) ≡ 0 → x.number ≡ n → put_after n c (a ++ x ∷ b) ≡ a ++ x ∷ c ∷ b
unfolding put_after
put_after_lem {n} c [] x b h e = rw (eq-eqb x.number n e)
put_after_lem {n} c (d ∷ a) x b h e = by_test (eqb d.number n)
    (λ t. absurd (omega (arith, count_here (numbers a) (eqb-true d.number n t))))
    (λ t. rw t (ap (λ r. d ∷ r) (put_after_lem c a x b (omega (arith, count_cons n d.number (numbers a))) e)))

-- the number n stands at place k, and nowhere else
pub place_of_lem : {n : ℕ} (l : List Corner) (k : ℕ) → k < length l → get_or (numbers l) k 0 ≡ n → count n (numbers l) ≤ 1 → place_of n l ≡ k
unfolding place_of
place_of_lem [] k h e o = absurd (omega arith)
place_of_lem {n} (c ∷ l) zero h e o = rw (eq-eqb c.number n e)
place_of_lem {n} (c ∷ l) (suc k) h e o = by_test (eqb c.number n)
    (λ t. absurd (omega (arith, count_here (numbers l) (eqb-true c.number n t), count_at (numbers l) (omega (arith, length-map l (λ c. c.number))) e)))
    (λ t. rw t (ap suc (place_of_lem l k (omega arith) e (omega (arith, count_cons n c.number (numbers l))))))
  where
    count_at : {n : ℕ} (l : List ℕ) {k : ℕ} → k < length l → get_or l k 0 ≡ n → 0 < count n l
    count_at {n} l {k} h e = (count_any n l).1 (get_d_any (λ x. x ≡ n) l 0 k h e)
