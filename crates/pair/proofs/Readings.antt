-- A table read from the place s of a least corner by (y, x), onward (`rotate s l`) or backwards:
-- the nonzero edges are a convex list, the table's outline, and the sign of the winding says which
-- way it goes. In order: rotations and reversals of a contour; the four theorems (`outline_on`,
-- `winding_on`, `outline_back`, `winding_back`). Assumes nothing.
use mathlib.Core.Path.{◌≡◌, refl, sym, ◌∙◌, ap, subst}
use mathlib.Core.Bool.{false}
use mathlib.Core.List.{List, [], ◌∷◌, ◌++◌, map, reverse, reverse-cons, Permᴰ}
use Prim.Native.Nat.{ℕ, suc, ◌-◌, ◌<◌}
use native.Mathlib.Omega.{arith}
use lib.ListN.{length, take, drop, length-reverse}
use lib.IntN.{ℤ, pos, neg_ℤ}
use lib.Signed.{◌<ℤ◌}
use Rattle.integers.specs.Lists.{All, sumℤ, rotate, neighbours, swap}
use Rattle.integers.proofs.Order.{zarith, neg_parts}
use Rattle.integers.proofs.Elements.{all_map, all_perm, any_perm}
use Rattle.integers.proofs.Sums.{sum_perm, sum_neg}
use Rattle.integers.proofs.Rotation.{rotate_append, perm_rotate, reverse_rotate}
use Rattle.integers.proofs.Neighbours.{perm_neighbours_rotate, perm_neighbours_reverse}
use Rattle.plane.specs.Plane.{Pt, O, ◌-ᵖ◌, cross}
use Rattle.plane.specs.Contour.{edges}
use Rattle.plane.proofs.Vectors.{cross_swap}
use Rattle.pair.specs.Walk.{corner_at, below, winding_terms}
use Rattle.pair.specs.Berg.{corners_from}
use Rattle.pair.specs.Demand.{live}
use Rattle.pair.proofs.Convex.{Outline}
use Rattle.integers.proofs.Rotation.{rotate_at}
use Rattle.pair.proofs.Start.{not_below_up}
use Rattle.pair.proofs.Places.{backwards}
use Rattle.pair.proofs.Repeats.{RoundEdges, round_rotate, round_backwards}
use Rattle.pair.proofs.Reaches.{reach_perm}
use Rattle.pair.proofs.Tables.{winding_of, From, winding_read, outline_read}

-- ---- a contour from another corner

-- its first corner is the one at s
pub corner_rotate : {s : ℕ} (l : List Pt) → s < length l → corner_at (rotate s l) 0 ≡ corner_at l s
corner_rotate {s} l h = ap (λ r. corner_at r 0) (rotate_at l O h)

-- ---- the other way round

-- the first corner stays first
pub backwards_cons : (c : Pt) (t : List Pt) → backwards (c ∷ t) ≡ c ∷ reverse t
unfolding backwards
backwards_cons c t = refl

-- backwards from the same corner is the reverse, from another
backwards_rotate : (l : List Pt) → backwards l ≡ rotate (length l - 1) (reverse l)
unfolding backwards rotate
backwards_rotate [] = refl
backwards_rotate (c ∷ t) =
    let n : length (reverse t) ≡ length (c ∷ t) - 1 = omega (arith, length-reverse t) in
    sym (rotate_append (reverse t) (c ∷ [])) ∙ (λ i. rotate (n i) (sym (reverse-cons c t) i))

-- it has the same corners
perm_backwards : (l : List Pt) → Permᴰ (backwards l) l
perm_backwards l = subst (λ r. Permᴰ r l) (sym (backwards_rotate l)) (mathlib.Core.List.Permᴰ.trans (perm_rotate (length l - 1) (reverse l)) (mathlib.Core.List.Permᴰ.reverse l))

-- what a rotation keeps, going backwards from a place keeps of the reverse
pub backwards_readings : (s : ℕ) (l : List Pt) (Q : List Pt → Type 0) → ((k : ℕ) (r : List Pt) → Q r → Q (rotate k r)) → Q (reverse l) → Q (backwards (rotate s l))
backwards_readings s l Q f h =
    subst Q (sym (backwards_rotate (rotate s l))) (f (length (rotate s l) - 1) (reverse (rotate s l)) (subst Q (sym (reverse_rotate s l)) (f (length l - s) (reverse l) h)))

-- (b - s) × (a - s) = - ((a - s) × (b - s))
winding_backwards : (s : Pt) (l : List Pt) → winding_of s (backwards l) ≡ neg_ℤ (winding_of s l)
winding_backwards s l =
    let p : Permᴰ (neighbours (backwards l)) (neighbours (reverse l)) = rw backwards_rotate (perm_neighbours_rotate (length l - 1) (reverse l)) in
    sum_perm (mathlib.Core.List.Permᴰ.map term (mathlib.Core.List.Permᴰ.trans p (perm_neighbours_reverse l))) ∙ ap sumℤ (turned (neighbours l)) ∙ sum_neg (map term (neighbours l))
  where
    term : Pt × Pt → ℤ
    term e = cross (e.0 -ᵖ s) (e.1 -ᵖ s)

    turned : (m : List (Pt × Pt)) → map term (map swap m) ≡ map neg_ℤ (map term m)
    turned [] = refl
    turned (e ∷ m) = λ i. cross_swap (e.1 -ᵖ s) (e.0 -ᵖ s) i ∷ turned m i

-- ---- the table from its place s

-- read as W, either way: a reordering of l that begins with the corner at s
module _ (l : List Pt) (s : ℕ) (least : All (λ c. below c (corner_at l s) ≡ false) l) (W t : List Pt) (begins : W ≡ corner_at l s ∷ t) (perm : Permᴰ W l)
    (round : RoundEdges (live (edges W))) where
  -- no corner of W is before its first
  from : All (From (corner_at l s)) (corner_at l s ∷ t)
  from = subst (All (From (corner_at l s))) begins (all_perm (From (corner_at l s)) (mathlib.Core.List.Permᴰ.symm perm) (all_map l (λ c h. not_below_up c (corner_at l s) h) least))

  -- the premise of W, with its first corner in view
  round' : RoundEdges (live (edges (corner_at l s ∷ t)))
  round' = subst (λ r. RoundEdges (live (edges r))) begins round

  -- W is the outline of l
  outline_reading : Outline (corner_at l s) l (live (edges W))
  outline_reading =
      let o : Outline (corner_at l s) W (live (edges W)) = subst (λ r. Outline (corner_at l s) r (live (edges r))) (sym begins) (outline_read t from round') in
      record {
        convex = o.convex;
        reaches = λ d. reach_perm d filled perm ∙ o.reaches d;
        corners = all_map (corners_from (corner_at l s) (live (edges W))) (λ c h. any_perm (λ q. q ≡ c) perm h) o.corners;
      }
    where
      filled : W ≡ [] → ⊥
      filled e = let z : ◌≡◌ {A = ℕ} 0 1 = cc in omega arith

  -- and its winding is above 0
  winding_reading : pos 0 <ℤ winding_of (corner_at l s) W
  winding_reading = subst (λ r. pos 0 <ℤ winding_of (corner_at l s) r) (sym begins) (winding_read t from round')

module _ (l : List Pt) {s : ℕ} (h : s < length l) (least : All (λ c. below c (corner_at l s) ≡ false) l) where
  -- backwards from s begins there too
  backwards_at : backwards (rotate s l) ≡ corner_at l s ∷ reverse (drop (suc s) l ++ take s l)
  backwards_at = ap backwards (rotate_at l O h) ∙ backwards_cons (corner_at l s) (drop (suc s) l ++ take s l)

  -- with the same corners
  perm_back : Permᴰ (backwards (rotate s l)) l
  perm_back = mathlib.Core.List.Permᴰ.trans (perm_backwards (rotate s l)) (perm_rotate s l)

  -- once round, counter-clockwise: onward, and the winding is above 0
  pub outline_on : RoundEdges (live (edges l)) → Outline (corner_at l s) l (live (edges (rotate s l)))
  outline_on r = outline_reading l s least (rotate s l) (drop (suc s) l ++ take s l) (rotate_at l O h) (perm_rotate s l) (round_rotate s l r)

  pub winding_on : RoundEdges (live (edges l)) → pos 0 <ℤ sumℤ (winding_terms s l)
  unfolding winding_terms
  winding_on r = winding_reading l s least (rotate s l) (drop (suc s) l ++ take s l) (rotate_at l O h) (perm_rotate s l) (round_rotate s l r)

  -- clockwise: backwards, and it is below 0
  pub outline_back : RoundEdges (live (edges (reverse l))) → Outline (corner_at l s) l (live (edges (backwards (rotate s l))))
  outline_back r = outline_reading l s least (backwards (rotate s l)) (reverse (drop (suc s) l ++ take s l)) backwards_at perm_back (round_backwards s l r)

  pub winding_back : RoundEdges (live (edges (reverse l))) → sumℤ (winding_terms s l) <ℤ pos 0
  unfolding winding_terms
  winding_back r =
      below_zero (winding_of (corner_at l s) (rotate s l)) (subst (λ k. pos 0 <ℤ k) (winding_backwards (corner_at l s) (rotate s l))
      (winding_reading l s least (backwards (rotate s l)) (reverse (drop (suc s) l ++ take s l)) backwards_at perm_back (round_backwards s l r)))
    where
      below_zero : (k : ℤ) → pos 0 <ℤ neg_ℤ k → k <ℤ pos 0
      below_zero k h = omega (zarith, neg_parts k)
