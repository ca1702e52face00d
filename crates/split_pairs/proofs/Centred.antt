-- A polygon cut about a centre to the left of each of its edges falls into polygons
-- (`centroid_polygons`). In order: the way round the contour, seen from the centre (`Around`); the
-- corners of a part ascend about the centre (`sweep`); one part; the groups. Assumes nothing.
use mathlib.Core.Path.{◌≡◌, sym, subst}
use mathlib.Core.Bool.{true}
use mathlib.Core.List.{List, [], ◌∷◌, ◌++◌, append_assoc}
use Prim.Native.Nat.{ℕ, zero, suc, ◌+◌, ◌-◌, ◌≤◌, ◌<◌}
use native.Mathlib.Omega.{arith}
use native.Mathlib.Numerals.{add-one}
use borrow.Author.Tests.{eqb-false}
use lib.Dec.{eqb}
use lib.ListN.{length, take, drop, length-append, length-drop}
use lib.IntN.{pos, ◌+ℤ◌, ◌*ℤ◌}
use lib.Signed.{lt_z}
use Rattle.integers.specs.Lists.{All, sumℕ, links, neighbours}
use Rattle.integers.proofs.Ring.{◌:+◌, ◌:*◌, ◌:≡◌, pt, ring}
use Rattle.integers.proofs.Order.{<-≤, by_test}
use Rattle.integers.proofs.Signs.{pos_add, pos_mul, pos_cancel, pos_is}
use Rattle.integers.proofs.Tests.{differ, lt_z-<}
use Rattle.integers.proofs.Elements.{all_map2, all_append}
use Rattle.plane.specs.Plane.{Pt, area_two}
use Rattle.plane.proofs.Terms.{area_two_e}
use Rattle.plane.proofs.Vectors.{area_cycle}
use Rattle.pair.proofs.Convex.{Sorted}
use Rattle.convex_pairs.proofs.Triples.{Left, Triples, Bends, triples_fan}
use Rattle.convex_pairs.proofs.Convexity.{Polygon, bends_front, triples_bends}
use Rattle.split.specs.Splitting.{left_of_all, taking, edges_taken, group_parts, sectors, ceil_div, shares, centroid_parts}
use Rattle.split.proofs.Shares.{sum_shares}
use Rattle.split.proofs.Sizes.{ceil_pos}
use Rattle.split.proofs.Sectors.{edges_taken_le}

-- ---- the way from corner to corner, seen from g

module _ (g : Pt) where
  -- g is to the left of each edge from a through l
  abbrev Spokes : Pt → List Pt → Type 0
  Spokes a [] = Unit {0}
  Spokes a (b ∷ l) = Left g a b × Spokes b l

  -- and the way bends to the left
  abbrev Around : List Pt → Type 0
  Around [] = Unit {0}
  Around (a ∷ []) = Unit {0}
  Around (a ∷ b ∷ l) = Spokes a (b ∷ l) × Bends a b l

  around_next : (a : Pt) (l : List Pt) → Around (a ∷ l) → Around l
  around_next a [] h = tt
  around_next a (b ∷ []) h = tt
  around_next a (b ∷ c ∷ l) h = (h.0.1, h.1.1)

  around_drop : (n : ℕ) (l : List Pt) → Around l → Around (drop n l)
  around_drop zero l h = h
  around_drop (suc n) [] h = tt
  around_drop (suc n) (a ∷ l) h = around_drop n l (around_next a l h)

  spokes_take : (n : ℕ) (a : Pt) (l : List Pt) → Spokes a l → Spokes a (take n l)
  spokes_take zero a l h = tt
  spokes_take (suc n) a [] h = tt
  spokes_take (suc n) a (b ∷ l) h = (h.0, spokes_take n b l h.1)

bends_take : (n : ℕ) (a b : Pt) (l : List Pt) → Bends a b l → Bends a b (take n l)
bends_take zero a b l h = tt
bends_take (suc n) a b [] h = tt
bends_take (suc n) a b (c ∷ l) h = (h.0, bends_take n b c l h.1)

-- ---- the corners of a part ascend about g

-- (g a c)(g b x) = (g a b)(g c x) + (g a x)(g b c), each the doubled area of three points
past : (g a b c x : Pt) → Left g a c → Left g a b → Left g c x → Left g a x → Left g b c → Left g b x
past g a b c x ac ab cx ax bc = pos_cancel ac (pos_is (wedges g a b c x) (pos_add (pos_mul ab cx) (<-≤ (pos_mul ax bc))))
  where
    wedges : (g a b c x : Pt) → area_two g a c *ℤ area_two g b x ≡ area_two g a b *ℤ area_two g c x +ℤ area_two g a x *ℤ area_two g b c
    wedges =
        ring (pt ∷ pt ∷ pt ∷ pt ∷ pt ∷ [])
        (λ g a b c x. area_two_e g a c :* area_two_e g b x :≡ area_two_e g a b :* area_two_e g c x :+ area_two_e g a x :* area_two_e g b c) tt

-- all less than half a turn past a, each past the one before
sweep : (g a b : Pt) (l : List Pt) → All (Left g a) (b ∷ l) → Spokes g b l → Sorted (Left g) (b ∷ l)
sweep g a b [] h s = (tt, tt)
sweep g a b (c ∷ l) h s =
    let r = sweep g a c l h.1 s.1 in
    ((s.0, all_map2 l (λ x cx ax. past g a b c x h.1.0 h.0 cx ax s.0) r.0 h.1.1), r)

-- "a group ends early when the centre, its first corner and the next end make no positive turn"
taken_left : (g a : Pt) (r : ℕ) (l : List Pt) → All (Left g a) (take (taking g a r l) l)
unfolding taking
taken_left g a zero l = tt
taken_left g a (suc r) [] = tt
taken_left g a (suc r) (c ∷ l) = by_test (lt_z (pos 0) (area_two g a c)) (λ e. rw e (lt_z-< (pos 0) (area_two g a c) e, taken_left g a r l)) (λ e. rw e tt)

-- ---- one part

about_triples : (g a b : Pt) (l : List Pt) → All (Left g a) l → Around g (a ∷ b ∷ l) → Triples (g ∷ a ∷ b ∷ l)
about_triples g a b l h k =
    let s : Sorted (Left g) (a ∷ b ∷ l) = ((k.0.0, h), sweep g a b l (k.0.0, h) k.0.1) in
    (s, triples_fan g a b l s k.1)

-- the part of a group of s edges that starts at the first of l
group_polygon : {g : Pt} (s : ℕ) (l : List Pt) → 0 < s → s < length l → Around g l → Polygon (g ∷ take (edges_taken g s l + 1) l)
group_polygon s [] z h k = absurd (omega arith)
group_polygon s (a ∷ []) z h k = absurd (omega arith)
group_polygon {g} s (a ∷ b ∷ l) z h k =
    let t : ℕ = taking g a (s - 1) l in
    subst (λ n. Polygon (g ∷ take n (a ∷ b ∷ l))) (sym (add-one (suc t)))
    (record {
      long = omega arith;
      triples = about_triples g a b (take t l) (taken_left g a (s - 1) l) ((k.0.0, spokes_take g t b l k.0.1), bends_take t a b l k.1);
    })

-- ---- the groups

group_polygons : (n : ℕ) (g : Pt) {s : ℕ} (l : List Pt) → s < length l → Around g l → All Polygon (group_parts n g s l)
unfolding group_parts
group_polygons zero g {s} l h k = tt
group_polygons (suc n) g {s} l h k =
    by_test (eqb s 0) (λ e. rw e tt)
    (λ d.
    let z : s ≡ 0 → ⊥ = eqb-false s 0 d in
    let e : ℕ = edges_taken g s l in
    let few : e ≤ s = edges_taken_le g l (omega (arith, z)) in
    rw d (group_polygon s l (omega (arith, z)) h k, group_polygons n g (drop e l) (omega (arith, few, length-drop e l)) (around_drop g e l k)))

sector_polygons : (ss : List ℕ) (g : Pt) (l : List Pt) → sumℕ ss < length l → Around g l → All Polygon (sectors ss g l)
unfolding sectors sumℕ
sector_polygons [] g l h k = tt
sector_polygons (s ∷ ss) g l h k =
    (all_append Polygon (group_parts s g s l) (sectors ss g (drop s l))).1
    (group_polygons s g l (omega (arith, h)) k, sector_polygons ss g (drop s l) (omega (arith, h, length-drop s l)) (around_drop g s l k))

-- ---- round the contour

-- to the left of each edge
spokes_of : (g a : Pt) (l : List Pt) → left_of_all g (links a l) ≡ true → Spokes g a l
unfolding links left_of_all
spokes_of g a [] h = tt
spokes_of g a (b ∷ l) h =
    by_test (lt_z (pos 0) (area_two a b g)) (λ e. (pos_is (sym (area_cycle g a b)) (lt_z-< (pos 0) (area_two a b g) e), spokes_of g b l (rw e at h))) (λ e. differ (rw e at h))

around_contour : (g : Pt) {c : Pt} (l : List Pt) → Polygon (c ∷ l) → left_of_all g (neighbours (c ∷ l)) ≡ true → Around g (c ∷ l ++ (c ∷ []))
unfolding neighbours
around_contour g [] p h = absurd (omega (arith, p.long))
around_contour g (a ∷ []) p h = absurd (omega (arith, p.long))
around_contour g {c} (a ∷ b ∷ l) p h = (
  spokes_of g c (a ∷ b ∷ l ++ (c ∷ [])) h,
  bends_front c a (b ∷ l ++ (c ∷ [])) a (subst (Bends c a) (sym (append_assoc (b ∷ l) (c ∷ []) (a ∷ []))) (triples_bends c a b l p.triples)),
)

pub centroid_polygons : {m : ℕ} (g : Pt) {c : Pt} {l : List Pt} → 3 ≤ m → Polygon (c ∷ l) → left_of_all g (neighbours (c ∷ l)) ≡ true → All Polygon (centroid_parts m g c (c ∷ l))
centroid_polygons {m} g {c} {l} h p t =
    let k : ℕ = ceil_div (suc (length l)) (m - 2) in
    let all : sumℕ (shares (suc (length l)) k) ≡ suc (length l) = sum_shares (suc (length l)) (ceil_pos (omega arith) (omega arith)) in
    let size : length (c ∷ l ++ (c ∷ [])) ≡ suc (length l) + 1 = length-append (c ∷ l) (c ∷ []) in
    sector_polygons (shares (suc (length l)) k) g (c ∷ l ++ (c ∷ [])) (omega (arith, all, size)) (around_contour g l p t)
