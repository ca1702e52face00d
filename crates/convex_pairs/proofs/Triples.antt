-- Lists of corners any three of which, in their order, turn left (`Triples`). In order: the first
-- and the other elements of a list (`all_take`, `all_drop`); sorted lists; fewer corners
-- (`triples_take`, `triples_drop`, `triples_after`); the corners from another start
-- (`triples_cycle`, `triples_rotate`); from neighbours to all (`triples_fan`): where the corners
-- ascend about a point and each three neighbours turn left, any three do. Assumes nothing.
use mathlib.Core.Path.{◌≡◌, sym, subst}
use mathlib.Core.List.{List, [], ◌∷◌, ◌++◌, append-nil, append_assoc}
use Prim.Native.Nat.{ℕ, zero, suc}
use lib.ListN.{take, drop, take-append-drop}
use lib.IntN.{pos, ◌+ℤ◌, ◌*ℤ◌}
use lib.Signed.{◌<ℤ◌}
use Rattle.integers.specs.Lists.{All, rotate}
use Rattle.integers.proofs.Ring.{◌:+◌, ◌:*◌, ◌:≡◌, pt, ring}
use Rattle.integers.proofs.Order.{<-≤}
use Rattle.integers.proofs.Signs.{pos_add, pos_mul, pos_cancel, pos_is}
use Rattle.integers.proofs.Elements.{all_map, all_map2, all_append}
use Rattle.integers.proofs.Rotation.{rotate_eq}
use Rattle.plane.specs.Plane.{Pt, area_two}
use Rattle.plane.proofs.Terms.{area_two_e}
use Rattle.plane.proofs.Vectors.{area_cycle}
use Rattle.pair.proofs.Convex.{Sorted}

-- a, b, c run counter-clockwise
abbrev pub Left : Pt → Pt → Pt → Type 0
Left a b c = pos 0 <ℤ area_two a b c

-- any three, in their order
abbrev pub Triples : List Pt → Type 0
Triples [] = Unit {0}
Triples (a ∷ l) = Sorted (Left a) l × Triples l

-- each three neighbours of a ∷ b ∷ l, from a to the last
abbrev pub Bends : Pt → Pt → List Pt → Type 0
Bends a b [] = Unit {0}
Bends a b (c ∷ l) = Left a b c × Bends b c l

-- ---- sorted lists

module _ (P : Pt → Type 0) (n : ℕ) (l : List Pt) (h : All P l) where
  -- in two
  in_two : All P (take n l) × All P (drop n l)
  in_two = (all_append P (take n l) (drop n l)).0 (subst (All P) (sym (take-append-drop n l)) h)

  pub all_take : All P (take n l)
  all_take = in_two.0

  pub all_drop : All P (drop n l)
  all_drop = in_two.1

module _ (R : Pt → Pt → Type 0) where
  -- a weaker relation
  pub sorted_map : {S : Pt → Pt → Type 0} → ((a b : Pt) → R a b → S a b) → (l : List Pt) → Sorted R l → Sorted S l
  sorted_map {S} f [] h = tt
  sorted_map {S} f (a ∷ l) h = (all_map l (f a) h.0, sorted_map f l h.1)

  -- one more at the end
  sorted_snoc : (l : List Pt) (x : Pt) → Sorted R l → All (λ a. R a x) l → Sorted R (l ++ (x ∷ []))
  sorted_snoc [] x h k = (tt, tt)
  sorted_snoc (a ∷ l) x h k = ((all_append (R a) l (x ∷ [])).1 (h.0, (k.0, tt)), sorted_snoc l x h.1 k.1)

  -- the first ones
  pub sorted_take : (n : ℕ) (l : List Pt) → Sorted R l → Sorted R (take n l)
  sorted_take zero l h = tt
  sorted_take (suc n) [] h = tt
  sorted_take (suc n) (a ∷ l) h = (all_take (R a) n l h.0, sorted_take n l h.1)

  -- the others
  pub sorted_drop : (n : ℕ) (l : List Pt) → Sorted R l → Sorted R (drop n l)
  sorted_drop zero l h = h
  sorted_drop (suc n) [] h = tt
  sorted_drop (suc n) (a ∷ l) h = sorted_drop n l h.1

-- ---- fewer corners

pub triples_take : (n : ℕ) (l : List Pt) → Triples l → Triples (take n l)
triples_take zero l h = tt
triples_take (suc n) [] h = tt
triples_take (suc n) (a ∷ l) h = (sorted_take (Left a) n l h.0, triples_take n l h.1)

pub triples_drop : (n : ℕ) (l : List Pt) → Triples l → Triples (drop n l)
triples_drop zero l h = h
triples_drop (suc n) [] h = tt
triples_drop (suc n) (a ∷ l) h = triples_drop n l h.1

-- the first, and then from another on
pub triples_after : (n : ℕ) (a : Pt) (l : List Pt) → Triples (a ∷ l) → Triples (a ∷ drop n l)
triples_after n a l h = (sorted_drop (Left a) n l h.0, triples_drop n l h.1)

-- ---- from another start

-- one more at the end, left of any two before it
triples_snoc : (l : List Pt) (x : Pt) → Triples l → Sorted (λ a b. Left a b x) l → Triples (l ++ (x ∷ []))
triples_snoc [] x h k = (tt, tt)
triples_snoc (a ∷ l) x h k = (sorted_snoc (Left a) l x h.0 k.0, triples_snoc l x h.1 k.1)

-- the first put last: area b c a = area a b c
pub triples_cycle : (a : Pt) (l : List Pt) → Triples (a ∷ l) → Triples (l ++ (a ∷ []))
triples_cycle a l h = triples_snoc l a h.1 (sorted_map (Left a) (λ b c k. pos_is (area_cycle a b c) k) l h.0)

-- the first ones put last, one by one
triples_swap : (a b : List Pt) → Triples (a ++ b) → Triples (b ++ a)
triples_swap [] b h = rw append-nil h
triples_swap (x ∷ a) b h =
    subst Triples (append_assoc b (x ∷ []) a)
    (triples_swap a (b ++ (x ∷ [])) (subst Triples (append_assoc a b (x ∷ [])) (triples_cycle x (a ++ b) h)))

pub triples_rotate : (k : ℕ) (l : List Pt) → Triples l → Triples (rotate k l)
triples_rotate k l h = subst Triples (sym (rotate_eq k l)) (triples_swap (take k l) (drop k l) (subst Triples (sym (take-append-drop k l)) h))

-- ---- from neighbours to all

-- (g b c)(a b x) = (g a b)(b c x) + (g b x)(a b c), each the doubled area of three points
onward : (g a b c x : Pt) → Left g b c → Left g a b → Left b c x → Left g b x → Left a b c → Left a b x
onward g a b c x bc ab bcx bx abc = pos_cancel bc (pos_is (wedges g a b c x) (pos_add (pos_mul ab bcx) (<-≤ (pos_mul bx abc))))
  where
    wedges : (g a b c x : Pt) → area_two g b c *ℤ area_two a b x ≡ area_two g a b *ℤ area_two b c x +ℤ area_two g b x *ℤ area_two a b c
    wedges =
        ring (pt ∷ pt ∷ pt ∷ pt ∷ pt ∷ [])
        (λ g a b c x. area_two_e g b c :* area_two_e a b x :≡ area_two_e g a b :* area_two_e b c x :+ area_two_e g b x :* area_two_e a b c) tt

-- (g b x)(a x y) = (g a x)(b x y) + (g x y)(a b x)
across : (g a b x y : Pt) → Left g b x → Left g a x → Left b x y → Left g x y → Left a b x → Left a x y
across g a b x y bx ax bxy xy abx = pos_cancel bx (pos_is (wedges g a b x y) (pos_add (pos_mul ax bxy) (<-≤ (pos_mul xy abx))))
  where
    wedges : (g a b x y : Pt) → area_two g b x *ℤ area_two a x y ≡ area_two g a x *ℤ area_two b x y +ℤ area_two g x y *ℤ area_two a b x
    wedges =
        ring (pt ∷ pt ∷ pt ∷ pt ∷ pt ∷ [])
        (λ g a b x y. area_two_e g b x :* area_two_e a x y :≡ area_two_e g a x :* area_two_e b x y :+ area_two_e g x y :* area_two_e a b x) tt

-- what holds of b, next to a, and of a and b holds of a
across_all : (g a b : Pt) (l : List Pt) → All (Left g b) l → All (Left g a) l → All (Left a b) l → Sorted (Left b) l → Sorted (Left g) l → Sorted (Left a) l
across_all g a b [] gb ga ab sb sg = tt
across_all g a b (x ∷ l) gb ga ab sb sg =
    (all_map2 l (λ y bxy gxy. across g a b x y gb.0 ga.0 bxy gxy ab.0) sb.0 sg.0, across_all g a b l gb.1 ga.1 ab.1 sb.1 sg.1)

-- ascending about g, each three neighbours turning left
pub triples_fan : (g a b : Pt) (l : List Pt) → Sorted (Left g) (a ∷ b ∷ l) → Bends a b l → Triples (a ∷ b ∷ l)
triples_fan g a b [] s h = ((tt, tt), (tt, tt))
triples_fan g a b (c ∷ l) s h =
    let r = triples_fan g b c l s.1 h.1 in
    let ab : All (Left a b) (c ∷ l) = (h.0, all_map2 l (λ x gbx bcx. onward g a b c x s.1.0.0 s.0.0 bcx gbx h.0) s.1.0.1 r.0.0) in
    ((ab, across_all g a b (c ∷ l) s.1.0 s.0.1 ab r.0 s.1.1), r)
