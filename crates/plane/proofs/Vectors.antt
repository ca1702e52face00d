-- Laws of vectors, cross and dot products and doubled areas, each by the ring solver. In order:
-- vectors (`pt_eq`, sums); cross (bilinear, antisymmetric) and dot (bilinear, symmetric); cross and
-- dot together (`cross_rot`, `jacobi_x`, `jacobi_y`); doubled areas (translation, cyclic, exchange,
-- the turn); zero (`is_zero_true`, `is_zero_false`).
-- Not here: the direction order (`Directions`). Assumes nothing.
use mathlib.Core.Path.{◌≡◌, refl, sym, ◌∙◌, ap}
use mathlib.Core.Bool.{Bool, true, false, cond}
use mathlib.Core.List.{[], ◌∷◌}
use lib.IntN.{ℤ, pos, neg_ℤ, ◌+ℤ◌, ◌*ℤ◌}
use Rattle.integers.specs.Test.{eq_z}
use Rattle.integers.proofs.Ring.{con, ◌:+◌, ◌:*◌, :neg, ◌:≡◌, ◌:≡ᵖ◌, pt, int, ring, ringᵖ}
use Rattle.integers.proofs.Tests.{eq_z_true, differ}
use Rattle.plane.specs.Plane.{Pt, O, ◌+ᵖ◌, ◌-ᵖ◌, negᵖ, cross, dot, rot, area_two, turn, is_zero}
use Rattle.plane.proofs.Terms.{OE, ◌+E◌, ◌-E◌, neg_e, cross_e, dot_e, rot_e, area_two_e, turn_e}

-- ---- vectors

pub pt_eq : {a b : Pt} → a.x ≡ b.x → a.y ≡ b.y → a ≡ b
pt_eq p q = λ i. record { x = p i; y = q i }

pub +ᵖ_comm : (a b : Pt) → a +ᵖ b ≡ b +ᵖ a
+ᵖ_comm = ringᵖ (pt ∷ pt ∷ []) (λ a b. a +E b :≡ᵖ b +E a) tt

pub +ᵖ_assoc : (a b c : Pt) → (a +ᵖ b) +ᵖ c ≡ a +ᵖ (b +ᵖ c)
+ᵖ_assoc = ringᵖ (pt ∷ pt ∷ pt ∷ []) (λ a b c. (a +E b) +E c :≡ᵖ a +E (b +E c)) tt

pub +ᵖ-zero : (a : Pt) → a +ᵖ O ≡ a
+ᵖ-zero = ringᵖ (pt ∷ []) (λ a. a +E OE :≡ᵖ a) tt

pub zero-+ᵖ : (a : Pt) → O +ᵖ a ≡ a
zero-+ᵖ = ringᵖ (pt ∷ []) (λ a. OE +E a :≡ᵖ a) tt

-- a + (b - a) = b
pub +ᵖ--ᵖ : (a b : Pt) → a +ᵖ (b -ᵖ a) ≡ b
+ᵖ--ᵖ = ringᵖ (pt ∷ pt ∷ []) (λ a b. a +E (b -E a) :≡ᵖ b) tt

pub negᵖ_negᵖ : (a : Pt) → negᵖ (negᵖ a) ≡ a
negᵖ_negᵖ = ringᵖ (pt ∷ []) (λ a. neg_e (neg_e a) :≡ᵖ a) tt

-- an edge of the contour turned through the origin is the edge negated
pub negᵖ_edge : (a b : Pt) → negᵖ b -ᵖ negᵖ a ≡ negᵖ (b -ᵖ a)
negᵖ_edge = ringᵖ (pt ∷ pt ∷ []) (λ a b. neg_e b -E neg_e a :≡ᵖ neg_e (b -E a)) tt

-- ---- cross

pub cross_add_l : (a b c : Pt) → cross (a +ᵖ b) c ≡ cross a c +ℤ cross b c
cross_add_l = ring (pt ∷ pt ∷ pt ∷ []) (λ a b c. cross_e (a +E b) c :≡ cross_e a c :+ cross_e b c) tt

pub cross_add_r : (a b c : Pt) → cross a (b +ᵖ c) ≡ cross a b +ℤ cross a c
cross_add_r = ring (pt ∷ pt ∷ pt ∷ []) (λ a b c. cross_e a (b +E c) :≡ cross_e a b :+ cross_e a c) tt

pub cross_scale : (k : ℤ) (a b : Pt) → cross (record { x = k *ℤ a.x; y = k *ℤ a.y }) b ≡ k *ℤ cross a b
cross_scale = ring (int ∷ pt ∷ pt ∷ []) (λ k a b. cross_e (record { x = k :* a.x; y = k :* a.y }) b :≡ k :* cross_e a b) tt

pub cross_swap : (a b : Pt) → cross a b ≡ neg_ℤ (cross b a)
cross_swap = ring (pt ∷ pt ∷ []) (λ a b. cross_e a b :≡ :neg (cross_e b a)) tt

pub cross_self : (a : Pt) → cross a a ≡ pos 0
cross_self = ring (pt ∷ []) (λ a. cross_e a a :≡ con (pos 0)) tt

pub cross_neg_l : (a b : Pt) → cross (negᵖ a) b ≡ neg_ℤ (cross a b)
cross_neg_l = ring (pt ∷ pt ∷ []) (λ a b. cross_e (neg_e a) b :≡ :neg (cross_e a b)) tt

pub cross_neg_neg : (a b : Pt) → cross (negᵖ a) (negᵖ b) ≡ cross a b
cross_neg_neg = ring (pt ∷ pt ∷ []) (λ a b. cross_e (neg_e a) (neg_e b) :≡ cross_e a b) tt

-- ---- dot

pub dot_add_l : (a b c : Pt) → dot (a +ᵖ b) c ≡ dot a c +ℤ dot b c
dot_add_l = ring (pt ∷ pt ∷ pt ∷ []) (λ a b c. dot_e (a +E b) c :≡ dot_e a c :+ dot_e b c) tt

pub dot_add_r : (a b c : Pt) → dot a (b +ᵖ c) ≡ dot a b +ℤ dot a c
dot_add_r = ring (pt ∷ pt ∷ pt ∷ []) (λ a b c. dot_e a (b +E c) :≡ dot_e a b :+ dot_e a c) tt

pub dot_scale : (k : ℤ) (a b : Pt) → dot (record { x = k *ℤ a.x; y = k *ℤ a.y }) b ≡ k *ℤ dot a b
dot_scale = ring (int ∷ pt ∷ pt ∷ []) (λ k a b. dot_e (record { x = k :* a.x; y = k :* a.y }) b :≡ k :* dot_e a b) tt

pub dot_comm : (a b : Pt) → dot a b ≡ dot b a
dot_comm = ring (pt ∷ pt ∷ []) (λ a b. dot_e a b :≡ dot_e b a) tt

-- ---- cross and dot together

-- the sign of a dot product is a comparison of directions
pub cross_rot : (u d : Pt) → cross u (rot d) ≡ dot d u
cross_rot = ring (pt ∷ pt ∷ []) (λ u d. cross_e u (rot_e d) :≡ dot_e d u) tt

-- (b × c) a + (c × a) b + (a × b) c = 0, by coordinate
pub jacobi_x : (a b c : Pt) → cross b c *ℤ a.x +ℤ cross c a *ℤ b.x +ℤ cross a b *ℤ c.x ≡ pos 0
jacobi_x = ring (pt ∷ pt ∷ pt ∷ []) (λ a b c. cross_e b c :* a.x :+ cross_e c a :* b.x :+ cross_e a b :* c.x :≡ con (pos 0)) tt

pub jacobi_y : (a b c : Pt) → cross b c *ℤ a.y +ℤ cross c a *ℤ b.y +ℤ cross a b *ℤ c.y ≡ pos 0
jacobi_y = ring (pt ∷ pt ∷ pt ∷ []) (λ a b c. cross_e b c :* a.y :+ cross_e c a :* b.y :+ cross_e a b :* c.y :≡ con (pos 0)) tt

-- ---- doubled areas

pub area_shift : (a b c t : Pt) → area_two (a +ᵖ t) (b +ᵖ t) (c +ᵖ t) ≡ area_two a b c
area_shift = ring (pt ∷ pt ∷ pt ∷ pt ∷ []) (λ a b c t. area_two_e (a +E t) (b +E t) (c +E t) :≡ area_two_e a b c) tt

pub area_cycle : (a b c : Pt) → area_two b c a ≡ area_two a b c
area_cycle = ring (pt ∷ pt ∷ pt ∷ []) (λ a b c. area_two_e b c a :≡ area_two_e a b c) tt

pub area_swap : (a b c : Pt) → area_two a c b ≡ neg_ℤ (area_two a b c)
area_swap = ring (pt ∷ pt ∷ pt ∷ []) (λ a b c. area_two_e a c b :≡ :neg (area_two_e a b c)) tt

pub area_is_turn : (a b c : Pt) → area_two a b c ≡ turn a b c
area_is_turn = ring (pt ∷ pt ∷ pt ∷ []) (λ a b c. area_two_e a b c :≡ turn_e a b c) tt

-- the sum of the crosses of neighbouring corners
pub area_crosses : (a b c : Pt) → area_two a b c ≡ cross a b +ℤ cross b c +ℤ cross c a
area_crosses = ring (pt ∷ pt ∷ pt ∷ []) (λ a b c. area_two_e a b c :≡ cross_e a b :+ cross_e b c :+ cross_e c a) tt

-- ---- zero

pub is_zero_true : (v : Pt) → is_zero v ≡ true → v ≡ O
unfolding is_zero
is_zero_true v = of (eq_z v.x (pos 0)) refl
  where
    of : (t : Bool) → eq_z v.x (pos 0) ≡ t → cond t (eq_z v.y (pos 0)) false ≡ true → v ≡ O
    of true e h = pt_eq (eq_z_true v.x (pos 0) e) (eq_z_true v.y (pos 0) h)
    of false e h = differ h

pub is_zero_false : {v : Pt} → is_zero v ≡ false → v ≡ O → ⊥
unfolding is_zero
is_zero_false h e = differ (sym h ∙ ap is_zero e)
