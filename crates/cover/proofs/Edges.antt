-- How far a point is left of an edge, as a linear form: terms for the solver, its coefficients
-- (`side_form`, `area_form`), scaled and added (`side_scale`, `side_add`); the direction whose
-- reach is an edge's (`normal`). Assumes nothing.
use mathlib.Core.Path.{◌≡◌}
use mathlib.Core.List.{[], ◌∷◌}
use lib.IntN.{ℤ, neg_ℤ, ◌+ℤ◌, ◌*ℤ◌}
use Rattle.integers.proofs.Ring.{Expr, ◌:+◌, ◌:*◌, :neg, ◌:≡◌, ◌:≡ᵖ◌, pt, int, ring, ringᵖ}
use Rattle.plane.specs.Plane.{Pt, ◌+ᵖ◌, ◌-ᵖ◌, cross, dot, rot, area_two}
use Rattle.plane.proofs.Terms.{PtE, ◌+E◌, ◌-E◌, cross_e, dot_e, rot_e, area_two_e}
use Rattle.cover.specs.Inside.{◌·ᵖ◌, side}

-- k times a, for the solver
infixl 70 ◌·E◌
abbrev pub ◌·E◌ : Expr → PtE → PtE
k ·E a = record { x = k :* a.x; y = k :* a.y }

pub side_form : (a b : Pt) (q : ℤ) (z : Pt) → side (a, b) q z ≡ cross (b -ᵖ a) z +ℤ neg_ℤ (cross (b -ᵖ a) a) *ℤ q
side_form = ring (pt ∷ pt ∷ int ∷ pt ∷ []) (λ a b q z. cross_e (b -E a) (z -E q ·E a) :≡ cross_e (b -E a) z :+ :neg (cross_e (b -E a) a) :* q) tt

-- of a corner
pub area_form : (a b c : Pt) → area_two a b c ≡ cross (b -ᵖ a) c +ℤ neg_ℤ (cross (b -ᵖ a) a)
area_form = ring (pt ∷ pt ∷ pt ∷ []) (λ a b c. area_two_e a b c :≡ cross_e (b -E a) c :+ :neg (cross_e (b -E a) a)) tt

pub side_scale : (k : ℤ) (a b : Pt) (q : ℤ) (z : Pt) → side (a, b) (k *ℤ q) (k ·ᵖ z) ≡ k *ℤ side (a, b) q z
side_scale = ring (int ∷ pt ∷ pt ∷ int ∷ pt ∷ []) (λ k a b q z. cross_e (b -E a) (k ·E z -E (k :* q) ·E a) :≡ k :* cross_e (b -E a) (z -E q ·E a)) tt

pub side_add : (a b : Pt) (q : ℤ) (z : Pt) (r : ℤ) (w : Pt) → side (a, b) (q +ℤ r) (z +ᵖ w) ≡ side (a, b) q z +ℤ side (a, b) r w
side_add = ring (pt ∷ pt ∷ int ∷ pt ∷ int ∷ pt ∷ []) (λ a b q z r w. cross_e (b -E a) ((z +E w) -E (q :+ r) ·E a) :≡ cross_e (b -E a) (z -E q ·E a) :+ cross_e (b -E a) (w -E r ·E a)) tt

-- to the right of r, a quarter turn
abbrev pub right_of : Pt → Pt
right_of r = record { x = r.y; y = neg_ℤ r.x }

pub rot_right : (r : Pt) → rot (right_of r) ≡ r
rot_right = ringᵖ (pt ∷ []) (λ r. rot_e (record { x = r.y; y = :neg r.x }) :≡ᵖ r) tt

pub normal : (r c : Pt) → dot (right_of r) c ≡ cross c r
normal = ring (pt ∷ pt ∷ []) (λ r c. dot_e (record { x = r.y; y = :neg r.x }) c :≡ cross_e c r) tt
