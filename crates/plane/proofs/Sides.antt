-- Vectors added up and their directions. In order: equations of vectors; from an equation of sums
-- to one of vectors; vectors on one line (`Line`); the upper half and sums (`up_add`, `add_same`);
-- a test with its fact (`Ahead`); where edges in ascending order lie left and right of a direction
-- r. Assumes nothing.
use mathlib.Core.Path.{◌≡◌, sym, ◌∙◌, ap, subst}
use mathlib.Core.Bool.{Bool, true, false}
use mathlib.Core.List.{[], ◌∷◌}
use native.Mathlib.Omega.{arith}
use lib.IntN.{ℤ, pos, neg_ℤ, ◌-ℤ◌, ◌*ℤ◌}
use lib.Signed.{◌≤ℤ◌, ◌<ℤ◌}
use Rattle.integers.proofs.Laws.{negℤ_*ℤ}
use Rattle.integers.proofs.Ring.{con, ◌:-◌, ◌:*◌, ◌:≡◌, ◌:≡ᵖ◌, pt, int, ring, ringᵖ}
use Rattle.integers.proofs.Order.{zarith, add_parts, <-≤}
use Rattle.integers.proofs.Arith.{◌:≤◌, ◌:<◌, ◌:=◌, ◌⇒◌, :⊥, arithℤ}
use Rattle.integers.proofs.Signs.{zero_cancel}
use Rattle.plane.specs.Plane.{Pt, O, ◌+ᵖ◌, ◌-ᵖ◌, negᵖ, cross, area_two, lower, angle_cmp, is_less}
use Rattle.plane.proofs.Terms.{OE, ◌+E◌, ◌-E◌, neg_e, cross_e, area_two_e}
use Rattle.plane.proofs.Vectors.{pt_eq, cross_neg_neg}
use Rattle.plane.specs.Halves.{Up, above, level, sgn, Nz}
use Rattle.plane.proofs.Directions.{up_trans, LeAt, LtAt, Le, Lt, Same, before, beside, after, angle_cases, le_trans, lt_le, clash, same_le, lower_up, lower_down, nz_of_up, nz_of_down}

-- ---- equations of vectors

-- - a + - b = - (a + b)
pub negᵖ_add : (a b : Pt) → negᵖ a +ᵖ negᵖ b ≡ negᵖ (a +ᵖ b)
negᵖ_add = ringᵖ (pt ∷ pt ∷ []) (λ a b. neg_e a +E neg_e b :≡ᵖ neg_e (a +E b)) tt

-- a + (b + c) = (b + a) + c
pub +ᵖ_left : (a b c : Pt) → a +ᵖ (b +ᵖ c) ≡ (b +ᵖ a) +ᵖ c
+ᵖ_left = ringᵖ (pt ∷ pt ∷ pt ∷ []) (λ a b c. a +E (b +E c) :≡ᵖ (b +E a) +E c) tt

-- (p + a) + b = p + (b + a)
pub +ᵖ_next : (p a b : Pt) → (p +ᵖ a) +ᵖ b ≡ p +ᵖ (b +ᵖ a)
+ᵖ_next = ringᵖ (pt ∷ pt ∷ pt ∷ []) (λ p a b. (p +E a) +E b :≡ᵖ p +E (b +E a)) tt

-- (p + q) + (a + b) = (p + a) + (q + b)
pub +ᵖ_cross : (p q a b : Pt) → (p +ᵖ q) +ᵖ (a +ᵖ b) ≡ (p +ᵖ a) +ᵖ (q +ᵖ b)
+ᵖ_cross = ringᵖ (pt ∷ pt ∷ pt ∷ pt ∷ []) (λ p q a b. (p +E q) +E (a +E b) :≡ᵖ (p +E a) +E (q +E b)) tt

-- (a - a) × (c - a) = 0, and (b - a) × (a - a) = 0
pub area_first : (a c : Pt) → area_two a a c ≡ pos 0
area_first = ring (pt ∷ pt ∷ []) (λ a c. area_two_e a a c :≡ con (pos 0)) tt

pub area_ends : (a b : Pt) → area_two a b a ≡ pos 0
area_ends = ring (pt ∷ pt ∷ []) (λ a b. area_two_e a b a :≡ con (pos 0)) tt

-- (p + a) - p = a
pub +ᵖ_sub : (p a : Pt) → (p +ᵖ a) -ᵖ p ≡ a
+ᵖ_sub = ringᵖ (pt ∷ pt ∷ []) (λ p a. (p +E a) -E p :≡ᵖ a) tt

-- p - p = 0
pub sub_self : (p : Pt) → p -ᵖ p ≡ O
sub_self = ringᵖ (pt ∷ []) (λ p. p -E p :≡ᵖ OE) tt

-- 0 × v = 0
pub cross_zero_l : (v : Pt) → cross O v ≡ pos 0
cross_zero_l = ring (pt ∷ []) (λ v. cross_e OE v :≡ con (pos 0)) tt

-- v × 0 = 0
pub cross_zero_r : (v : Pt) → cross v O ≡ pos 0
cross_zero_r = ring (pt ∷ []) (λ v. cross_e v OE :≡ con (pos 0)) tt

-- (- r) × b = b × r
pub cross_neg_swap_l : (r b : Pt) → cross (negᵖ r) b ≡ cross b r
cross_neg_swap_l = ring (pt ∷ pt ∷ []) (λ r b. cross_e (neg_e r) b :≡ cross_e b r) tt

-- r × (- b) = b × r
pub cross_neg_swap_r : (r b : Pt) → cross r (negᵖ b) ≡ cross b r
cross_neg_swap_r = ring (pt ∷ pt ∷ []) (λ r b. cross_e r (neg_e b) :≡ cross_e b r) tt

-- ---- from an equation of sums to one of vectors

-- a - b = 0, so a = b
coordinate : {a b : ℤ} → (a -ℤ b) ≡ pos 0 → a ≡ b
coordinate {a} {b} = of a b
  where
    of : (a b : ℤ) → (a -ℤ b) ≡ pos 0 → a ≡ b
    of = arithℤ (int ∷ int ∷ []) (λ a b. a :- b := con (pos 0) ⇒ a := b) (omega arith)

-- a - b = 0, so a = b
pub sub_zero : {a b : Pt} → a -ᵖ b ≡ O → a ≡ b
sub_zero e = pt_eq (coordinate (ap (λ v. v.x) e)) (coordinate (ap (λ v. v.y) e))

-- p + a = p + b, so a = b
pub +ᵖ_cancel : (p a b : Pt) → p +ᵖ a ≡ p +ᵖ b → a ≡ b
+ᵖ_cancel p a b e = sym (+ᵖ_sub p a) ∙ ap (λ v. v -ᵖ p) e ∙ +ᵖ_sub p b

-- a + b = 0, so a = - b
pub neg_of_sum : (a b : Pt) → a +ᵖ b ≡ O → a ≡ negᵖ b
neg_of_sum a b e = sub_zero (move a b ∙ e)
  where
    move : (a b : Pt) → a -ᵖ negᵖ b ≡ a +ᵖ b
    move = ringᵖ (pt ∷ pt ∷ []) (λ a b. a -E neg_e b :≡ᵖ a +E b) tt

-- ---- vectors on one line

-- g lies along v
abbrev pub Line : Pt → Pt → Type 0
Line v g = cross g v ≡ pos 0

-- u along v, so v along u
pub line_swap : (u v : Pt) → Line v u → Line u v
line_swap = arithℤ (pt ∷ pt ∷ []) (λ u v. cross_e u v := con (pos 0) ⇒ cross_e v u := con (pos 0)) (omega arith)

-- a and b along v, so their sum
pub line_add : (v a b : Pt) → Line v a → Line v b → Line v (a +ᵖ b)
line_add v a b = of a b v
  where
    of : (a b v : Pt) → cross a v ≡ pos 0 → cross b v ≡ pos 0 → cross (a +ᵖ b) v ≡ pos 0
    of = arithℤ (pt ∷ pt ∷ pt ∷ []) (λ a b v. cross_e a v := con (pos 0) ⇒ cross_e b v := con (pos 0) ⇒ cross_e (a +E b) v := con (pos 0)) (omega arith)

-- s k = 0 with s ≠ 0, so k = 0
nz_cancel : (p : Bool) (s : Pt) (k : ℤ) → Up (sgn p s) → s.x *ℤ k ≡ pos 0 → s.y *ℤ k ≡ pos 0 → k ≡ pos 0
nz_cancel false s k (above h) a b = zero_cancel h b
nz_cancel false s k (level e h) a b = zero_cancel h a
nz_cancel true s k (above h) a b = zero_cancel h (negℤ_*ℤ s.y k ∙ ap neg_ℤ b)
nz_cancel true s k (level e h) a b = zero_cancel h (negℤ_*ℤ s.x k ∙ ap neg_ℤ a)

-- u along v and b along u ≠ 0, so b along v: (b × v) u = (u × v) b - (u × b) v
pub line_trans : (v : Pt) {u : Pt} (b : Pt) → Nz u → Line v u → Line u b → Line v b
line_trans v {u} b n h k =
    nz_cancel (lower u) u (cross b v) n.nz
    (along_x u b v ∙ (λ i. b.x *ℤ h i -ℤ v.x *ℤ line_swap b u k i) ∙ none b.x v.x)
    (along_y u b v ∙ (λ i. b.y *ℤ h i -ℤ v.y *ℤ line_swap b u k i) ∙ none b.y v.y)
  where
    along_x : (u b v : Pt) → u.x *ℤ cross b v ≡ b.x *ℤ cross u v -ℤ v.x *ℤ cross u b
    along_x = ring (pt ∷ pt ∷ pt ∷ []) (λ u b v. u.x :* cross_e b v :≡ b.x :* cross_e u v :- v.x :* cross_e u b) tt

    along_y : (u b v : Pt) → u.y *ℤ cross b v ≡ b.y *ℤ cross u v -ℤ v.y *ℤ cross u b
    along_y = ring (pt ∷ pt ∷ pt ∷ []) (λ u b v. u.y :* cross_e b v :≡ b.y :* cross_e u v :- v.y :* cross_e u b) tt

    none : (k l : ℤ) → k *ℤ pos 0 -ℤ l *ℤ pos 0 ≡ pos 0
    none = ring (int ∷ int ∷ []) (λ k l. k :* con (pos 0) :- l :* con (pos 0) :≡ con (pos 0)) tt

-- ---- the upper half and sums

-- not zero and not in the lower half
pub nz_up : {v : Pt} → Nz v → lower v ≡ false → Up v
nz_up {v} n e = subst (λ s. Up (sgn s v)) e n.nz

-- not zero and in the lower half
pub nz_down : {v : Pt} → Nz v → lower v ≡ true → Up (negᵖ v)
nz_down {v} n e = subst (λ s. Up (sgn s v)) e n.nz

-- the upper half is closed under sums
pub up_add : {a b : Pt} → Up a → Up b → Up (a +ᵖ b)
up_add {a} {b} (above h) (above k) = above (omega (zarith, add_parts a.y b.y))
up_add {a} {b} (above h) (level e k) = above (omega (zarith, add_parts a.y b.y))
up_add {a} {b} (level d h) (above k) = above (omega (zarith, add_parts a.y b.y))
up_add {a} {b} (level d h) (level e k) = level (omega (zarith, add_parts a.y b.y)) (omega (zarith, add_parts a.x b.x))

-- and so is the lower
pub down_add : (a b : Pt) → Up (negᵖ a) → Up (negᵖ b) → Up (negᵖ (a +ᵖ b))
down_add a b h k = subst Up (negᵖ_add a b) (up_add h k)

-- two of one direction: their sum has it too
pub record AddSame (a b : Pt) : Type 0 where
  pub nonzero : Nz (a +ᵖ b)
  pub same : Same (a +ᵖ b) b

-- (a + b) × b = a × b
pub add_same : {a b : Pt} → Nz a → Nz b → Same a b → AddSame a b
add_same {a} {b} na nb s =
    let h = in_half (lower b) (subst (λ p. Up (sgn p a)) s.half na.nz) nb.nz in
    record { nonzero = h.0; same = record { half = h.1; flat = flat' a b s.flat } }
  where
    in_half : (p : Bool) → Up (sgn p a) → Up (sgn p b) → Nz (a +ᵖ b) × (lower (a +ᵖ b) ≡ p)
    in_half false h k = (nz_of_up (up_add h k), lower_up (up_add h k))
    in_half true h k = (nz_of_down (down_add a b h k), lower_down (a +ᵖ b) (down_add a b h k))

    flat' : (a b : Pt) → cross a b ≡ pos 0 → cross (a +ᵖ b) b ≡ pos 0
    flat' = arithℤ (pt ∷ pt ∷ []) (λ a b. cross_e a b := con (pos 0) ⇒ cross_e (a +E b) b := con (pos 0)) (omega arith)

-- ---- whether u's direction comes before v's, with what it means

pub data Ahead (u v : Pt) : Type 0 where
  ahead : is_less (angle_cmp u v) ≡ true → Lt u v → Ahead u v
  behind : is_less (angle_cmp u v) ≡ false → Le v u → Ahead u v

-- the test decides
pub ahead_cases : (u v : Pt) → Ahead u v
ahead_cases u v = elim (angle_cases u v) [
  | before e h ↦ ahead (ap is_less e) h
  | beside e s ↦ behind (ap is_less e) (same_le s).1
  | after e h ↦ behind (ap is_less e) (lt_le h)
]

-- before, so the test passes
pub lt_ahead : {u v : Pt} → Lt u v → is_less (angle_cmp u v) ≡ true
lt_ahead {u} {v} h = elim (ahead_cases u v) [ ahead e k ↦ e | behind e k ↦ absurd (clash h k) ]

-- not before, so it fails
pub le_behind : {u v : Pt} → Le v u → is_less (angle_cmp u v) ≡ false
le_behind {u} {v} h = elim (ahead_cases u v) [ ahead e k ↦ absurd (clash k h) | behind e k ↦ e ]

-- the test does not tell two of one direction apart
pub ahead_same : {a b : Pt} {r : Pt} → Nz a → Nz b → Nz r → Same a b → is_less (angle_cmp a r) ≡ is_less (angle_cmp b r)
ahead_same {a} {b} {r} na nb nr s = elim (ahead_cases b r) [
  | ahead e h ↦ lt_ahead (lt_of h) ∙ sym e
  | behind e h ↦ le_behind (le_trans nr nb na h (same_le s).1) ∙ sym e
]
  where
    lt_of : Lt b r → Lt a r
    lt_of h = elim (ahead_cases a r) [ ahead e k ↦ k | behind e k ↦ absurd (clash h (le_trans nr na nb k (same_le s).0)) ]

-- before, or the same direction: with the cross not 0 it is before
pub le_lt : {a b : Pt} → Le a b → ¬ (cross a b ≡ pos 0) → Lt a b
le_lt {a} {b} h n = elim (angle_cases a b) [ before e l ↦ l | beside e s ↦ absurd (n s.flat) | after e l ↦ absurd (clash l h) ]

-- ---- edges in ascending order, left (e × r ≥ 0) or right (r × e ≥ 0) of r. Each has one case that
-- is not of one half, by `up_trans`

-- a × b above 0 and b × a at least 0 exclude each other
not_both : {X : Type 0} (a b : Pt) → pos 0 <ℤ cross a b → pos 0 ≤ℤ cross b a → X
not_both a b h k = absurd (of a b h k)
  where
    of : (a b : Pt) → pos 0 <ℤ cross a b → pos 0 ≤ℤ cross b a → ⊥
    of = arithℤ (pt ∷ pt ∷ []) (λ a b. con (pos 0) :< cross_e a b ⇒ con (pos 0) :≤ cross_e b a ⇒ :⊥) (omega arith)

-- at least 0, by an equation
at_least : {k m : ℤ} → k ≡ m → pos 0 ≤ℤ k → pos 0 ≤ℤ m
at_least e h = subst (λ z. pos 0 ≤ℤ z) e h

-- b ≤ e < r
pub between_left : {b e r : Pt} → Nz b → Nz e → Nz r → Le b e → Lt e r → pos 0 ≤ℤ cross b r → pos 0 ≤ℤ cross e r
between_left {b} {e} {r} nb ne nr h k l = at (lower b) (lower e) (lower r) nb.nz ne.nz nr.nz h.le k.lt
  where
    at : (p q s : Bool) → Up (sgn p b) → Up (sgn q e) → Up (sgn s r) → LeAt p q (cross b e) → LtAt q s (cross e r) → pos 0 ≤ℤ cross e r
    at p false false ub ue ur h k = <-≤ k
    at p true true ub ue ur h k = <-≤ k
    at p true false ub ue ur h k = absurd k
    at true false true ub ue ur h k = absurd h
    at false false true ub ue ur h k = at_least (cross_neg_swap_l r e) (up_trans ur ub ue (at_least (sym (cross_neg_swap_l r b)) l) h)

-- r < b ≤ e
pub past_left : {b e r : Pt} → Nz r → Nz b → Nz e → Lt r b → Le b e → pos 0 ≤ℤ cross b r → pos 0 ≤ℤ cross e r
past_left {b} {e} {r} nr nb ne h k l = at (lower r) (lower b) (lower e) nr.nz nb.nz ne.nz h.lt k.le
  where
    at : (p q s : Bool) → Up (sgn p r) → Up (sgn q b) → Up (sgn s e) → LtAt p q (cross r b) → LeAt q s (cross b e) → pos 0 ≤ℤ cross e r
    at false false s ur ub ue h k = not_both r b h l
    at true true s ur ub ue h k = not_both r b h l
    at true false s ur ub ue h k = absurd h
    at false true false ur ub ue h k = absurd k
    at false true true ur ub ue h k = at_least (cross_neg_swap_r r e) (up_trans ur ub ue (at_least (sym (cross_neg_swap_r r b)) l) (at_least (sym (cross_neg_neg b e)) k))

-- e ≤ r < b
pub before_left : {b e r : Pt} → Lt r b → Le e r → pos 0 ≤ℤ cross b r → pos 0 ≤ℤ cross e r
before_left {b} {e} {r} h k l = at (lower r) (lower b) (lower e) h.lt k.le
  where
    at : (p q s : Bool) → LtAt p q (cross r b) → LeAt s p (cross e r) → pos 0 ≤ℤ cross e r
    at false false s h k = not_both r b h l
    at true true s h k = not_both r b h l
    at true false s h k = absurd h
    at false true false h k = k
    at false true true h k = absurd k

-- r ≤ e ≤ b
pub between_right : {b e r : Pt} → Nz r → Nz e → Nz b → Le r e → Le e b → pos 0 ≤ℤ cross r b → pos 0 ≤ℤ cross r e
between_right {b} {e} {r} nr ne nb h k l = at (lower r) (lower e) (lower b) nr.nz ne.nz nb.nz h.le k.le
  where
    at : (p q s : Bool) → Up (sgn p r) → Up (sgn q e) → Up (sgn s b) → LeAt p q (cross r e) → LeAt q s (cross e b) → pos 0 ≤ℤ cross r e
    at false false s ur ue ub h k = h
    at true true s ur ue ub h k = h
    at true false s ur ue ub h k = absurd h
    at false true false ur ue ub h k = absurd k
    at false true true ur ue ub h k = at_least (cross_neg_swap_l e r) (up_trans ue ub ur (at_least (sym (cross_neg_neg e b)) k) (at_least (sym (cross_neg_swap_l b r)) l))

-- e ≤ b < r
pub before_right : {b e r : Pt} → Nz e → Nz b → Nz r → Le e b → Lt b r → pos 0 ≤ℤ cross r b → pos 0 ≤ℤ cross r e
before_right {b} {e} {r} ne nb nr h k l = at (lower e) (lower b) (lower r) ne.nz nb.nz nr.nz h.le k.lt
  where
    at : (p q s : Bool) → Up (sgn p e) → Up (sgn q b) → Up (sgn s r) → LeAt p q (cross e b) → LtAt q s (cross b r) → pos 0 ≤ℤ cross r e
    at p false false ue ub ur h k = not_both b r k l
    at p true true ue ub ur h k = not_both b r k l
    at p true false ue ub ur h k = absurd k
    at true false true ue ub ur h k = absurd h
    at false false true ue ub ur h k = at_least (cross_neg_swap_r e r) (up_trans ue ub ur h (at_least (sym (cross_neg_swap_r b r)) l))

-- b < r ≤ e
pub past_right : {b e r : Pt} → Lt b r → Le r e → pos 0 ≤ℤ cross r b → pos 0 ≤ℤ cross r e
past_right {b} {e} {r} h k l = at (lower b) (lower e) (lower r) h.lt k.le
  where
    at : (p q s : Bool) → LtAt p s (cross b r) → LeAt s q (cross r e) → pos 0 ≤ℤ cross r e
    at false q false h k = not_both b r h l
    at true q true h k = not_both b r h l
    at true q false h k = absurd h
    at false false true h k = absurd k
    at false true true h k = k
