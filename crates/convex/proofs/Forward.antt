-- A turn that goes forward: to the left, or straight on with the direction kept (`Forward`), and
-- descents in the direction order.
-- In order: nonzero vectors; one edge put for another (`forward_first`, `forward_last`: a turn of 0
-- is never back); a descent is a change from the lower half to the upper (`descent_halves`);
-- descents add (`descent_add`), and round a triangle there is one (`descent_triangle`). Assumes
-- nothing.
use mathlib.Core.Path.{◌≡◌, refl, sym, ◌∙◌, ap, ap₂, subst}
use mathlib.Core.Bool.{Bool, true, false, not, cond}
use mathlib.Core.List.{[], ◌∷◌}
use mathlib.Core.Logic.{⊎_elim}
use Prim.Native.Nat.{ℕ, ◌+◌}
use native.Mathlib.Omega.{arith}
use lib.IntN.{ℤ, pos, ◌*ℤ◌}
use lib.Signed.{◌≤ℤ◌, ◌<ℤ◌}
use Rattle.integers.proofs.Ring.{con, ◌:*◌, ◌:≡◌, pt, int, ring}
use Rattle.integers.proofs.Order.{zarith, <-≤, Sign, negative, null, positive, sign}
use Rattle.integers.proofs.Arith.{◌:≤◌, ◌:<◌, ◌:=◌, ◌:∧◌, ◌⇒◌, :⊥, arithℤ}
use Rattle.integers.proofs.Signs.{pos_mul, pos_cancel, pos_is, nn_is}
use Rattle.plane.specs.Plane.{Pt, O, negᵖ, cross, dot, lower, angle_cmp, is_less}
use Rattle.plane.proofs.Terms.{OE, neg_e, cross_e, dot_e}
use Rattle.plane.proofs.Vectors.{negᵖ_negᵖ, cross_neg_neg}
use Rattle.plane.specs.Halves.{Up, sgn, Nz}
use Rattle.plane.proofs.Directions.{up_trans, LtAt, Angles, before, beside, after, angle_cases, nz_cases, nz_of_up, lower_up, same_refl, same_dot}

-- v goes on from u: to the left, or straight on
pub data Forward (u v : Pt) : Type 0 where
  leftward : pos 0 <ℤ cross u v → Forward u v
  onward : cross u v ≡ pos 0 → pos 0 <ℤ dot u v → Forward u v

-- forward is never to the right
pub forward_≥ : {u v : Pt} → Forward u v → pos 0 ≤ℤ cross u v
forward_≥ (leftward h) = <-≤ h
forward_≥ (onward e h) = omega zarith

-- ---- nonzero vectors

zero_cross_l : (v : Pt) → (cross O v ≡ pos 0) × (dot O v ≡ pos 0)
zero_cross_l = arithℤ (pt ∷ []) (λ v. cross_e OE v := con (pos 0) :∧ dot_e OE v := con (pos 0)) (omega arith)

zero_cross_r : (u : Pt) → (cross u O ≡ pos 0) × (dot u O ≡ pos 0)
zero_cross_r = arithℤ (pt ∷ []) (λ u. cross_e u OE := con (pos 0) :∧ dot_e u OE := con (pos 0)) (omega arith)

module _ {u v : Pt} where
  not_zero_l : u ≡ O → Forward u v → ⊥
  not_zero_l e (leftward h) = omega (zarith, ap (λ u. cross u v) e, (zero_cross_l v).0)
  not_zero_l e (onward c h) = omega (zarith, ap (λ u. dot u v) e, (zero_cross_l v).1)

  not_zero_r : v ≡ O → Forward u v → ⊥
  not_zero_r e (leftward h) = omega (zarith, ap (cross u) e, (zero_cross_r u).0)
  not_zero_r e (onward c h) = omega (zarith, ap (dot u) e, (zero_cross_r u).1)

  pub forward_nz_l : Forward u v → Nz u
  forward_nz_l f = ⊎_elim (λ e. absurd (not_zero_l e f)) (λ n. n) (nz_cases u)

  pub forward_nz_r : Forward u v → Nz v
  forward_nz_r f = ⊎_elim (λ e. absurd (not_zero_r e f)) (λ n. n) (nz_cases v)

-- u · u > 0
pub nz_square : {u : Pt} → Nz u → pos 0 <ℤ dot u u
nz_square {u} n = ((same_dot n n).0 (same_refl u)).1

-- ---- one edge put for another

-- a k = 0 where k = 0
pub times_zero : {k : ℤ} (a : ℤ) → k ≡ pos 0 → (a *ℤ k) ≡ pos 0
times_zero a e = ap (λ k. a *ℤ k) e ∙ zero_r a
  where
    zero_r : (a : ℤ) → (a *ℤ pos 0) ≡ pos 0
    zero_r = ring (int ∷ []) (λ a. a :* con (pos 0) :≡ con (pos 0)) tt

-- (p · q)(q × r) = (q · q)(p × r) − (p × q)(q · r)
slide : (p q r : Pt) → (dot q r *ℤ cross p q) ≡ pos 0 → pos 0 <ℤ (dot q q *ℤ cross p r) → pos 0 <ℤ (cross q r *ℤ dot p q)
slide = arithℤ (pt ∷ pt ∷ pt ∷ []) (λ p q r. dot_e q r :* cross_e p q := con (pos 0) ⇒ con (pos 0) :< dot_e q q :* cross_e p r ⇒ con (pos 0) :< cross_e q r :* dot_e p q) (omega arith)

slide_back : (p q r : Pt) → (dot r r *ℤ cross p q) ≡ pos 0 → (dot q r *ℤ cross p r) ≡ pos 0 → pos 0 <ℤ (cross q r *ℤ dot p r) → ⊥
slide_back = arithℤ (pt ∷ pt ∷ pt ∷ []) (λ p q r. dot_e r r :* cross_e p q := con (pos 0) ⇒ dot_e q r :* cross_e p r := con (pos 0) ⇒ con (pos 0) :< cross_e q r :* dot_e p r ⇒ :⊥) (omega arith)

-- p × q = 0 is not back, where p goes forward to e and q × e > 0
pub forward_first : {p e : Pt} (q : Pt) → Forward p e → pos 0 ≤ℤ cross p q → pos 0 <ℤ cross q e → Forward p q
forward_first {p} {e} q f h k = by (sign (cross p q))
  where
    along : cross p q ≡ pos 0 → Forward p e → pos 0 <ℤ dot p q
    along z (leftward l) = pos_cancel k (slide p q e (times_zero (dot q e) z) (pos_mul (nz_square {u = q} (forward_nz_l {u = q} {v = e} (leftward k))) l))
    along z (onward c l) = absurd (slide_back p q e (times_zero (dot e e) z) (times_zero (dot q e) c) (pos_mul k l))

    by : Sign (cross p q) → Forward p q
    by (negative l) = absurd (omega zarith)
    by (null z) = onward z (along z f)
    by (positive l) = leftward l

-- seen in a mirror, forward from u to v is forward from v to u
abbrev mirror : Pt → Pt
mirror a = record { x = a.y; y = a.x }

mirror_cross : (u v : Pt) → cross (mirror v) (mirror u) ≡ cross u v
mirror_cross = ring (pt ∷ pt ∷ []) (λ u v. cross_e (record { x = v.y; y = v.x }) (record { x = u.y; y = u.x }) :≡ cross_e u v) tt

mirror_dot : (u v : Pt) → dot (mirror v) (mirror u) ≡ dot u v
mirror_dot = ring (pt ∷ pt ∷ []) (λ u v. dot_e (record { x = v.y; y = v.x }) (record { x = u.y; y = u.x }) :≡ dot_e u v) tt

forward_mirror : {u v : Pt} → Forward u v → Forward (mirror v) (mirror u)
forward_mirror {u} {v} (leftward h) = leftward (pos_is (mirror_cross u v) h)
forward_mirror {u} {v} (onward e h) = onward (mirror_cross u v ∙ e) (pos_is (mirror_dot u v) h)

-- q × n = 0 is not back, where e goes forward to n and e × q > 0
pub forward_last : {e n : Pt} (q : Pt) → Forward e n → pos 0 ≤ℤ cross q n → pos 0 <ℤ cross e q → Forward q n
forward_last {e} {n} q f h k =
    forward_mirror (forward_first (mirror q) (forward_mirror f) (nn_is (mirror_cross q n) h) (pos_is (mirror_cross e q) k))

-- ---- descents

-- 1 where the edge out is the lesser one in the direction order
abbrev pub descent : Pt → Pt → ℕ
descent u v = cond (is_less (angle_cmp v u)) 1 0

-- from the lower half to the upper
abbrev pub rises : Bool → Bool → ℕ
rises p q = cond p (cond q 0 1) 0

cross_swap_< : (u v : Pt) → pos 0 <ℤ cross v u → pos 0 ≤ℤ cross u v → ⊥
cross_swap_< = arithℤ (pt ∷ pt ∷ []) (λ u v. con (pos 0) :< cross_e v u ⇒ con (pos 0) :≤ cross_e u v ⇒ :⊥) (omega arith)

-- within a half a turn forward is no descent
pub descent_halves : {u v : Pt} → Forward u v → descent u v ≡ rises (lower u) (lower v)
descent_halves {u} {v} f = by (angle_cases v u)
  where
    lesser : (p q : Bool) → LtAt q p (cross v u) → rises p q ≡ 1
    lesser false false h = absurd (cross_swap_< u v h (forward_≥ f))
    lesser true false h = refl
    lesser false true h = absurd h
    lesser true true h = absurd (cross_swap_< u v h (forward_≥ f))

    same : {p q : Bool} → q ≡ p → rises p q ≡ 0
    same {p = false} e = refl
    same {p = true} {q} e = ap (λ q. rises true q) e

    greater : (p q : Bool) → LtAt p q (cross u v) → rises p q ≡ 0
    greater false q h = refl
    greater true false h = absurd h
    greater true true h = refl

    by : Angles v u → descent u v ≡ rises (lower u) (lower v)
    by (before e h) = ap (λ o. cond (is_less o) 1 0) e ∙ sym (lesser (lower u) (lower v) h.lt)
    by (beside e h) = ap (λ o. cond (is_less o) 1 0) e ∙ sym (same h.half)
    by (after e h) = ap (λ o. cond (is_less o) 1 0) e ∙ sym (greater (lower u) (lower v) h.lt)

-- three in the upper half, each at most half a turn before the next, all have one direction
closed_up : {a b c : Pt} → Up a → Up b → Up c → pos 0 ≤ℤ cross b a → pos 0 ≤ℤ cross a c → pos 0 ≤ℤ cross c b → (cross a b ≡ pos 0) × (pos 0 <ℤ dot a b)
closed_up {a} {b} {c} ua ub uc h k l = (z, ((same_dot (nz_of_up ua) (nz_of_up ub)).0 (record { half = lower_up ua ∙ sym (lower_up ub); flat = z })).1)
  where
    both : (a b : Pt) → pos 0 ≤ℤ cross a b → pos 0 ≤ℤ cross b a → cross a b ≡ pos 0
    both = arithℤ (pt ∷ pt ∷ []) (λ a b. con (pos 0) :≤ cross_e a b ⇒ con (pos 0) :≤ cross_e b a ⇒ cross_e a b := con (pos 0)) (omega arith)

    z : cross a b ≡ pos 0
    z = both a b (up_trans ua uc ub k l) h

dot_neg_neg : (u v : Pt) → dot (negᵖ u) (negᵖ v) ≡ dot u v
dot_neg_neg = ring (pt ∷ pt ∷ []) (λ u v. dot_e (neg_e u) (neg_e v) :≡ dot_e u v) tt

forward_neg : {u v : Pt} → Forward u v → Forward (negᵖ u) (negᵖ v)
forward_neg {u} {v} (leftward h) = leftward (pos_is (cross_neg_neg u v) h)
forward_neg {u} {v} (onward e h) = onward (cross_neg_neg u v ∙ e) (pos_is (dot_neg_neg u v) h)

-- u and w in one half and v in the other: then u to v would be back
detour_up : {u v w : Pt} → Up u → Up (negᵖ v) → Up w → Forward u v → Forward v w → Forward u w → ⊥
detour_up {u} {v} {w} hu hv hw f g h = turned f (closed_up hu hv hw (flip_l u v (forward_≥ f)) (forward_≥ h) (flip_r v w (forward_≥ g)))
  where
    flip_l : (u v : Pt) → pos 0 ≤ℤ cross u v → pos 0 ≤ℤ cross (negᵖ v) u
    flip_l = arithℤ (pt ∷ pt ∷ []) (λ u v. con (pos 0) :≤ cross_e u v ⇒ con (pos 0) :≤ cross_e (neg_e v) u) (omega arith)

    flip_r : (v w : Pt) → pos 0 ≤ℤ cross v w → pos 0 ≤ℤ cross w (negᵖ v)
    flip_r = arithℤ (pt ∷ pt ∷ []) (λ v w. con (pos 0) :≤ cross_e v w ⇒ con (pos 0) :≤ cross_e w (neg_e v)) (omega arith)

    left : (u v : Pt) → pos 0 <ℤ cross u v → cross u (negᵖ v) ≡ pos 0 → ⊥
    left = arithℤ (pt ∷ pt ∷ []) (λ u v. con (pos 0) :< cross_e u v ⇒ cross_e u (neg_e v) := con (pos 0) ⇒ :⊥) (omega arith)

    back : (u v : Pt) → pos 0 <ℤ dot u v → pos 0 <ℤ dot u (negᵖ v) → ⊥
    back = arithℤ (pt ∷ pt ∷ []) (λ u v. con (pos 0) :< dot_e u v ⇒ con (pos 0) :< dot_e u (neg_e v) ⇒ :⊥) (omega arith)

    turned : Forward u v → (cross u (negᵖ v) ≡ pos 0) × (pos 0 <ℤ dot u (negᵖ v)) → ⊥
    turned (leftward l) c = left u v l c.0
    turned (onward e l) c = back u v l c.1

no_detour : (t : Bool) {u v w : Pt} → Up (sgn t u) → Up (sgn (not t) v) → Up (sgn t w) → Forward u v → Forward v w → Forward u w → ⊥
no_detour false hu hv hw f g h = detour_up hu hv hw f g h
no_detour true {u} {v} {w} hu hv hw f g h =
    detour_up {u = negᵖ u} {v = negᵖ v} {w = negᵖ w} hu (subst Up (sym (negᵖ_negᵖ v)) hv) hw (forward_neg f) (forward_neg g) (forward_neg h)

-- descents add
pub descent_add : {u v w : Pt} → Forward u v → Forward v w → Forward u w → descent u w ≡ descent u v + descent v w
descent_add {u} {v} {w} f g h =
    descent_halves h ∙ halves (lower u) (lower v) (lower w) (forward_nz_l f).nz (forward_nz_l g).nz (forward_nz_r g).nz ∙ sym (ap₂ ◌+◌ (descent_halves f) (descent_halves g))
  where
    halves : (p q r : Bool) → Up (sgn p u) → Up (sgn q v) → Up (sgn r w) → rises p r ≡ rises p q + rises q r
    halves false false r hu hv hw = refl
    halves false true false hu hv hw = absurd (no_detour false hu hv hw f g h)
    halves false true true hu hv hw = refl
    halves true false false hu hv hw = refl
    halves true false true hu hv hw = absurd (no_detour true hu hv hw f g h)
    halves true true false hu hv hw = refl
    halves true true true hu hv hw = refl

-- round a triangle there is one: its edges are not all in one half
pub descent_triangle : (u v w : Pt) → pos 0 <ℤ cross u v → pos 0 <ℤ cross v w → pos 0 <ℤ cross w u → descent u v + (descent v w + descent w u) ≡ 1
descent_triangle u v w h k l =
    let f : Forward u v = leftward h in
    let g : Forward v w = leftward k in
    let e : Forward w u = leftward l in
    ap₂ ◌+◌ (descent_halves f) (ap₂ ◌+◌ (descent_halves g) (descent_halves e)) ∙ halves (lower u) (lower v) (lower w) (forward_nz_l f).nz (forward_nz_l g).nz (forward_nz_l e).nz
  where
    one_half : {a b c : Pt} → Up a → Up b → Up c → pos 0 <ℤ cross a b → pos 0 <ℤ cross b c → pos 0 <ℤ cross c a → ⊥
    one_half {a} {b} {c} ha hb hc h k l = cross_swap_< a c l (up_trans ha hb hc (<-≤ h) (<-≤ k))

    halves : (p q r : Bool) → Up (sgn p u) → Up (sgn q v) → Up (sgn r w) → rises p q + (rises q r + rises r p) ≡ 1
    halves false false false hu hv hw = absurd (one_half hu hv hw h k l)
    halves false false true hu hv hw = refl
    halves false true false hu hv hw = refl
    halves false true true hu hv hw = refl
    halves true false false hu hv hw = refl
    halves true false true hu hv hw = refl
    halves true true false hu hv hw = refl
    halves true true true hu hv hw = absurd (one_half hu hv hw (pos_is (cross_neg_neg u v) h) (pos_is (cross_neg_neg v w) k) (pos_is (cross_neg_neg w u) l))
