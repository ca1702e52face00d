-- The direction order of document 01 ("Directions run from angle 0 up to a full turn"): a strict
-- total order on the directions of nonzero vectors (specs/Halves.antt). In order: the upper half
-- (`Up`), where a cross at least 0 is transitive; the order as types (`Lt`, `Le`, `Same`) and
-- `angle_cmp` deciding it (`angle_cases`); irreflexive, transitive, trichotomous, congruent for the
-- same direction; within a half a positive cross (`lt_in_half`); the same direction is cross 0 with
-- a positive dot (`same_dot`). Assumes nothing.
use mathlib.Core.Path.{◌≡◌, refl, sym, ◌∙◌, ap, subst}
use mathlib.Core.Bool.{Bool, true, false}
use mathlib.Core.List.{[], ◌∷◌}
use mathlib.Core.Logic.{◌⊎◌, inl, inr, ⊎_elim, ◌↔◌}
use native.Mathlib.Omega.{arith}
use lib.IntN.{ℤ, pos, neg_ℤ, ◌+ℤ◌, ◌-ℤ◌, ◌*ℤ◌}
use lib.Signed.{◌≤ℤ◌, ◌<ℤ◌}
use Rattle.integers.proofs.Ring.{con, ◌:+◌, ◌:-◌, ◌:*◌, :neg, ◌:≡◌, pt, int, ring}
use Rattle.integers.proofs.Order.{zarith, add_parts, neg_parts, <-≤, ≤_antisym, Sign, negative, null, positive, sign}
use Rattle.integers.proofs.Arith.{◌:≤◌, ◌:<◌, ◌:=◌, ◌:∧◌, ◌⇒◌, :⊥, arithℤ}
use Rattle.integers.proofs.Signs.{nn_mul, pos_mul, nn_square, nn_cancel, pos_cancel, pos_is}
use Rattle.integers.proofs.Tests.{differ, <-lt_z, ≤-lt_z}
use Rattle.std.specs.declared.cmp.Ordering.TheVariants.{Less, Equal, Greater}
use Rattle.plane.specs.Plane.{Pt, O, negᵖ, cross, dot, lower, by_cross, by_halves, angle_cmp, is_zero}
use Rattle.plane.specs.Halves.{Up, above, level, sgn, Nz}
use Rattle.plane.proofs.Terms.{neg_e, cross_e, dot_e}
use Rattle.plane.proofs.Vectors.{pt_eq, cross_self, cross_neg_neg, is_zero_false}

-- ---- the upper half

up_y : {v : Pt} → Up v → pos 0 ≤ℤ v.y
up_y (above h) = omega zarith
up_y (level e h) = omega zarith

up_x : {v : Pt} → Up v → v.y ≤ℤ pos 0 → pos 0 <ℤ v.x
up_x (above h) k = absurd (omega zarith)
up_x (level e h) k = h

times_zero : {k : ℤ} (a : ℤ) → k ≡ pos 0 → (a *ℤ k) ≡ pos 0
times_zero a e = ap (λ k. a *ℤ k) e ∙ zero_r a
  where
    zero_r : (a : ℤ) → (a *ℤ pos 0) ≡ pos 0
    zero_r = ring (int ∷ []) (λ a. a :* con (pos 0) :≡ con (pos 0)) tt

-- y_b (a × c) = y_a (b × c) + y_c (a × b)
through : (a b c : Pt) → pos 0 ≤ℤ (a.y *ℤ cross b c) → pos 0 ≤ℤ (c.y *ℤ cross a b) → pos 0 ≤ℤ (b.y *ℤ cross a c)
through = arithℤ (pt ∷ pt ∷ pt ∷ []) (λ a b c. con (pos 0) :≤ a.y :* cross_e b c ⇒ con (pos 0) :≤ c.y :* cross_e a b ⇒ con (pos 0) :≤ b.y :* cross_e a c) (omega arith)

-- of two in the upper half, a cross at least 0 is transitive
pub up_trans : {a b c : Pt} → Up a → Up b → Up c → pos 0 ≤ℤ cross a b → pos 0 ≤ℤ cross b c → pos 0 ≤ℤ cross a c
up_trans {a} {b} {c} ua (above h) uc p q = nn_cancel h (through a b c (nn_mul (up_y ua) q) (nn_mul (up_y uc) p))
up_trans {a} {b} {c} ua (level e h) uc p q = last (up_x ua flat)
  where
    -- b points to the right, so a × b at least 0 puts a there too
    right : (a b : Pt) → (a.x *ℤ b.y) ≡ pos 0 → pos 0 ≤ℤ cross a b → pos 0 ≤ℤ (b.x *ℤ neg_ℤ a.y)
    right = arithℤ (pt ∷ pt ∷ []) (λ a b. a.x :* b.y := con (pos 0) ⇒ con (pos 0) :≤ cross_e a b ⇒ con (pos 0) :≤ b.x :* :neg a.y) (omega arith)

    flat : a.y ≤ℤ pos 0
    flat = omega (zarith, neg_parts a.y, nn_cancel h (right a b (times_zero a.x e) p))

    from_right : (a c : Pt) → pos 0 ≤ℤ (a.x *ℤ c.y) → (c.x *ℤ a.y) ≡ pos 0 → pos 0 ≤ℤ cross a c
    from_right = arithℤ (pt ∷ pt ∷ []) (λ a c. con (pos 0) :≤ a.x :* c.y ⇒ c.x :* a.y := con (pos 0) ⇒ con (pos 0) :≤ cross_e a c) (omega arith)

    last : pos 0 <ℤ a.x → pos 0 ≤ℤ cross a c
    last k = from_right a c (nn_mul (<-≤ k) (up_y uc)) (times_zero c.x (≤_antisym flat (up_y ua)))

-- ---- the order as types, by halves and cross

abbrev pub LeAt : Bool → Bool → ℤ → Type 0
LeAt false false k = pos 0 ≤ℤ k
LeAt false true k = Unit {0}
LeAt true false k = ⊥
LeAt true true k = pos 0 ≤ℤ k

abbrev pub LtAt : Bool → Bool → ℤ → Type 0
LtAt false false k = pos 0 <ℤ k
LtAt false true k = Unit {0}
LtAt true false k = ⊥
LtAt true true k = pos 0 <ℤ k

-- the direction of u is that of v or before it
pub record Le (u v : Pt) : Type 0 where
  pub le : LeAt (lower u) (lower v) (cross u v)

-- the direction of u comes before that of v
pub record Lt (u v : Pt) : Type 0 where
  pub lt : LtAt (lower u) (lower v) (cross u v)

-- one direction
pub record Same (u v : Pt) : Type 0 where
  pub half : lower u ≡ lower v
  pub flat : cross u v ≡ pos 0

-- the test decides
pub data Angles (u v : Pt) : Type 0 where
  before : angle_cmp u v ≡ Less → Lt u v → Angles u v
  beside : angle_cmp u v ≡ Equal → Same u v → Angles u v
  after : angle_cmp u v ≡ Greater → Lt v u → Angles u v

swap< : (a b : Pt) → cross a b <ℤ pos 0 → pos 0 <ℤ cross b a
swap< = arithℤ (pt ∷ pt ∷ []) (λ a b. cross_e a b :< con (pos 0) ⇒ con (pos 0) :< cross_e b a) (omega arith)

data AnglesAt (p q : Bool) (k j : ℤ) : Type 0 where
  less : by_halves p q k ≡ Less → LtAt p q k → AnglesAt p q k j
  equal : by_halves p q k ≡ Equal → p ≡ q → k ≡ pos 0 → AnglesAt p q k j
  greater : by_halves p q k ≡ Greater → LtAt q p j → AnglesAt p q k j

-- within a half, by the sign of the cross
angles_half : (p : Bool) {k : ℤ} {j : ℤ} → (k <ℤ pos 0 → pos 0 <ℤ j) → Sign k → AnglesAt p p k j
unfolding by_cross
angles_half false s (positive h) = less (rw (<-lt_z h)) h
angles_half false s (null e) = equal (ap by_cross e) refl e
angles_half false {k} s (negative h) = greater (rw (≤-lt_z {x = pos 0} {y = k} (<-≤ h), <-lt_z h)) (s h)
angles_half true s (positive h) = less (rw (<-lt_z h)) h
angles_half true s (null e) = equal (ap by_cross e) refl e
angles_half true {k} s (negative h) = greater (rw (≤-lt_z {x = pos 0} {y = k} (<-≤ h), <-lt_z h)) (s h)

angles_at : (p q : Bool) (u v : Pt) → AnglesAt p q (cross u v) (cross v u)
angles_at false false u v = angles_half false (swap< u v) (sign (cross u v))
angles_at false true u v = less refl tt
angles_at true false u v = greater refl tt
angles_at true true u v = angles_half true (swap< u v) (sign (cross u v))

pub angle_cases : (u v : Pt) → Angles u v
unfolding angle_cmp
angle_cases u v =
    elim (angles_at (lower u) (lower v) u v) [
      | less e h ↦ before e (record { lt = h })
      | equal e s f ↦ beside e (record { half = s; flat = f })
      | greater e h ↦ after e (record { lt = h })
    ]

-- ---- the laws

flip≤ : (a b : Pt) → pos 0 ≤ℤ cross a b → pos 0 ≤ℤ cross (negᵖ a) (negᵖ b)
flip≤ = arithℤ (pt ∷ pt ∷ []) (λ a b. con (pos 0) :≤ cross_e a b ⇒ con (pos 0) :≤ cross_e (neg_e a) (neg_e b)) (omega arith)

unflip≤ : (a b : Pt) → pos 0 ≤ℤ cross (negᵖ a) (negᵖ b) → pos 0 ≤ℤ cross a b
unflip≤ = arithℤ (pt ∷ pt ∷ []) (λ a b. con (pos 0) :≤ cross_e (neg_e a) (neg_e b) ⇒ con (pos 0) :≤ cross_e a b) (omega arith)

trans_at : (p q r : Bool) (a b c : Pt) → Up (sgn p a) → Up (sgn q b) → Up (sgn r c) → LeAt p q (cross a b) → LeAt q r (cross b c) → LeAt p r (cross a c)
trans_at false false false a b c ua ub uc h k = up_trans ua ub uc h k
trans_at false false true a b c ua ub uc h k = tt
trans_at false true false a b c ua ub uc h k = absurd k
trans_at false true true a b c ua ub uc h k = tt
trans_at true false false a b c ua ub uc h k = absurd h
trans_at true false true a b c ua ub uc h k = absurd h
trans_at true true false a b c ua ub uc h k = absurd k
trans_at true true true a b c ua ub uc h k = unflip≤ a c (up_trans ua ub uc (flip≤ a b h) (flip≤ b c k))

pub le_trans : {a b c : Pt} → Nz a → Nz b → Nz c → Le a b → Le b c → Le a c
le_trans {a} {b} {c} ua ub uc h k = record { le = trans_at (lower a) (lower b) (lower c) a b c ua.nz ub.nz uc.nz h.le k.le }

lt_le_at : (p q : Bool) (k : ℤ) → LtAt p q k → LeAt p q k
lt_le_at false false k h = <-≤ h
lt_le_at false true k h = tt
lt_le_at true false k h = h
lt_le_at true true k h = <-≤ h

pub lt_le : {a b : Pt} → Lt a b → Le a b
lt_le {a} {b} h = record { le = lt_le_at (lower a) (lower b) (cross a b) h.lt }

not_both : (a b : Pt) → pos 0 <ℤ cross a b → pos 0 ≤ℤ cross b a → ⊥
not_both = arithℤ (pt ∷ pt ∷ []) (λ a b. con (pos 0) :< cross_e a b ⇒ con (pos 0) :≤ cross_e b a ⇒ :⊥) (omega arith)

clash_at : (p q : Bool) (a b : Pt) → LtAt p q (cross a b) → LeAt q p (cross b a) → ⊥
clash_at false false a b h k = not_both a b h k
clash_at false true a b h k = k
clash_at true false a b h k = h
clash_at true true a b h k = not_both a b h k

-- before is not after or beside
pub clash : {a b : Pt} → Lt a b → Le b a → ⊥
clash {a} {b} h k = clash_at (lower a) (lower b) a b h.lt k.le

level_cross : (a b : Pt) → cross a b ≡ pos 0 → (pos 0 ≤ℤ cross a b) × (pos 0 ≤ℤ cross b a)
level_cross = arithℤ (pt ∷ pt ∷ []) (λ a b. cross_e a b := con (pos 0) ⇒ con (pos 0) :≤ cross_e a b :∧ con (pos 0) :≤ cross_e b a) (omega arith)

same_at : {p q : Bool} (a b : Pt) → p ≡ q → cross a b ≡ pos 0 → LeAt p q (cross a b) × LeAt q p (cross b a)
same_at {p = false} {q = false} a b s e = level_cross a b e
same_at {p = false} {q = true} a b s e = differ s
same_at {p = true} {q = false} a b s e = differ (sym s)
same_at {p = true} {q = true} a b s e = level_cross a b e

pub same_le : {a b : Pt} → Same a b → Le a b × Le b a
same_le {a} {b} s = let h = same_at a b s.half s.flat in (record { le = h.0 }, record { le = h.1 })

pub same_refl : (a : Pt) → Same a a
same_refl a = record { half = refl; flat = cross_self a }

pub same_sym : {a b : Pt} → Same a b → Same b a
same_sym {a} {b} s = record { half = sym s.half; flat = zero_swap a b s.flat }
  where
    zero_swap : (a b : Pt) → cross a b ≡ pos 0 → cross b a ≡ pos 0
    zero_swap = arithℤ (pt ∷ pt ∷ []) (λ a b. cross_e a b := con (pos 0) ⇒ cross_e b a := con (pos 0)) (omega arith)

pub le_refl : (a : Pt) → Le a a
le_refl a = (same_le (same_refl a)).0

pub lt_irrefl : {a : Pt} → Lt a a → ⊥
lt_irrefl {a} h = clash h (le_refl a)

-- before, or not after
pub le_or_lt : (a b : Pt) → Le a b ⊎ Lt b a
le_or_lt a b = elim (angle_cases a b) [ before e h ↦ inl (lt_le h) | beside e s ↦ inl (same_le s).0 | after e h ↦ inr h ]

pub lt_le_trans : {a b c : Pt} → Nz a → Nz b → Nz c → Lt a b → Le b c → Lt a c
lt_le_trans {a} {b} {c} na nb nc h k = ⊎_elim (λ l. absurd (clash h (le_trans nb nc na k l))) (λ l. l) (le_or_lt c a)

pub le_lt_trans : {a b c : Pt} → Nz a → Nz b → Nz c → Le a b → Lt b c → Lt a c
le_lt_trans {a} {b} {c} na nb nc h k = ⊎_elim (λ l. absurd (clash k (le_trans nc na nb l h))) (λ l. l) (le_or_lt c a)

pub lt_trans : {a b c : Pt} → Nz a → Nz b → Nz c → Lt a b → Lt b c → Lt a c
lt_trans na nb nc h k = lt_le_trans na nb nc h (lt_le k)

-- each excludes the others: with `angle_cases`, exactly one of Lt a b, Same a b, Lt b a
pub lt_not_same : {a b : Pt} → Lt a b → Same a b → ⊥
lt_not_same h s = clash h (same_le s).1

pub lt_asym : {a b : Pt} → Lt a b → Lt b a → ⊥
lt_asym h k = clash h (lt_le k)

pub le_antisym : {a b : Pt} → Le a b → Le b a → Same a b
le_antisym {a} {b} h k = elim (angle_cases a b) [ before e l ↦ absurd (clash l k) | beside e s ↦ s | after e l ↦ absurd (clash l h) ]

-- the same direction stands for the other on either side
pub same_lt : {a b c : Pt} → Nz a → Nz b → Nz c → Same a b → Lt b c → Lt a c
same_lt na nb nc s h = le_lt_trans na nb nc (same_le s).0 h

pub lt_same : {a b c : Pt} → Nz a → Nz b → Nz c → Lt a b → Same b c → Lt a c
lt_same na nb nc h s = lt_le_trans na nb nc h (same_le s).0

pub same_trans : {a b c : Pt} → Nz a → Nz b → Nz c → Same a b → Same b c → Same a c
same_trans na nb nc s t = le_antisym (le_trans na nb nc (same_le s).0 (same_le t).0) (le_trans nc nb na (same_le t).1 (same_le s).1)

-- ---- within a half

half_at : {p q : Bool} (k : ℤ) → p ≡ q → LtAt p q k ↔ (pos 0 <ℤ k)
half_at {p = false} {q = false} k s = (λ h. h, λ h. h)
half_at {p = false} {q = true} k s = differ s
half_at {p = true} {q = false} k s = differ (sym s)
half_at {p = true} {q = true} k s = (λ h. h, λ h. h)

pub lt_in_half : {a b : Pt} → lower a ≡ lower b → Lt a b ↔ (pos 0 <ℤ cross a b)
lt_in_half {a} {b} s = let f = half_at (cross a b) s in (λ h. f.0 h.lt, λ h. record { lt = f.1 h })

-- ---- the half and its nonzero vectors

pub lower_up : {v : Pt} → Up v → lower v ≡ false
unfolding lower
lower_up {v} (above h) = rw (≤-lt_z {x = v.y} {y = pos 0} (<-≤ h), <-lt_z h)
lower_up {v} (level e h) = rw (≤-lt_z {x = v.y} {y = pos 0} (omega zarith), ≤-lt_z {x = pos 0} {y = v.y} (omega zarith), ≤-lt_z {x = v.x} {y = pos 0} (<-≤ h))

pub lower_down : (v : Pt) → Up (negᵖ v) → lower v ≡ true
unfolding lower
lower_down v (above h) = rw (<-lt_z {x = v.y} {y = pos 0} (omega (zarith, neg_parts v.y)))
lower_down v (level e h) =
    rw (≤-lt_z {x = v.y} {y = pos 0} (omega (zarith, neg_parts v.y)), ≤-lt_z {x = pos 0} {y = v.y} (omega (zarith, neg_parts v.y)), <-lt_z {x = v.x} {y = pos 0} (omega (zarith, neg_parts v.x)))

pub nz_of_up : {v : Pt} → Up v → Nz v
nz_of_up {v} h = record { nz = subst (λ s. Up (sgn s v)) (sym (lower_up h)) h }

pub nz_of_down : {v : Pt} → Up (negᵖ v) → Nz v
nz_of_down {v} h = record { nz = subst (λ s. Up (sgn s v)) (sym (lower_down v h)) h }

-- zero or not
pub nz_cases : (v : Pt) → (v ≡ O) ⊎ Nz v
nz_cases v =
    elim (sign v.y) [
      | positive h ↦ inr (nz_of_up (above h))
      | negative h ↦ inr (nz_of_down (above (omega (zarith, neg_parts v.y))))
      | null e ↦
          elim (sign v.x) [
            | positive h ↦ inr (nz_of_up (level e h))
            | negative h ↦ inr (nz_of_down (level (omega (zarith, neg_parts v.y)) (omega (zarith, neg_parts v.x))))
            | null d ↦ inl (pt_eq d e)
          ]
    ]

pub nz_of_test : (v : Pt) → is_zero v ≡ false → Nz v
nz_of_test v h = ⊎_elim (λ e. absurd (is_zero_false h e)) (λ n. n) (nz_cases v)

-- a nonzero vector is not zero
up_not_zero : {v : Pt} → Up v → v ≡ O → ⊥
up_not_zero (above h) e = omega (zarith, ap (λ p. p.y) e)
up_not_zero (level d h) e = omega (zarith, ap (λ p. p.x) e)

pub nz_not_zero : {v : Pt} → Nz v → v ≡ O → ⊥
nz_not_zero {v} n e = at (lower v) n.nz
  where
    at : (t : Bool) → Up (sgn t v) → ⊥
    at false h = up_not_zero h e
    at true h = up_not_zero h (ap negᵖ e)

-- ---- the same direction is cross 0 with a positive dot

-- y_v (u · v) = y_u (v · v), where the cross is 0
along : (u v : Pt) → cross u v ≡ pos 0 → v.y *ℤ dot u v ≡ u.y *ℤ (v.x *ℤ v.x +ℤ v.y *ℤ v.y)
along u v e = back u.x u.y v.x v.y ∙ ap (λ k. u.y *ℤ (v.x *ℤ v.x +ℤ v.y *ℤ v.y) +ℤ v.x *ℤ k) e ∙ drop (u.y *ℤ (v.x *ℤ v.x +ℤ v.y *ℤ v.y)) v.x
  where
    back : (a b c d : ℤ) → d *ℤ (a *ℤ c +ℤ b *ℤ d) ≡ b *ℤ (c *ℤ c +ℤ d *ℤ d) +ℤ c *ℤ (a *ℤ d -ℤ b *ℤ c)
    back = ring (int ∷ int ∷ int ∷ int ∷ []) (λ a b c d. d :* (a :* c :+ b :* d) :≡ b :* (c :* c :+ d :* d) :+ c :* (a :* d :- b :* c)) tt

    drop : (s k : ℤ) → s +ℤ k *ℤ pos 0 ≡ s
    drop = ring (int ∷ int ∷ []) (λ s k. s :+ k :* con (pos 0) :≡ s) tt

up_dot : {u v : Pt} → Up u → Up v → cross u v ≡ pos 0 → pos 0 <ℤ dot u v
up_dot {u} {v} (above h) (above k) e = pos_cancel k (pos_is (along u v e) (pos_mul h (omega (zarith, nn_square v.x, pos_mul k k, add_parts (v.x *ℤ v.x) (v.y *ℤ v.y)))))
up_dot {u} {v} (above h) (level d k) e = absurd (off u v (times_zero u.x d) e (pos_mul h k))
  where
    off : (u v : Pt) → (u.x *ℤ v.y) ≡ pos 0 → cross u v ≡ pos 0 → pos 0 <ℤ (u.y *ℤ v.x) → ⊥
    off = arithℤ (pt ∷ pt ∷ []) (λ u v. u.x :* v.y := con (pos 0) ⇒ cross_e u v := con (pos 0) ⇒ con (pos 0) :< u.y :* v.x ⇒ :⊥) (omega arith)
up_dot {u} {v} (level d h) (above k) e = absurd (off u v (times_zero v.x d) e (pos_mul h k))
  where
    off : (u v : Pt) → (v.x *ℤ u.y) ≡ pos 0 → cross u v ≡ pos 0 → pos 0 <ℤ (u.x *ℤ v.y) → ⊥
    off = arithℤ (pt ∷ pt ∷ []) (λ u v. v.x :* u.y := con (pos 0) ⇒ cross_e u v := con (pos 0) ⇒ con (pos 0) :< u.x :* v.y ⇒ :⊥) (omega arith)
up_dot {u} {v} (level d h) (level f k) e = on u v (times_zero u.y f) (pos_mul h k)
  where
    on : (u v : Pt) → (u.y *ℤ v.y) ≡ pos 0 → pos 0 <ℤ (u.x *ℤ v.x) → pos 0 <ℤ dot u v
    on = arithℤ (pt ∷ pt ∷ []) (λ u v. u.y :* v.y := con (pos 0) ⇒ con (pos 0) :< u.x :* v.x ⇒ con (pos 0) :< dot_e u v) (omega arith)

-- negating one or both
dot_at : (p q : Bool) (u v : Pt) → Up (sgn p u) → Up (sgn q v) → cross u v ≡ pos 0 → ((p ≡ q) × (pos 0 <ℤ dot u v)) ⊎ ((p ≡ q → ⊥) × (dot u v <ℤ pos 0))
dot_at false false u v hu hv e = inl (refl, up_dot hu hv e)
dot_at false true u v hu hv e = inr ((λ s. differ s), neg u v (up_dot hu hv (cross_zero u v e)))
  where
    cross_zero : (u v : Pt) → cross u v ≡ pos 0 → cross u (negᵖ v) ≡ pos 0
    cross_zero = arithℤ (pt ∷ pt ∷ []) (λ u v. cross_e u v := con (pos 0) ⇒ cross_e u (neg_e v) := con (pos 0)) (omega arith)

    neg : (u v : Pt) → pos 0 <ℤ dot u (negᵖ v) → dot u v <ℤ pos 0
    neg = arithℤ (pt ∷ pt ∷ []) (λ u v. con (pos 0) :< dot_e u (neg_e v) ⇒ dot_e u v :< con (pos 0)) (omega arith)
dot_at true false u v hu hv e = inr ((λ s. differ (sym s)), neg u v (up_dot hu hv (cross_zero u v e)))
  where
    cross_zero : (u v : Pt) → cross u v ≡ pos 0 → cross (negᵖ u) v ≡ pos 0
    cross_zero = arithℤ (pt ∷ pt ∷ []) (λ u v. cross_e u v := con (pos 0) ⇒ cross_e (neg_e u) v := con (pos 0)) (omega arith)

    neg : (u v : Pt) → pos 0 <ℤ dot (negᵖ u) v → dot u v <ℤ pos 0
    neg = arithℤ (pt ∷ pt ∷ []) (λ u v. con (pos 0) :< dot_e (neg_e u) v ⇒ dot_e u v :< con (pos 0)) (omega arith)
dot_at true true u v hu hv e = inl (refl, both u v (up_dot hu hv (cross_neg_neg u v ∙ e)))
  where
    both : (u v : Pt) → pos 0 <ℤ dot (negᵖ u) (negᵖ v) → pos 0 <ℤ dot u v
    both = arithℤ (pt ∷ pt ∷ []) (λ u v. con (pos 0) :< dot_e (neg_e u) (neg_e v) ⇒ con (pos 0) :< dot_e u v) (omega arith)

dot_cases : {u v : Pt} → Nz u → Nz v → cross u v ≡ pos 0 → ((lower u ≡ lower v) × (pos 0 <ℤ dot u v)) ⊎ ((lower u ≡ lower v → ⊥) × (dot u v <ℤ pos 0))
dot_cases {u} {v} nu nv e = dot_at (lower u) (lower v) u v nu.nz nv.nz e

pub same_dot : {u v : Pt} → Nz u → Nz v → Same u v ↔ ((cross u v ≡ pos 0) × (pos 0 <ℤ dot u v))
same_dot {u} {v} nu nv = (to, from)
  where
    to : Same u v → (cross u v ≡ pos 0) × (pos 0 <ℤ dot u v)
    to s = (s.flat, ⊎_elim (λ h. h.1) (λ h. absurd (h.0 s.half)) (dot_cases nu nv s.flat))

    from : (cross u v ≡ pos 0) × (pos 0 <ℤ dot u v) → Same u v
    from h = record { half = ⊎_elim (λ k. k.0) (λ k. absurd (omega (zarith, h.1, k.1))) (dot_cases nu nv h.0); flat = h.0 }
