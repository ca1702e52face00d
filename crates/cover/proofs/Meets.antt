-- Where pieces meet and overlap, of a pair (`pair_meets`), from what a pair covers: a place moved a
-- little is still covered (`overlap_strict`), and strictly inside there is room to move back from a
-- common point (`strict_overlap`). Assumes nothing.
use mathlib.Core.Path.{◌≡◌, sym, ◌∙◌, ap, subst, subst₂}
use mathlib.Core.Bool.{true}
use mathlib.Core.List.{List, [], ◌∷◌}
use mathlib.Core.Logic.Iff
use mathlib.Core.Logic.{◌⊎◌, inl, inr, ⊎_elim, ◌↔◌}
use native.Mathlib.Omega.{arith}
use lib.IntN.{ℤ, pos, neg_ℤ, ◌+ℤ◌, ◌-ℤ◌, ◌*ℤ◌, *ℤ_comm}
use lib.Signed.{◌≤ℤ◌, ◌<ℤ◌}
use Rattle.integers.specs.Lists.{All, neighbours}
use Rattle.integers.proofs.Ring.{con, ◌:+◌, ◌:-◌, ◌:*◌, :neg, ◌:≡◌, ◌:≡ᵖ◌, pt, int, ring, ringᵖ}
use Rattle.integers.proofs.Arith.{◌:≤◌, ◌:<◌, ◌⇒◌, arithℤ}
use Rattle.integers.proofs.Signs.{nn_is, pos_mul, pos_cancel}
use Rattle.plane.specs.Plane.{Pt, O, ◌+ᵖ◌, ◌-ᵖ◌, negᵖ, cross, dot, rot}
use Rattle.plane.proofs.Terms.{◌+E◌, ◌-E◌, neg_e, cross_e, dot_e, rot_e}
use Rattle.plane.proofs.Directions.{nz_cases, nz_not_zero}
use Rattle.plane.proofs.Sides.{sub_zero}
use Rattle.pair.specs.Pair.{pair_contour}
use Rattle.pair.specs.Berg.{anticlockwise}
use Rattle.cover.specs.Inside.{◌·ᵖ◌, side, Inside, Sum}
use Rattle.cover.specs.Overlap.{StrictlyInside, Meet, Overlap, PairMeets}
use Rattle.cover.proofs.Edges.{◌·E◌}
use Rattle.cover.proofs.Sides.{Turning}
use Rattle.cover.proofs.Covers.{turn_about, pair_covers}
use Rattle.cover.proofs.Forms.{near_by, square}
use Rattle.cover.proofs.Strict.{forms, strict_forms, forms_strict, strict_inside, strict_scale, strict_add, mid}

-- u - k z = v, where u - v = k z
other : (k : ℤ) (u : Pt) {v : Pt} (z : Pt) → u +ᵖ negᵖ v ≡ k ·ᵖ z → v ≡ u -ᵖ k ·ᵖ z
other k u {v} z e = step u v ∙ ap (λ w. u -ᵖ w) e
  where
    step : (u v : Pt) → v ≡ u -ᵖ (u +ᵖ negᵖ v)
    step = ringᵖ (pt ∷ pt ∷ []) (λ u v. v :≡ᵖ u -E (u +E neg_e v)) tt

-- a difference of points is a place where the pieces meet
pub sum_meet : (A B : List Pt) (q : ℤ) (z : Pt) → Sum true A B q z ↔ Meet A B q z
sum_meet A B q z = (
  λ s. record { k = s.k; u = s.u; above = s.above; first = s.first; second = subst (Inside B (s.k *ℤ q)) (other s.k s.u {v = s.v} z s.sum) s.second },
  λ s. record { k = s.k; u = s.u; v = s.u -ᵖ s.k ·ᵖ z; above = s.above; first = s.first; second = s.second; sum = step s.u (s.k ·ᵖ z) },
)
  where
    step : (u w : Pt) → u +ᵖ negᵖ (u -ᵖ w) ≡ w
    step = ringᵖ (pt ∷ pt ∷ []) (λ u w. u +E neg_e (u -E w) :≡ᵖ w) tt

-- K covers the differences of points inside A and points inside B, both once round
module _ {A B : List Pt} (K : List Pt) (a : Turning A) (b : Turning B) (covers : (q : ℤ) (z : Pt) → pos 0 <ℤ q → Inside K q z ↔ Sum true A B q z) {q : ℤ} {z : Pt} (hq : pos 0 <ℤ q) where
  -- moved a little to the right of the edge e, the place is still covered
  overlap_edge : Overlap A B q z → (e : Pt × Pt) → (e.1 -ᵖ e.0 ≡ O → ⊥) → ((q : ℤ) (z : Pt) → Inside K q z → pos 0 ≤ℤ side e q z) → pos 0 <ℤ side e q z
  overlap_edge o e n on =
      let r : Pt = e.1 -ᵖ e.0 in
      let w : Pt = negᵖ (rot r) in
      let y = near_by (forms A) o.u (pos 0) (o.k ·ᵖ w) (pos_mul o.above hq) (strict_forms A (o.k *ℤ q) o.u o.first) in
      let m : ℤ = y.n in
      let i : Inside K (m *ℤ q) (m ·ᵖ z +ᵖ w) =
      (covers (m *ℤ q) (m ·ᵖ z +ᵖ w) (pos_mul y.above hq)).1 (record {
        k = o.k;
        u = m ·ᵖ o.u +ᵖ o.k ·ᵖ w;
        v = m ·ᵖ (o.u -ᵖ o.k ·ᵖ z);
        above = o.above;
        first = subst (λ p. Inside A p (m ·ᵖ o.u +ᵖ o.k ·ᵖ w)) (scaled m o.k q) (strict_inside A (m *ℤ (o.k *ℤ q) +ℤ pos 0) (m ·ᵖ o.u +ᵖ o.k ·ᵖ w) (forms_strict A (m *ℤ (o.k *ℤ q) +ℤ pos 0) (m ·ᵖ o.u +ᵖ o.k ·ᵖ w) y.all));
        second = subst (λ p. Inside B p (m ·ᵖ (o.u -ᵖ o.k ·ᵖ z))) (swapped m o.k q) (strict_inside B (m *ℤ (o.k *ℤ q)) (m ·ᵖ (o.u -ᵖ o.k ·ᵖ z)) (strict_scale B (o.k *ℤ q) (o.u -ᵖ o.k ·ᵖ z) y.above o.second));
        sum = summed m o.k o.u z w;
      }) in
      pos_cancel y.above (past m (side e q z) (dot r r) (square n) (nn_is (sym (moved m e.0 e.1 q z)) (on (m *ℤ q) (m ·ᵖ z +ᵖ w) i)))
    where
      scaled : (m k q : ℤ) → m *ℤ (k *ℤ q) +ℤ pos 0 ≡ k *ℤ (m *ℤ q)
      scaled = ring (int ∷ int ∷ int ∷ []) (λ m k q. m :* (k :* q) :+ con (pos 0) :≡ k :* (m :* q)) tt

      swapped : (m k q : ℤ) → m *ℤ (k *ℤ q) ≡ k *ℤ (m *ℤ q)
      swapped = ring (int ∷ int ∷ int ∷ []) (λ m k q. m :* (k :* q) :≡ k :* (m :* q)) tt

      summed : (m k : ℤ) (u z w : Pt) → (m ·ᵖ u +ᵖ k ·ᵖ w) +ᵖ negᵖ (m ·ᵖ (u -ᵖ k ·ᵖ z)) ≡ k ·ᵖ (m ·ᵖ z +ᵖ w)
      summed = ringᵖ (int ∷ int ∷ pt ∷ pt ∷ pt ∷ []) (λ m k u z w. (m ·E u +E k ·E w) +E neg_e (m ·E (u -E k ·E z)) :≡ᵖ k ·E (m ·E z +E w)) tt

      moved : (m : ℤ) (a b : Pt) (q : ℤ) (z : Pt) → cross (b -ᵖ a) ((m ·ᵖ z +ᵖ negᵖ (rot (b -ᵖ a))) -ᵖ (m *ℤ q) ·ᵖ a) ≡ m *ℤ cross (b -ᵖ a) (z -ᵖ q ·ᵖ a) -ℤ dot (b -ᵖ a) (b -ᵖ a)
      moved = ring (int ∷ pt ∷ pt ∷ int ∷ pt ∷ []) (λ m a b q z. cross_e (b -E a) ((m ·E z +E neg_e (rot_e (b -E a))) -E (m :* q) ·E a) :≡ m :* cross_e (b -E a) (z -E q ·E a) :- dot_e (b -E a) (b -E a)) tt

      past : (m s d : ℤ) → pos 0 <ℤ d → pos 0 ≤ℤ (m *ℤ s -ℤ d) → pos 0 <ℤ (m *ℤ s)
      past = arithℤ (int ∷ int ∷ int ∷ []) (λ m s d. con (pos 0) :< d ⇒ con (pos 0) :≤ m :* s :- d ⇒ con (pos 0) :< m :* s) (omega arith)

  overlap_strict : Overlap A B q z → StrictlyInside K q z
  overlap_strict o = each (neighbours K) (λ q z i. i)
    where
      each : (m : List (Pt × Pt)) → ((q : ℤ) (z : Pt) → Inside K q z → All (λ e. pos 0 ≤ℤ side e q z) m) → All (λ e. (e.0 ≡ e.1) ⊎ (pos 0 <ℤ side e q z)) m
      each [] f = tt
      each (e ∷ m) f = (⊎_elim (λ s. inl (sym (sub_zero s))) (λ n. inr (overlap_edge o e (nz_not_zero n) (λ q z i. (f q z i).0))) (nz_cases (e.1 -ᵖ e.0)), each m (λ q z i. (f q z i).1))

  -- back from a point near z to z, by a point strictly inside both
  overlap_back : {k m : ℤ} (q0 : ℤ) (u0 v0 u v : Pt) → pos 0 <ℤ k → pos 0 <ℤ m → StrictlyInside A q0 u0 → StrictlyInside B q0 v0
      → Inside A (k *ℤ (m *ℤ q +ℤ neg_ℤ q0)) u → Inside B (k *ℤ (m *ℤ q +ℤ neg_ℤ q0)) v → u +ᵖ negᵖ v ≡ k ·ᵖ (m ·ᵖ z +ᵖ negᵖ (u0 -ᵖ v0)) → Overlap A B q z
  overlap_back {k} {m} q0 u0 v0 u v hk hm sa sb ia ib e = record {
    k = k *ℤ m;
    u = k ·ᵖ u0 +ᵖ u;
    above = pos_mul hk hm;
    first = subst (λ p. StrictlyInside A p (k ·ᵖ u0 +ᵖ u)) (whole k q0 m q) (strict_add A (k *ℤ q0) (k ·ᵖ u0) (k *ℤ (m *ℤ q +ℤ neg_ℤ q0)) u (strict_scale A q0 u0 hk sa) ia);
    second = subst₂ (StrictlyInside B) (whole k q0 m q) (ap (λ p. k ·ᵖ v0 +ᵖ p) (other k u (m ·ᵖ z +ᵖ negᵖ (u0 -ᵖ v0)) e) ∙ place k m u0 v0 u z)
        (strict_add B (k *ℤ q0) (k ·ᵖ v0) (k *ℤ (m *ℤ q +ℤ neg_ℤ q0)) v (strict_scale B q0 v0 hk sb) ib);
  }
    where
      whole : (k q0 m q : ℤ) → k *ℤ q0 +ℤ k *ℤ (m *ℤ q +ℤ neg_ℤ q0) ≡ (k *ℤ m) *ℤ q
      whole = ring (int ∷ int ∷ int ∷ int ∷ []) (λ k q0 m q. k :* q0 :+ k :* (m :* q :+ :neg q0) :≡ (k :* m) :* q) tt

      place : (k m : ℤ) (u0 v0 u z : Pt) → k ·ᵖ v0 +ᵖ (u -ᵖ k ·ᵖ (m ·ᵖ z +ᵖ negᵖ (u0 -ᵖ v0))) ≡ (k ·ᵖ u0 +ᵖ u) -ᵖ (k *ℤ m) ·ᵖ z
      place = ringᵖ (int ∷ int ∷ pt ∷ pt ∷ pt ∷ pt ∷ []) (λ k m u0 v0 u z. k ·E v0 +E (u -E k ·E (m ·E z +E neg_e (u0 -E v0))) :≡ᵖ (k ·E u0 +E u) -E (k :* m) ·E z) tt

  -- the sum of all corners of each, and z moved away from where these lie
  overlap_away : (q0 : ℤ) (u0 v0 : Pt) → StrictlyInside A q0 u0 → StrictlyInside B q0 v0 → StrictlyInside K q z → Overlap A B q z
  overlap_away q0 u0 v0 sa sb i =
      let w = near_by (forms K) z (neg_ℤ q0) (negᵖ (u0 -ᵖ v0)) hq (strict_forms K q z i) in
      let m : ℤ = w.n in
      let s = (covers (m *ℤ q +ℤ neg_ℤ q0) (m ·ᵖ z +ᵖ negᵖ (u0 -ᵖ v0)) w.high).0
      (strict_inside K (m *ℤ q +ℤ neg_ℤ q0) (m ·ᵖ z +ᵖ negᵖ (u0 -ᵖ v0)) (forms_strict K (m *ℤ q +ℤ neg_ℤ q0) (m ·ᵖ z +ᵖ negᵖ (u0 -ᵖ v0)) w.all)) in
      overlap_back q0 u0 v0 s.u s.v s.above w.above sa sb s.first s.second s.sum

  strict_overlap : StrictlyInside K q z → Overlap A B q z
  strict_overlap i =
      let x = mid a in
      let y = mid b in
      overlap_away (y.q *ℤ x.q) (y.q ·ᵖ x.z) (x.q ·ᵖ y.z) (strict_scale A x.q x.z y.above x.strict)
      (subst (λ p. StrictlyInside B p (x.q ·ᵖ y.z)) (*ℤ_comm x.q y.q) (strict_scale B y.q y.z x.above y.strict)) i

pub pair_meets : PairMeets
pair_meets A B a b q z hq =
    let C : List Pt = anticlockwise A in
    let D : List Pt = anticlockwise B in
    let r : Turning C = (turn_about {l = A} a).round in
    let s : Turning D = (turn_about {l = B} b).round in
    let K : List Pt = pair_contour true A B in
    let covers : (q : ℤ) (z : Pt) → pos 0 <ℤ q → Inside K q z ↔ Sum true C D q z = pair_covers true A B a b in
    (Iff.trans (covers q z hq) (sum_meet C D q z), (strict_overlap K r s covers hq, overlap_strict K r s covers hq))
