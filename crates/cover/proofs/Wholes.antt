-- Two pieces of many contours overlap as wholes exactly where two of their contours do
-- (`wholes_overlap`). In order: a point strictly inside one contour is inner (`inner_of_some`);
-- near an inner point of both pieces there is one on no edge of either, so it is strictly inside a
-- contour of each; pieces that cover the same overlap alike (`same_overlap`). Assumes nothing.
use mathlib.Core.Path.{◌≡◌, subst}
use mathlib.Core.List.{List, [], ◌∷◌, ◌++◌, map, flatten}
use mathlib.Core.Logic.{◌⊎◌}
use lib.IntN.{ℤ, pos, neg_ℤ, ◌-ℤ◌, ◌*ℤ◌, *ℤ_comm}
use lib.Signed.{◌≤ℤ◌, ◌<ℤ◌, ≤ℤ_refl}
use Rattle.integers.specs.Lists.{All, Any}
use Rattle.integers.proofs.Ring.{◌:-◌, ◌:*◌, :neg, ◌:≡◌, int, ring}
use Rattle.integers.proofs.Order.{<-≤}
use Rattle.integers.proofs.Signs.{pos_mul, *_mono}
use Rattle.integers.proofs.Elements.{all_map, any_map, all_every, any_map2, any_find, all_append, all_flatten, all_image}
use Rattle.plane.specs.Plane.{Pt, O, ◌-ᵖ◌}
use Rattle.cover.specs.Inside.{◌·ᵖ◌, Inside}
use Rattle.cover.specs.Overlap.{StrictlyInside, Overlap}
use Rattle.cover.specs.Wholes.{Covered, SameCover, SomePair, AtMost, Near, Inner, Overlapping, WholesOverlap}
use Rattle.cover.proofs.Forms.{Form, val, general, steady, box, box_own, box_near, moved_form, moved_val, moved_nonzero}
use Rattle.cover.proofs.Strict.{forms, forms_nonzero, strict_forms, forms_strict, off_strict, strict_inside, strict_scale}

-- ---- a point strictly inside one contour

pub inner_of_some : {L : List (List Pt)} {q : ℤ} {z : Pt} → pos 0 <ℤ q → Any (λ l. StrictlyInside l q z) L → Inner L q z
inner_of_some {L} {q} {z} hq h = any_find L h (λ l among s.
    let y = steady (forms l) z hq (strict_forms l q z s) in
    record {
      n = y.n;
      above = y.above;
      near = λ p w hp c. among (λ l. Inside l p w) (strict_inside l p w (forms_strict l p w (y.all y.n (≤ℤ_refl y.n) p w hp c)));
    })

-- ---- a point on no edge

-- f is not 0 at z/q
abbrev Off : ℤ → Pt → Form → Type 0
Off q z f = (pos 0 <ℤ val f q z) ⊎ (val f q z <ℤ pos 0)

-- the forms of all contours
abbrev all_forms : List (List Pt) → List Form
all_forms L = flatten (map forms L)

all_nonzero : (L : List (List Pt)) → All (λ f. f.d ≡ O → ⊥) (all_forms L)
all_nonzero L = (all_flatten (λ f. f.d ≡ O → ⊥) (map forms L)).1 ((all_image (All (λ f. f.d ≡ O → ⊥)) forms L).1 (all_every L forms_nonzero))

covered_strict : (L : List (List Pt)) (q : ℤ) (z : Pt) → All (Off q z) (all_forms L) → Covered L q z → Any (λ l. StrictlyInside l q z) L
covered_strict L q z h c =
    any_map2 L (λ l off i. off_strict l q z off i) ((all_image (All (Off q z)) forms L).0 ((all_flatten (Off q z) (map forms L)).0 h)) c

-- ---- the second piece moved by z/q

-- as near as before: both points moved back
near_moved : {n : ℤ} (k : ℤ) {q : ℤ} {u : Pt} (z : Pt) {p : ℤ} {w : Pt} → pos 0 <ℤ q → Near n (k *ℤ q) u p w → Near n (k *ℤ q) (u -ᵖ k ·ᵖ z) (p *ℤ q) (q ·ᵖ w -ᵖ p ·ᵖ z)
near_moved {n} k {q} {u} z {p} {w} hq c = record { across = back u.x z.x w.x c.across; upward = back u.y z.y w.y c.upward }
  where
    shift : (n k q u z p w : ℤ) → q *ℤ (n *ℤ ((k *ℤ q) *ℤ w -ℤ p *ℤ u)) ≡ n *ℤ ((k *ℤ q) *ℤ (q *ℤ w -ℤ p *ℤ z) -ℤ (p *ℤ q) *ℤ (u -ℤ k *ℤ z))
    shift = ring (int ∷ int ∷ int ∷ int ∷ int ∷ int ∷ int ∷ []) (λ n k q u z p w. q :* (n :* ((k :* q) :* w :- p :* u)) :≡ n :* ((k :* q) :* (q :* w :- p :* z) :- (p :* q) :* (u :- k :* z))) tt

    size : (k q p : ℤ) → q *ℤ (p *ℤ (k *ℤ q)) ≡ (p *ℤ q) *ℤ (k *ℤ q)
    size = ring (int ∷ int ∷ int ∷ []) (λ k q p. q :* (p :* (k :* q)) :≡ (p :* q) :* (k :* q)) tt

    size_below : (k q p : ℤ) → q *ℤ neg_ℤ (p *ℤ (k *ℤ q)) ≡ neg_ℤ ((p *ℤ q) *ℤ (k *ℤ q))
    size_below = ring (int ∷ int ∷ int ∷ []) (λ k q p. q :* :neg (p :* (k :* q)) :≡ :neg ((p :* q) :* (k :* q))) tt

    back : (u z w : ℤ) → AtMost (p *ℤ (k *ℤ q)) (n *ℤ ((k *ℤ q) *ℤ w -ℤ p *ℤ u)) → AtMost ((p *ℤ q) *ℤ (k *ℤ q)) (n *ℤ ((k *ℤ q) *ℤ (q *ℤ w -ℤ p *ℤ z) -ℤ (p *ℤ q) *ℤ (u -ℤ k *ℤ z)))
    back u z w h = (
      subst (λ x. x ≤ℤ (n *ℤ ((k *ℤ q) *ℤ (q *ℤ w -ℤ p *ℤ z) -ℤ (p *ℤ q) *ℤ (u -ℤ k *ℤ z)))) (size_below k q p) (subst (λ x. (q *ℤ neg_ℤ (p *ℤ (k *ℤ q))) ≤ℤ x) (shift n k q u z p w) (*_mono (<-≤ hq) h.0)),
      subst (λ x. (n *ℤ ((k *ℤ q) *ℤ (q *ℤ w -ℤ p *ℤ z) -ℤ (p *ℤ q) *ℤ (u -ℤ k *ℤ z))) ≤ℤ x) (size k q p) (subst (λ x. x ≤ℤ (q *ℤ (p *ℤ (k *ℤ q)))) (shift n k q u z p w) (*_mono (<-≤ hq) h.1)),
    )

-- ---- the theorem

module _ (X Y : List (List Pt)) (q : ℤ) (z : Pt) (hq : pos 0 <ℤ q) where
  -- strictly inside a contour of each piece at w/p
  common : {p : ℤ} (w : Pt) → pos 0 <ℤ p → Any (λ l. StrictlyInside l p w) X → Any (λ l. StrictlyInside l (p *ℤ q) (q ·ᵖ w -ᵖ p ·ᵖ z)) Y → SomePair (λ A B. Overlap A B q z) X Y
  common {p} w hp x y =
      any_map X (λ A s. any_map Y (λ B t. record {
        k = p;
        u = q ·ᵖ w;
        above = hp;
        first = subst (λ r. StrictlyInside A r (q ·ᵖ w)) (*ℤ_comm q p) (strict_scale A p w hq s);
        second = t;
      }) y) x

  parts_overlap : Overlapping X Y q z → SomePair (λ A B. Overlap A B q z) X Y
  parts_overlap o =
      let r : ℤ = o.k *ℤ q in
      let hr : pos 0 <ℤ r = pos_mul o.above hq in
      let i : ℤ = o.first.n in
      let j : ℤ = o.second.n in
      let moved : Form → Form = moved_form q z in
      let w = general (all_forms X ++ map moved (all_forms Y))
      ((all_append (λ f. f.d ≡ O → ⊥) (all_forms X) (map moved (all_forms Y))).1 (all_nonzero X, (all_image (λ f. f.d ≡ O → ⊥) moved (all_forms Y)).1 (all_map (all_forms Y) (moved_nonzero z hq) (all_nonzero Y))))
      (box i r o.u ++ box j r o.u) o.u hr ((all_append (λ f. pos 0 <ℤ val f r o.u) (box i r o.u) (box j r o.u)).1 (box_own i o.u hr, box_own j o.u hr)) in
      let near = (all_append (λ f. pos 0 <ℤ val f w.q w.z) (box i r o.u) (box j r o.u)).0 w.all in
      let off = (all_append (Off w.q w.z) (all_forms X) (map moved (all_forms Y))).0 w.off in
      let x : Covered X w.q w.z = o.first.near w.q w.z w.above (box_near near.0) in
      let y : Covered Y (w.q *ℤ q) (q ·ᵖ w.z -ᵖ w.q ·ᵖ z) =
      o.second.near (w.q *ℤ q) (q ·ᵖ w.z -ᵖ w.q ·ᵖ z) (pos_mul w.above hq) (near_moved o.k z hq (box_near near.1)) in
      common w.z w.above (covered_strict X w.q w.z off.0 x) (covered_strict Y (w.q *ℤ q) (q ·ᵖ w.z -ᵖ w.q ·ᵖ z) (from_moved w.q w.z off.1) y)
    where
      from_moved : (p : ℤ) (w : Pt) → All (Off p w) (map (moved_form q z) (all_forms Y)) → All (Off (p *ℤ q) (q ·ᵖ w -ᵖ p ·ᵖ z)) (all_forms Y)
      from_moved p w h = all_map (all_forms Y) (λ f k. subst (λ x. (pos 0 <ℤ x) ⊎ (x <ℤ pos 0)) (moved_val q z f p w) k) ((all_image (Off p w) (moved_form q z) (all_forms Y)).0 h)

  wholes_of_parts : SomePair (λ A B. Overlap A B q z) X Y → Overlapping X Y q z
  wholes_of_parts h =
      any_find X h (λ A among-x k. any_find Y k (λ B among-y o.
      let hr : pos 0 <ℤ (o.k *ℤ q) = pos_mul o.above hq in
      record {
        k = o.k;
        u = o.u;
        above = o.above;
        first = inner_of_some hr (among-x (λ l. StrictlyInside l (o.k *ℤ q) o.u) o.first);
        second = inner_of_some hr (among-y (λ l. StrictlyInside l (o.k *ℤ q) (o.u -ᵖ o.k ·ᵖ z)) o.second);
      }))

pub wholes_overlap : WholesOverlap
wholes_overlap X Y q z hq = (parts_overlap X Y q z hq, wholes_of_parts X Y q z hq)

-- ---- pieces that cover the same

same_inner : {K L : List (List Pt)} → SameCover K L → {q : ℤ} {z : Pt} → Inner K q z → Inner L q z
same_inner f i = record { n = i.n; above = i.above; near = λ p w hp c. (f p w hp).0 (i.near p w hp c) }

pub same_overlap : {X Y S T : List (List Pt)} → SameCover X S → SameCover Y T → {q : ℤ} {z : Pt} → Overlapping X Y q z → Overlapping S T q z
same_overlap f g o = record {
  k = o.k;
  u = o.u;
  above = o.above;
  first = same_inner f o.first;
  second = same_inner g o.second;
}
