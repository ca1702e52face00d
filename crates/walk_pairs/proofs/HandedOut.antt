-- The statement of specs/HandedOut.antt (`all_handed_out`). In order: the calls from any judged
-- walks hand out what the pair emits (`hands_emit`), and no other list (`handed_once`); a pair
-- begun is judged (`begun_judged`) and emits its contour (`begun_contour`). Assumes nothing.
use mathlib.Core.Path.{◌≡◌, refl, sym, ◌∙◌, ap, subst}
use mathlib.Core.Bool.{Bool, false}
use mathlib.Core.List.{List, [], ◌∷◌}
use Prim.Native.Nat.{ℕ, zero, suc, ◌≤◌, ◌<◌}
use native.Mathlib.Omega.{arith}
use borrow.Author.Tests.{eqb-false}
use lib.ListN.{length}
use lib.IntN.{ℤ}
use Rattle.integers.proofs.Faults.{first_none}
use Rattle.plane.specs.Plane.{Pt, ◌+ᵖ◌}
use Rattle.plane.specs.Machine.{point}
use Rattle.corners.specs.Corners.{points_of}
use Rattle.pair.specs.declared.ConvexSum.{ConvexSum}
use Rattle.pair.specs.Walk.{begin, point_of}
use Rattle.pair.specs.Pair.{Emitted, corner, end, steps_left, pair_step, emit, start_of, pair_contour}
use Rattle.pair.specs.Demand.{second, FarthestReach}
use Rattle.pair.proofs.PairSteps.{emit_enough}
use Rattle.pair.proofs.Theorem.{demand3}
use Rattle.walk.specs.declared.Paired.TheVariants as paired
use Rattle.walk.specs.declared.Next.TheVariants as next
use Rattle.walk.specs.Calls.{int_point, pair_begin_fault, paired_of, next_of}
use Rattle.walk.proofs.Answers.{by_answer, some_corner, begin_placed}
use Rattle.walk_pick.specs.Picking.{Judged}
use Rattle.walk_next.proofs.Judged.{answered, Gave, gave}
use Rattle.walk_pairs.specs.HandedOut.{HandsOut, ends, hands, AllHandedOut}

module _ (l r : List ℤ) where
  abbrev A : List Pt
  A = points_of l

  abbrev B : List Pt
  B = points_of r

  -- ---- all steps

  -- the calls from s hand out K, where they do so from each t with fewer steps
  from_step : (n : ℕ) {s : ConvexSum} → Judged l r s → ((t : ConvexSum) → Gave l r s t → HandsOut l r t (emit n A B t)) → (e : Emitted) → pair_step A B s ≡ e → HandsOut l r s (elim e [ corner p t ↦ p ∷ emit n A B t | end t ↦ [] ])
  from_step n {s} j ih (corner p t) h = hands s t (int_point p) (emit n A B t) (answered l r j ∙ ap next_of h) (ih t (gave l r j h))
  from_step n {s} j ih (end t) h = ends s t (answered l r j ∙ ap next_of h)

  hands_emit : (n : ℕ) {s : ConvexSum} → Judged l r s → steps_left s ≤ n → HandsOut l r s (emit (suc n) A B s)
  unfolding emit
  hands_emit zero {s} j h = from_step zero j (λ t g. absurd (omega (arith, g.fewer))) (pair_step A B s) refl
  hands_emit (suc n) {s} j h = from_step (suc n) j (λ t g. hands_emit n g.judged (omega (arith, g.fewer))) (pair_step A B s) refl

  -- the calls are functions
  handed_once : {s : ConvexSum} {K L : List Pt} → HandsOut l r s K → HandsOut l r s L → K ≡ L
  handed_once (ends _ t h) (ends _ u k) = refl
  handed_once (ends _ t h) (hands _ u p L k m) = absurd (let q : next.End t ≡ next.Corner p u = sym h ∙ k in let z : ◌≡◌ {A = ℕ} 0 1 = cc in omega (arith, z))
  handed_once (hands _ t p K h m) (ends _ u k) = absurd (let q : next.Corner p t ≡ next.End u = sym h ∙ k in let z : ◌≡◌ {A = ℕ} 0 1 = cc in omega (arith, z))
  handed_once (hands _ t p K h m) (hands _ u q L k n) =
      let e : next.Corner p t ≡ next.Corner q u = sym h ∙ k in
      let same : t ≡ u = cc in
      let here : p ≡ q = cc in
      let rest : K ≡ L = handed_once m (subst (λ z. HandsOut l r z L) (sym same) n) in
      λ i. point (here i) ∷ rest i

-- ---- a pair begun

-- what is accepted: both walks at their starts
pub begun_at : (reflected : Bool) (l r : List ℤ) {s : ConvexSum} → paired_of reflected l r ≡ paired.At s → (pair_begin_fault reflected l r ≡ 0) × (s ≡ start_of reflected (points_of l) (points_of r))
unfolding paired_of
begun_at reflected l r h =
    by_answer (pair_begin_fault reflected l r) h (λ z q. (z, (cc)))
    (λ n q. absurd (let k : ◌≡◌ {A = ℕ} 0 1 = cc in omega (arith, k)))

-- neither contour is empty, and both walks are judged
pub record Begun (reflected : Bool) (l r : List ℤ) : Type 0 where
  pub left : 0 < length (points_of l)
  pub right : 0 < length (points_of r)
  pub judged : Judged l r (start_of reflected (points_of l) (points_of r))

pub begun_judged : (reflected : Bool) (l r : List ℤ) → pair_begin_fault reflected l r ≡ 0 → Begun reflected l r
unfolding pair_begin_fault
begun_judged reflected l r h =
    let a = first_none _ _ (omega arith) h in
    let b = first_none _ _ (omega arith) a.1 in
    let c = first_none _ _ (omega arith) b.1 in
    let d = first_none _ _ (omega arith) c.1 in
    let e = first_none _ _ (omega arith) d.1 in
    let f = first_none _ _ (omega arith) e.1 in
    let g = first_none _ _ (omega arith) f.1 in
    let k = first_none _ _ (omega arith) g.1 in
    let p = some_corner l a.0 (eqb-false (length l) 0 g.0) in
    let q = some_corner r b.0 (eqb-false (length r) 0 k.0) in
    record {
      left = p;
      right = q;
      judged = record {
        left_short = a.0;
        right_short = b.0;
        left_placed_lem = begin_placed false (points_of l) p;
        right_placed_lem = begin_placed reflected (points_of r) q;
        left_range = c.0;
        right_range = d.0;
      };
    }

pub begun_contour : (reflected : Bool) (A B : List Pt) → 0 < length A → 0 < length B → pair_contour reflected A B ≡ emit (steps_left (start_of reflected A B)) A B (start_of reflected A B)
unfolding pair_contour
begun_contour reflected [] B h k = absurd (omega arith)
begun_contour reflected (p ∷ A) [] h k = absurd (omega arith)
begun_contour reflected (p ∷ A) (q ∷ B) h k = refl

pub all_handed_out : AllHandedOut
all_handed_out reflected l r s h = record { contour = contour; only = only; farthest = λ a b K m. subst (FarthestReach start (points_of l) (second reflected (points_of r))) (sym (only K m)) (demand3 reflected (points_of l) (points_of r) a b) }
  where
    start : Pt
    start = point_of (points_of l) (begin false (points_of l)) +ᵖ point_of (points_of r) (begin reflected (points_of r))

    first : ConvexSum
    first = start_of reflected (points_of l) (points_of r)

    same : emit (suc (steps_left first)) (points_of l) (points_of r) first ≡ pair_contour reflected (points_of l) (points_of r)
    same =
        let b = begun_judged reflected l r (begun_at reflected l r h).0 in
        emit_enough (points_of l) (points_of r) first (omega arith) (omega arith) ∙ sym (begun_contour reflected (points_of l) (points_of r) b.left b.right)

    contour : HandsOut l r s (pair_contour reflected (points_of l) (points_of r))
    contour =
        let b = begun_judged reflected l r (begun_at reflected l r h).0 in
        subst (λ z. HandsOut l r z (pair_contour reflected (points_of l) (points_of r))) (sym (begun_at reflected l r h).1)
        (subst (HandsOut l r first) same (hands_emit l r (steps_left first) b.judged (omega arith)))

    only : (K : List Pt) → HandsOut l r s K → K ≡ pair_contour reflected (points_of l) (points_of r)
    only K m = handed_once l r m contour
