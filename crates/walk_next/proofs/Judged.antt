-- A pair's step of walks that are judged: no fault (`no_fault`), the defined answer (`answered`),
-- and after a corner both walks are judged again, with fewer steps left (`gave`). Assumes nothing.
use mathlib.Core.Path.{◌≡◌, refl, sym, ◌∙◌, ap, subst}
use mathlib.Core.Bool.{false}
use mathlib.Core.List.{List, [], ◌∷◌}
use Prim.Native.Nat.{ℕ, ◌<◌}
use native.Mathlib.Omega.{arith}
use lib.ListN.{length}
use lib.IntN.{ℤ}
use Rattle.plane.specs.Plane.{Pt}
use Rattle.corners.specs.Corners.{points_of}
use Rattle.pair.specs.declared.ConvexSum.{ConvexSum}
use Rattle.pair.specs.Pair.{corner, steps_left, pair_step}
use Rattle.walk.specs.declared.Next.TheVariants as next
use Rattle.walk.specs.Calls.{misplaced, int_point, pair_step_fault, next_of, pair_stepped_of, next_corner, next_places}
use Rattle.walk_pick.specs.Picking.{Judged}
use Rattle.walk_next.proofs.Promises.{fault_none, next_given, next_by}

module _ (l r : List ℤ) where
  pub no_fault : {s : ConvexSum} → Judged l r s → pair_step_fault l r s ≡ 0
  no_fault {s} j = sym (fault_none l r s j.left_short j.right_short j.left_placed_lem j.right_placed_lem j.left_range j.right_range)

  pub answered : {s : ConvexSum} → Judged l r s → pair_stepped_of l r s ≡ next_of (pair_step (points_of l) (points_of r) s)
  answered {s} j = sym (next_given l r s refl (no_fault j) refl)

  -- a corner: both walks are judged where they then stand, with fewer steps left
  pub record Gave (s t : ConvexSum) : Type 0 where
    pub judged : Judged l r t
    pub fewer : steps_left t < steps_left s

  pub gave : {s : ConvexSum} → Judged l r s → {p : Pt} {t : ConvexSum} → pair_step (points_of l) (points_of r) s ≡ corner p t → Gave s t
  gave {s} j {p} {t} h =
      let n = next_by l r s in
      let e : pair_stepped_of l r s ≡ next.Corner (int_point p) t = answered j ∙ ap next_of h in
      let at : next_places (pair_stepped_of l r s) ≡ t = ap next_places e in
      let p' = n.stays (no_fault j) in
      record {
        judged = record {
          left_short = j.left_short;
          right_short = j.right_short;
          left_placed_lem = subst (λ u. misplaced (length (points_of l)) u.a ≡ false) at p'.0;
          right_placed_lem = subst (λ u. misplaced (length (points_of r)) u.b ≡ false) at p'.1;
          left_range = j.left_range;
          right_range = j.right_range;
        };
        fewer = subst (λ u. steps_left u < steps_left s) at (n.fewer (λ z. no_corner (sym (ap next_corner e) ∙ z)));
      }
    where
      no_corner : (p ∷ []) ≡ [] → ⊥
      no_corner z = let k : ◌≡◌ {A = ℕ} 0 1 = cc in omega (arith, k)
