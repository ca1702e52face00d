-- The winding of a convex list of edges: the sum of the crosses of each corner, seen from the
-- first, with the edge out of it, is above 0 (`winding_pos`). No term is below 0; were all 0, each
-- edge would lie along the first. Assumes nothing.
use mathlib.Core.Path.{◌≡◌, refl, sym, ◌∙◌, ap, subst}
use mathlib.Core.List.{List, [], ◌∷◌}
use mathlib.Core.Logic.{⊎_elim}
use lib.IntN.{ℤ, pos}
use lib.Signed.{◌≤ℤ◌, ◌<ℤ◌}
use Rattle.integers.specs.Lists.{All, sumℤ}
use Rattle.integers.proofs.Order.{≤_or_>}
use Rattle.plane.specs.Plane.{Pt, O, ◌+ᵖ◌, cross}
use Rattle.plane.proofs.Vectors.{+ᵖ_comm, zero-+ᵖ, cross_self}
use Rattle.plane.specs.Halves.{Nz}
use Rattle.plane.proofs.Directions.{Le, nz_of_up}
use Rattle.pair.specs.Demand.{sumᵖ}
use Rattle.plane.proofs.Sides.{Line, line_swap, line_add, line_trans}
use Rattle.pair.proofs.Convex.{Convex}
use Rattle.pair.proofs.Totals.{sum_cons, zero_sum}
use Rattle.pair.proofs.Splits.{Split, split_start, split_next}
use Rattle.pair.proofs.Reaches.{convex_nonempty}
use Rattle.pair.proofs.Upper.{up_corner, left_weakly}

-- the crosses of u, u + e₁, u + e₁ + e₂, … with e₁, e₂, e₃, …
unfoldable pub crossings : Pt → List Pt → List ℤ
crossings u [] = []
crossings u (e ∷ l) = cross u e ∷ crossings (u +ᵖ e) l

module _ {E : List Pt} (c : Convex E) where
  -- one edge on
  next_sum : {u : Pt} (b : Pt) (A : List Pt) → u ≡ sumᵖ A → u +ᵖ b ≡ sumᵖ (b ∷ A)
  next_sum b A e = ap (λ v. v +ᵖ b) e ∙ +ᵖ_comm (sumᵖ A) b ∙ sym (sum_cons b A)

  -- no term is below 0
  none_below : {A B : List Pt} {u : Pt} → Split Le E A B → u ≡ sumᵖ A → All (λ k. pos 0 ≤ℤ k) (crossings u B)
  unfolding crossings
  none_below {B = []} s e = tt
  none_below {A = A} {B = b ∷ B} {u = u} s e = (subst (λ v. pos 0 ≤ℤ cross v b) (sym e) (left_weakly c s), none_below {A = b ∷ A} {B = B} {u = u +ᵖ b} (split_next s) (next_sum b A e))

  -- u, the sum of the edges before, lies along v and b along u, so b lies along v
  all_along : (v : Pt) {a : Pt} {A : List Pt} {B : List Pt} {u : Pt} → Split Le E (a ∷ A) B → u ≡ sumᵖ (a ∷ A) → Line v u → All (λ k. k ≡ pos 0) (crossings u B) → All (Line v) B
  unfolding crossings
  all_along v {B = []} s e h z = tt
  all_along v {a = a} {A = A} {B = b ∷ B} {u = u} s e h z =
      let k : Line v b = line_trans v b (subst Nz (sym e) (nz_of_up (up_corner c s))) h (line_swap u b z.0) in
      (k, all_along v {a = b} {A = a ∷ A} {B = B} {u = u +ᵖ b} (split_next s) (next_sum b (a ∷ A) e) (line_add v u b h k) z.1)

-- so the winding is above 0
pub winding_pos : {E : List Pt} → Convex E → pos 0 <ℤ sumℤ (crossings O E)
unfolding crossings
winding_pos {E = []} c = absurd (convex_nonempty c refl)
winding_pos {E = e ∷ l} c = ⊎_elim (λ h. absurd (flat (zero_sum (crossings O (e ∷ l)) (none_below c {A = []} {B = e ∷ l} {u = O} start (unfold sumᵖ in refl)) h))) (λ h. h) (≤_or_> (sumℤ (crossings O (e ∷ l))) (pos 0))
  where
    start : Split Le (e ∷ l) [] (e ∷ l)
    start = split_start c.ascends

    flat : All (λ k. k ≡ pos 0) (crossings O (e ∷ l)) → ⊥
    flat z =
        c.wide e c.nonzero.0
        (cross_self e, all_along c e (split_next start) (next_sum c {u = O} e [] (unfold sumᵖ in refl)) (subst (Line e) (sym (zero-+ᵖ e)) (cross_self e)) z.1)
