-- What `placement` tells of two meshes (`placement_told`). In order: a test of some contours and
-- what holds of one; the contact by the tests; the contours of all pairs turn left once round; the
-- call is not refused. Assumes nothing.
use mathlib.Core.Path.{◌≡◌, refl, sym, ◌∙◌, ap, ap₂, subst}
use mathlib.Core.Bool.{Bool, true, false, cond}
use mathlib.Core.List.{List, [], ◌∷◌, flatten, append-nil}
use mathlib.Core.Logic.Iff
use mathlib.Core.Logic.{◌⊎◌, inl, inr, ⊎_elim, ◌↔◌}
use Prim.Native.Nat.{ℕ}
use native.Mathlib.Omega.{arith}
use lib.ListN.{length}
use lib.IntN.{pos}
use Rattle.integers.specs.Lists.{All, Any}
use Rattle.integers.proofs.Order.{zarith, by_test}
use Rattle.integers.proofs.Tests.{differ}
use Rattle.integers.proofs.Elements.{all_map, all_flatten, any_map, any_iff}
use Rattle.plane.specs.Plane.{Pt, on_grid}
use Rattle.mesh.specs.Mesh.{Mesh}
use Rattle.corners.specs.Corners.{numbers_of, off_range}
use Rattle.table.specs.Table.{starts_of, corners_of}
use Rattle.table.proofs.Rules.{parts_table, parts_result}
use Rattle.table.proofs.Answers.{starts_left, corners_left}
use Rattle.pair.specs.Pair.{pair_contour}
use Rattle.pair.proofs.Theorem.{demand3}
use Rattle.pair.proofs.Sharp.{sharp_round}
use Rattle.split.specs.Splitting.{split_parts}
use Rattle.split_pairs.specs.Premise.{PartMeets}
use Rattle.split_pairs.proofs.Theorem.{split_meets_premise}
use Rattle.minkowski.specs.Pairs.{operand_parts, pairs_of, pair_contours, pairs_fault}
use Rattle.minkowski.proofs.EachPair.{length_pairs}
use Rattle.minkowski_pairs.specs.Results.{pair_count}
use Rattle.minkowski_pairs.proofs.Bounds.{result_within, pairs_all}
use Rattle.split_operand.specs.Operand.{split_operand}
use Rattle.corners.proofs.Range.{numbers_range}
use Rattle.cover.specs.Inside.{Inside}
use Rattle.cover.specs.Overlap.{StrictlyInside}
use Rattle.cover.specs.Wholes.{Covered}
use Rattle.cover.proofs.Sides.{Turning}
use Rattle.cover.proofs.Strict.{strict_inside}
use Rattle.cover_parts.specs.Placed.{Placed}
use Rattle.cover_parts.proofs.Placed.{meshes_placed}
use Rattle.placement.specs.declared.Contact.TheVariants.{Apart, Touching, Overlapping}
use Rattle.placement.specs.Placement.{some, inside_at, strictly_inside_at, contact_by, placed_of}
use Rattle.placement.specs.declared.Placed.TheVariants.{At}
use Rattle.placement.proofs.Faults.{told_none}
use Rattle.placement.proofs.Contours.{told_at}
use Rattle.placement_meshes.specs.Rightly.{Rightly, DifferenceRightly, PlacementTold}
use Rattle.placement_meshes.proofs.Tests.{inside_is, strictly_is}

-- ---- some contour passes a test

some_any : (t : List Pt → Bool) (L : List (List Pt)) → (some t L ≡ true) ↔ Any (λ l. t l ≡ true) L
unfolding some
some_any t [] = (λ h. differ h, λ h. absurd h)
some_any t (l ∷ L) =
    by_test (t l) (λ p. rw p (λ h. inl refl, λ h. refl))
    (λ p. rw p (λ h. inr ((some_any t L).0 h), λ h. ⊎_elim (λ q. differ q) (λ q. (some_any t L).1 q) h))

-- ---- the contact, by the two tests

-- o says overlap, w that they meet, and overlap is one way to meet
by_tests : (o w : Bool) {X Y : Type 0} → (o ≡ true) ↔ X → (w ≡ true) ↔ Y → (X → Y) →
    ((cond o Overlapping (cond w Touching Apart) ≡ Overlapping) ↔ X) × ((cond o Overlapping (cond w Touching Apart) ≡ Touching) ↔ (Y × (X → ⊥))) × ((cond o Overlapping (cond w Touching Apart) ≡ Apart) ↔ (Y → ⊥))
by_tests true w f g i = (
  (λ h. f.0 refl, λ x. refl),
  (λ h. let y : ◌≡◌ {A = ℕ} 0 1 = cc in absurd (omega (arith, y)), λ h. absurd (h.1 (f.0 refl))),
  (λ h. let y : ◌≡◌ {A = ℕ} 0 1 = cc in absurd (omega (arith, y)), λ h. absurd (h (i (f.0 refl)))),
)
by_tests false true f g i = (
  (λ h. let y : ◌≡◌ {A = ℕ} 0 1 = cc in absurd (omega (arith, y)), λ x. differ (f.1 x)),
  (λ h. (g.0 refl, λ x. differ (f.1 x)), λ h. refl),
  (λ h. let y : ◌≡◌ {A = ℕ} 0 1 = cc in absurd (omega (arith, y)), λ h. absurd (h (g.0 refl))),
)
by_tests false false f g i = (
  (λ h. let y : ◌≡◌ {A = ℕ} 0 1 = cc in absurd (omega (arith, y)), λ x. differ (f.1 x)),
  (λ h. let y : ◌≡◌ {A = ℕ} 0 1 = cc in absurd (omega (arith, y)), λ h. differ (g.1 h.0)),
  (λ h y. differ (g.1 y), λ h. refl),
)

-- ---- of contours that turn left once round

module _ (L : List (List Pt)) (t : All Turning L) (z : Pt) where
  some_inside : (some (inside_at z) L ≡ true) ↔ Covered L (pos 1) z
  some_inside = Iff.trans (some_any (inside_at z) L) (any_iff (λ l. inside_at z l ≡ true) (λ l. Inside l (pos 1) z) L (all_map L (λ l r. inside_is l r z) t))

  some_strictly : (some (strictly_inside_at z) L ≡ true) ↔ Any (λ l. StrictlyInside l (pos 1) z) L
  some_strictly = Iff.trans (some_any (strictly_inside_at z) L) (any_iff (λ l. strictly_inside_at z l ≡ true) (λ l. StrictlyInside l (pos 1) z) L (all_map L (λ l r. strictly_is l r z) t))

  told_rightly : {mesh mesh' : Mesh} → Placed L mesh mesh' (pos 1) z → Rightly (contact_by z L) mesh mesh' z
  unfolding contact_by
  told_rightly p =
      let r = by_tests (some (strictly_inside_at z) L) (some (inside_at z) L) (Iff.trans some_strictly p.overlaps) (Iff.trans some_inside p.meets) (λ x. p.meets.0 (any_map L (λ l k. strict_inside l (pos 1) z k) (p.overlaps.1 x))) in
      record { overlapping = r.0; touching = r.1; apart = r.2 }

-- ---- the contours of all pairs of parts that meet demand 3's premise

pairs_turning : (X Y : List (List Pt)) → All PartMeets X → All PartMeets Y → All Turning (pairs_of true X Y)
pairs_turning X Y a b = pairs_all Turning true X Y (all_map X (λ A p. all_map Y (λ B r. sharp_round (pair_contour true A B) (demand3 true A B p.premise.1 r.premise.1).convex) b) a)

pub difference_rightly : DifferenceRightly
difference_rightly how m mesh how' m' mesh' h k z =
    let X = split_parts how m mesh in
    let Y = split_parts how' m' mesh' in
    told_rightly (pairs_of true X Y) (pairs_turning X Y (split_meets_premise how m mesh h) (split_meets_premise how' m' mesh' k)) z (meshes_placed how m mesh how' m' mesh' h k (pos 1) z (omega zarith))

-- ---- the call

-- no number of contours on the grid is out of range
in_range_lem : (ps : List (List Pt)) → All (All (λ p. on_grid p ≡ true)) ps → off_range (corners_of ps) ≡ false
unfolding corners_of off_range
in_range_lem ps h = ap off_range (sym (append-nil (numbers_of (flatten ps)))) ∙ numbers_range (flatten ps) [] ((all_flatten (λ p. on_grid p ≡ true) ps).1 h) refl

-- of the table of some contours on the grid, at a place on it, the call tells the contact
answered : (ps : List (List Pt)) (z : Pt) → All (All (λ p. on_grid p ≡ true)) ps → on_grid z ≡ true → placed_of (starts_of ps) (corners_of ps) z ≡ At (contact_by z ps)
answered ps z h g =
    sym (told_at (starts_of ps) (corners_of ps) z (told_none (starts_of ps) (corners_of ps) z (parts_result ps) g (in_range_lem ps h)) refl) ∙ ap (λ l. At (contact_by z l)) (parts_table ps)

pub placement_told : PlacementTold
placement_told how m mesh b how' m' mesh' b' s c h k f z g =
    let l = split_operand how m mesh b in
    let r = split_operand how' m' mesh' b' in
    let X = split_parts how m mesh in
    let Y = split_parts how' m' mesh' in
    let ps = pair_contours true l r in
    let n : pair_count l r ≡ length ps = sym (length_pairs true (operand_parts l) (operand_parts r)) in
    let same : ps ≡ pairs_of true X Y = ap₂ (pairs_of true) (parts_table X) (parts_table Y) in
    let grid : All (All (λ p. on_grid p ≡ true)) ps = all_map ps (λ K q. all_map K (λ p i. i.1) q) (result_within true l r (length s) (length c) f) in
    record {
      contact = contact_by z ps;
      answer =
          ap₂ (λ t d. placed_of t d z) (starts_left ps s c n f) (corners_left ps s c n f)
          ∙ answered ps z grid g;
      rightly = subst (λ L. Rightly (contact_by z L) mesh mesh' z) (sym same) (difference_rightly how m mesh how' m' mesh' h k z);
    }
