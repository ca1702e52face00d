-- Where a place lies by the contours in turn: what is told of all is what is left to tell
-- (`ByTurn`), at the start, after a contour, at one that it lies strictly inside, at the end; and
-- part k of a pair result, as the code takes it. Assumes nothing.
use mathlib.Core.Path.{◌≡◌, refl, ◌∙◌, ap, ap₂}
use mathlib.Core.Bool.{Bool, true, false, cond}
use mathlib.Core.List.{List, [], ◌∷◌}
use Prim.Native.Nat.{ℕ, suc, ◌+◌, ◌*◌, ◌<◌, ◌≤◌}
use native.Mathlib.Numerals.{add-one}
use native.Mathlib.Omega.{arith}
use borrow.Author.Tests.{eq-eqb, ne_eqb}
use lib.ListN.{length, drop, get_or, drop_of_length-le}
use lib.Seq.{drop-cons}
use lib.IntN.{ℤ}
use Rattle.plane.specs.Plane.{Pt}
use Rattle.corners.specs.Corners.{points_of, corners_between}
use Rattle.table.specs.Table.{parts_of, table_parts, part_count}
use Rattle.table.proofs.Parts.{length_parts}
use Rattle.table.proofs.Rules.{result_ascends}
use Rattle.table.proofs.Shown.{part_is, numbers_between}
use Rattle.placement.proofs.Bools.{or_none, or-all}
use Rattle.placement.specs.declared.Contact.TheVariants.{Apart, Touching, Overlapping}
use Rattle.placement.specs.Placement.{some, inside_at, strictly_inside_at, contact_in, contact_by, place_fault, placed_of, Placeable}
use Rattle.placement.specs.declared.Placed.TheVariants.{At, Refused}

-- what the answer of one contour says of the tests
told_apart : (z : Pt) (l : List Pt) → contact_in z l ≡ Apart → (strictly_inside_at z l ≡ false) × (inside_at z l ≡ false)
unfolding contact_in
told_apart z l e = by (strictly_inside_at z l) (inside_at z l) e
  where
    by : (s t : Bool) → cond s Overlapping (cond t Touching Apart) ≡ Apart → (s ≡ false) × (t ≡ false)
    by true t e = let y : ◌≡◌ {A = ℕ} 0 1 = cc in absurd (omega (arith, y))
    by false true e = let y : ◌≡◌ {A = ℕ} 0 1 = cc in absurd (omega (arith, y))
    by false false e = (refl, refl)

told_touching : (z : Pt) (l : List Pt) → contact_in z l ≡ Touching → (strictly_inside_at z l ≡ false) × (inside_at z l ≡ true)
unfolding contact_in
told_touching z l e = by (strictly_inside_at z l) (inside_at z l) e
  where
    by : (s t : Bool) → cond s Overlapping (cond t Touching Apart) ≡ Touching → (s ≡ false) × (t ≡ true)
    by true t e = let y : ◌≡◌ {A = ℕ} 0 1 = cc in absurd (omega (arith, y))
    by false true e = (refl, refl)
    by false false e = let y : ◌≡◌ {A = ℕ} 0 1 = cc in absurd (omega (arith, y))

told_overlapping : (z : Pt) (l : List Pt) → contact_in z l ≡ Overlapping → strictly_inside_at z l ≡ true
unfolding contact_in
told_overlapping z l e = by (strictly_inside_at z l) (inside_at z l) e
  where
    by : (s t : Bool) → cond s Overlapping (cond t Touching Apart) ≡ Overlapping → s ≡ true
    by true t e = refl
    by false true e = let y : ◌≡◌ {A = ℕ} 0 1 = cc in absurd (omega (arith, y))
    by false false e = let y : ◌≡◌ {A = ℕ} 0 1 = cc in absurd (omega (arith, y))

module _ (z : Pt) (ps : List (List Pt)) where
  -- before contour k, where `touches` says whether one before it has z inside
  pub record ByTurn (k : ℕ) (touches : Bool) : Type 0 where
    pub strictly : some (strictly_inside_at z) ps ≡ some (strictly_inside_at z) (drop k ps)
    pub weakly : some (inside_at z) ps ≡ cond touches true (some (inside_at z) (drop k ps))

  pub by_start : ByTurn 0 false
  by_start = record { strictly = refl; weakly = refl }

  -- contour k
  some_turn : (t : List Pt → Bool) {k : ℕ} → k < length ps → some t (drop k ps) ≡ cond (t (get_or ps k [])) true (some t (drop (k + 1) ps))
  unfolding some
  some_turn t {k} h = rw (add-one, drop-cons ps k [])

  module _ {k : ℕ} {touches : Bool} (b : ByTurn k touches) (h : k < length ps) where
    pub passed : contact_in z (get_or ps k []) ≡ Apart → ByTurn (k + 1) touches
    passed e =
        let t = told_apart z (get_or ps k []) e in
        record {
          strictly = b.strictly ∙ some_turn (strictly_inside_at z) h ∙ rw t.0;
          weakly = b.weakly ∙ ap (λ x. cond touches true x) (some_turn (inside_at z) h ∙ rw t.1);
        }

    pub touched : contact_in z (get_or ps k []) ≡ Touching → ByTurn (k + 1) true
    touched e =
        let t = told_touching z (get_or ps k []) e in
        record {
          strictly = b.strictly ∙ some_turn (strictly_inside_at z) h ∙ rw t.0;
          weakly = b.weakly ∙ ap (λ x. cond touches true x) (some_turn (inside_at z) h ∙ rw t.1) ∙ or-all touches;
        }

    pub overlapped : contact_in z (get_or ps k []) ≡ Overlapping → Overlapping ≡ contact_by z ps
    unfolding contact_by
    overlapped e = rw (b.strictly ∙ some_turn (strictly_inside_at z) h ∙ ap (λ x. cond x true (some (strictly_inside_at z) (drop (k + 1) ps))) (told_overlapping z (get_or ps k []) e))

  module _ {k : ℕ} {touches : Bool} (b : ByTurn k touches) (h : length ps ≤ k) where
    none_strictly : some (strictly_inside_at z) ps ≡ false
    unfolding some
    none_strictly = b.strictly ∙ rw (drop_of_length-le ps {i = k} h)

    all_weakly : some (inside_at z) ps ≡ touches
    unfolding some
    all_weakly = b.weakly ∙ rw (drop_of_length-le ps {i = k} h) (or_none touches)

    pub by_end : cond touches Touching Apart ≡ contact_by z ps
    unfolding contact_by
    by_end = rw (none_strictly, all_weakly)

-- ---- contour k of a pair result

-- it lies from number 2 a up to number 2 b
pub record Lies (a b : ℕ) (corners : List ℤ) : Type 0 where
  pub rises : a ≤ b
  pub within : 2 * b ≤ length corners

pub lies : {starts : List ℕ} {corners : List ℤ} {k : ℕ} → Placeable starts corners → k < part_count starts → Lies (get_or starts k 0) (get_or starts (k + 1) 0) corners
lies {starts = s} {corners = c} {k} p h =
    let t = result_ascends s c p.whole in
    rw add-one (record { rises = t.rises k (omega arith); within = omega (arith, t.bounded (suc k) (omega arith)) })

-- how many there are
pub count_contours : {starts : List ℕ} {corners : List ℤ} → Placeable starts corners → (length (table_parts starts corners) ≡ part_count starts) × (0 < length starts)
unfolding table_parts
count_contours {starts = s} {corners = c} p = of s (result_ascends s c p.whole).some
  where
    of : (s : List ℕ) → 0 < length s → (length (parts_of s (points_of c)) ≡ part_count s) × (0 < length s)
    of [] h = absurd (omega (arith, h))
    of (a ∷ s) h = (omega (arith, length_parts a s (points_of c)), h)

-- ---- the call

-- a place made of two numbers, as the machine holds them
pub made : {u x v y : ℤ} → u ≡ x → v ≡ y → ◌≡◌ {A = Pt} (record { x = u; y = v }) (record { x = x; y = y })
made p q = ap₂ (λ a b. record { x = a; y = b }) p q

pub told_refused : (s : List ℕ) (c : List ℤ) (z : Pt) {f : ℕ} → f ≡ place_fault s c z → (f ≡ 0 → ⊥) → Refused f ≡ placed_of s c z
unfolding placed_of
told_refused s c z e h = rw (← e, ne_eqb _ 0 h)

pub told_at : (s : List ℕ) (c : List ℤ) (z : Pt) {f : ℕ} → f ≡ place_fault s c z → f ≡ 0 → At (contact_by z (table_parts s c)) ≡ placed_of s c z
unfolding placed_of
told_at s c z e h = rw (← e, eq-eqb _ 0 h)

-- the corners from start k to the next are contour k
pub contour_at : (starts : List ℕ) (corners : List ℤ) {k : ℕ} → k < part_count starts → points_of (corners_between (get_or starts k 0) (get_or starts (k + 1) 0) corners) ≡ get_or (table_parts starts corners) k []
contour_at s c {k} h = ap points_of (numbers_between s c k) ∙ part_is s c h
