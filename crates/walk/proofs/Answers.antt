-- The calls on walks: each answer's number is its fault number (`begun_number_lem`,
-- `pointed_number_lem`, `stepped_number_lem`, `next_number_lem`), a refusal hands the walk back as
-- it came (`stepped_back`, `next_back`), and an accepted step leaves a walk whose place is again a
-- corner of its contour (`step_placed`; `accepted`, `index_inside`, `next_inside`,
-- `advance_placed`), as a walk begun does (`begin_placed`). Assumes nothing.
use mathlib.Core.Path.{◌≡◌, refl, sym, ◌∙◌}
use mathlib.Core.Bool.{Bool, true, false, cond, true≢false}
use mathlib.Core.List.{List}
use Prim.Native.Nat.{ℕ, zero, suc, ◌/◌, ◌%◌, ◌≤◌, ◌<◌}
use native.Mathlib.Omega.{arith}
use borrow.Author.Tests.{eqb-true, eqb-false, eq-eqb, ltb-false, leb-false, lt-leb, ne_eqb}
use lib.Dec.{eqb, leb}
use lib.ListN.{length}
use lib.IntN.{ℤ}
use Rattle.integers.proofs.Faults.{first_none}
use Rattle.integers.proofs.Order.{by_test}
use Rattle.integers.proofs.Tests.{either_false}
use Rattle.plane.specs.Plane.{Pt}
use Rattle.corners.specs.Corners.{points_of}
use Rattle.table.specs.Table.{max_contour}
use Rattle.corners.proofs.Corners.{length_points}
use Rattle.corners.proofs.Range.{was_taken}
use Rattle.pair.specs.declared.Place.{Place}
use Rattle.pair.specs.declared.ConvexSum.{ConvexSum}
use Rattle.pair.specs.Walk.{begin, next_index, advance}
use Rattle.pair.proofs.Places.{Valid, valid_next, valid_begin}
use Rattle.pair.specs.Pair.{Emitted, corner, end, pair_step}
use Rattle.walk.specs.declared.Begun.TheVariants as begun
use Rattle.walk.specs.declared.Pointed.TheVariants as pointed
use Rattle.walk.specs.declared.Stepped.TheVariants as stepped
use Rattle.walk.specs.declared.Next.TheVariants as next
use Rattle.walk.specs.Calls.{length_broken, misplaced, finished, off_at, begin_fault, begun_of, point_fault, pointed_of, step_fault, stepped_of, pair_step_fault, next_of, pair_stepped_of, begun_number, pointed_number, stepped_number, stepped_place, next_number, next_places}

-- ---- numbers

-- an answer chosen by whether the fault is 0 has the fault's number, where each choice has its own
pub choice_number : {A : Type 0} (number : A → ℕ) (f : ℕ) {good bad : A} → number good ≡ 0 → number bad ≡ f → number (cond (eqb f 0) good bad) ≡ f
choice_number number zero g b = g
choice_number number (suc f) g b = rw (ne_eqb (suc f) 0 (omega arith), b)

-- the answer where there is no fault, and where there is one
pub accepts : {A : Type 0} {f : ℕ} (good bad : A) → f ≡ 0 → good ≡ cond (eqb f 0) good bad
accepts {f = f} good bad e = rw (eq-eqb f 0 e)

pub refuses : {A : Type 0} {f : ℕ} (good bad : A) → (f ≡ 0 → ⊥) → bad ≡ cond (eqb f 0) good bad
refuses {f = f} good bad e = rw (ne_eqb f 0 e)

-- which of the two an answer is
pub by_answer : {A X : Type 0} (f : ℕ) {good bad : A} {x : A} → cond (eqb f 0) good bad ≡ x → (f ≡ 0 → good ≡ x → X) → ((f ≡ 0 → ⊥) → bad ≡ x → X) → X
by_answer zero {good} {bad} e g b = g refl e
by_answer (suc f) {good} {bad} e g b = let n : suc f ≡ 0 → ⊥ = λ z. absurd (omega arith) in b n (refuses good bad n ∙ e)

pub begun_number_lem : (l : List ℤ) (reflected : Bool) → begun_number (begun_of l reflected) ≡ begin_fault l reflected
unfolding begun_of
begun_number_lem l reflected = choice_number begun_number (begin_fault l reflected) refl refl

pub pointed_number_lem : (l : List ℤ) (w : Place) → pointed_number (pointed_of l w) ≡ point_fault l w
unfolding pointed_of
pointed_number_lem l w = choice_number pointed_number (point_fault l w) refl refl

pub stepped_number_lem : (l : List ℤ) (w : Place) → stepped_number (stepped_of l w) ≡ step_fault l w
unfolding stepped_of
stepped_number_lem l w = choice_number stepped_number (step_fault l w) refl refl

-- a corner or the end is no fault
emitted_number : (e : Emitted) → next_number (next_of e) ≡ 0
emitted_number (corner p t) = refl
emitted_number (end t) = refl

pub next_number_lem : (l r : List ℤ) (s : ConvexSum) → next_number (pair_stepped_of l r s) ≡ pair_step_fault l r s
unfolding pair_stepped_of
next_number_lem l r s = choice_number next_number (pair_step_fault l r s) (emitted_number (pair_step (points_of l) (points_of r) s)) refl

-- ---- a refusal hands back what came

refused : {A B : Type 0} (place : A → B) (f : ℕ) (good : A) {bad : A} → 0 < f → place (cond (eqb f 0) good bad) ≡ place bad
refused place zero good h = absurd (omega arith)
refused place (suc f) good h = rw (ne_eqb (suc f) 0 (omega arith))

pub stepped_back : (l : List ℤ) (w : Place) → 0 < step_fault l w → stepped_place (stepped_of l w) ≡ w
unfolding stepped_of
stepped_back l w h = refused stepped_place (step_fault l w) _ h

pub next_back : (l r : List ℤ) (s : ConvexSum) → 0 < pair_step_fault l r s → next_places (pair_stepped_of l r s) ≡ s
unfolding pair_stepped_of
next_back l r s h = refused next_places (pair_step_fault l r s) _ h

-- ---- an accepted step stays on the contour

-- which of the tests of `misplaced` failed, over the bare bits
all_false : (a s b c : Bool) → cond a true (cond s (cond b true c) false) ≡ false → (a ≡ false) × (s ≡ true → (b ≡ false) × (c ≡ false))
all_false true s b c h = absurd (true≢false h)
all_false false true true c h = absurd (true≢false h)
all_false false true false c h = (refl, λ k. (refl, h))
all_false false false b c h = (refl, λ k. absurd (true≢false (sym k)))

-- a contour of sound length has few corners
pub few_corners : (l : List ℤ) → length_broken l ≡ false → length (points_of l) ≤ max_contour
unfolding length_broken
few_corners l h = omega (arith, length_points l, ltb-false max_contour (length l / 2) (was_taken (eqb (length l % 2) 0) _ h).1)

-- and where it is not empty it has a corner
pub some_corner : (l : List ℤ) → length_broken l ≡ false → (length l ≡ 0 → ⊥) → 0 < length (points_of l)
unfolding length_broken
some_corner l h k = omega (arith, length_points l, eqb-true (length l % 2) 0 (was_taken (eqb (length l % 2) 0) _ h).0, k)

-- its place is a corner
pub index_inside : (n : ℕ) (w : Place) → misplaced n w ≡ false → w.index < n
unfolding misplaced
index_inside n w h = leb-false n w.index (all_false (leb n w.index) w.segment (leb n w.start) (leb n w.end) h).0

-- off a segment its ends don't matter
flat_next : {n : ℕ} (w : Place) → w.segment ≡ false → w.index < n → next_index n w < n
unfolding next_index
flat_next {n} w h k = rw h (valid_next {n = n} {w = record { index = w.index; remaining = 0; reverse = w.reverse; reflected = false; segment = false; start = w.index; end = w.index }} (record { index = k; start = k; end = k }))

pub next_inside : (n : ℕ) (w : Place) → misplaced n w ≡ false → next_index n w < n
unfolding misplaced
next_inside n w h =
    let t = all_false (leb n w.index) w.segment (leb n w.start) (leb n w.end) h in
    by_test w.segment
    (λ s. valid_next (record { index = leb-false n w.index t.0; start = leb-false n w.start (t.1 s).0; end = leb-false n w.end (t.1 s).1 }))
    (λ s. flat_next w s (leb-false n w.index t.0))

-- the place stepped to is a corner again, and so are the ends, which stay
pub advance_placed : (n : ℕ) (w : Place) → misplaced n w ≡ false → misplaced n (advance n w) ≡ false
unfolding misplaced advance
advance_placed n w h =
    let t = all_false (leb n w.index) w.segment (leb n w.start) (leb n w.end) h in
    rw (lt-leb n (next_index n w) (next_inside n w h), ends w.segment t.1)
  where
    ends : (s : Bool) {b c : Bool} → (s ≡ true → (b ≡ false) × (c ≡ false)) → cond s (cond b true c) false ≡ false
    ends true f = rw ((f refl).0, (f refl).1)
    ends false f = refl

-- where a step is accepted, the walk had a step left and was in place, and so was its next place
pub record Accepted (l : List ℤ) (w : Place) : Type 0 where
  pub short : length_broken l ≡ false
  pub left : 0 < w.remaining
  pub placed : misplaced (length (points_of l)) w ≡ false
  pub here : off_at (points_of l) w.index ≡ false
  pub there : off_at (points_of l) (next_index (length (points_of l)) w) ≡ false

pub accepted : (l : List ℤ) (w : Place) → step_fault l w ≡ 0 → Accepted l w
unfolding step_fault
accepted l w h =
    let a = first_none _ _ (omega arith) h in
    let b = first_none _ _ (omega arith) a.1 in
    let c = first_none _ _ (omega arith) b.1 in
    let p = either_false (finished w) _ b.0 in
    let q = either_false (off_at (points_of l) w.index) _ c.0 in
    let e : w.remaining ≡ 0 → ⊥ = eqb-false w.remaining 0 p.0 in
    record { short = a.0; left = omega arith; placed = p.1; here = q.0; there = q.1 }

pub step_placed : (l : List ℤ) (w : Place) → step_fault l w ≡ 0 → misplaced (length (points_of l)) (stepped_place (stepped_of l w)) ≡ false
unfolding stepped_of
step_placed l w h = rw (h, advance_placed (length (points_of l)) w (accepted l w h).placed)

valid_placed : {n : ℕ} {w : Place} → Valid n w → misplaced n w ≡ false
unfolding misplaced
valid_placed {n} {w} v = rw (lt-leb n w.index v.index, lt-leb n w.start v.start, lt-leb n w.end v.end, neither w.segment)
  where
    neither : (s : Bool) → cond s false false ≡ false
    neither true = refl
    neither false = refl

pub begin_placed : (reflected : Bool) (l : List Pt) → 0 < length l → misplaced (length l) (begin reflected l) ≡ false
begin_placed reflected l h = valid_placed (valid_begin reflected l h)
