-- The rules of a part table: what `table_broken` tells where it is false, and of which tables it
-- is. In order: one start after another (`Step`); the starts as a loop goes through them; what
-- holds of a table that is not broken (`Sound`, `sound`); its parts give it back (`starts_parts`,
-- `corners_parts`) and are within the limits (`sound_limits`); the table of parts within the limits
-- is not broken (`limits_sound`), and its parts are they (`parts_table`). Assumes nothing.
use mathlib.Core.Path.{◌≡◌, refl, sym, ◌∙◌, ap, subst}
use mathlib.Core.Bool.{Bool, true, false, not, cond}
use mathlib.Core.List.{List, [], ◌∷◌, ◌++◌, flatten}
use Prim.Native.Nat.{ℕ, zero, suc, ◌+◌, ◌*◌, ◌-◌, ◌/◌, ◌%◌, ◌<◌, ◌≤◌}
use native.Mathlib.Numerals.{add-one}
use native.Mathlib.Omega.{arith}
use borrow.Author.Tests.{ltb-false, eqb-true, le-ltb, eq-eqb, ne_eqb, not-false}
use lib.Dec.{eqb, ltb}
use lib.ListN.{length, take, drop, get_or, length-append, take-append-drop, drop_of_length-le}
use lib.Seq.{slice, length-slice, drop-append-le, length-take-le, drop-length, drop-cons}
use lib.IntN.{ℤ}
use Rattle.integers.specs.Lists.{All}
use Rattle.integers.proofs.Tests.{differ, either_false}
use Rattle.plane.specs.Plane.{Pt}
use Rattle.corners.specs.Corners.{points_of, numbers_of}
use Rattle.table.specs.Table.{starts_from, starts_of, corners_of, parts_of, table_parts, part_count, steps_broken, starts_broken, table_broken, result_broken, max_contour, max_corners, max_parts}
use Rattle.corners.proofs.Corners.{length_points, length_numbers, numbers_points, points_numbers}
use Rattle.corners.proofs.Range.{was_taken}
use Rattle.table.proofs.Parts.{length_starts, parts_starts}

-- one of two tests holds
or_true : (t u b : Bool) → cond t true u ≡ true → cond t true (cond u true b) ≡ true
or_true true u b e = refl
or_true false true b e = refl
or_true false false b e = differ e

-- ---- one start after another

-- from a to b, beside n corners, with the rest s
pub record Step (m n a b : ℕ) (s : List ℕ) : Type 0 where
  pub rises : a ≤ b
  pub short : b ≤ a + m
  pub rest : steps_broken m n b s ≡ false

pub step : (m n a b : ℕ) (s : List ℕ) → steps_broken m n a (b ∷ s) ≡ false → Step m n a b s
unfolding steps_broken
step m n a b s e =
    let f = either_false (ltb b a) _ e in
    let g = either_false (ltb (a + m) b) _ f.1 in
    record { rises = ltb-false b a f.0; short = ltb-false (a + m) b g.0; rest = g.1 }

pub last_step : (m n a : ℕ) → steps_broken m n a [] ≡ false → a ≡ n
unfolding steps_broken
last_step m n a e = eqb-true a n (not-false (eqb a n) e)

-- a start is at most the corner count
pub start_bound : (m n a : ℕ) (s : List ℕ) → steps_broken m n a s ≡ false → a ≤ n
start_bound m n a [] e = omega (arith, last_step m n a e)
start_bound m n a (b ∷ s) e = let t = step m n a b s e in omega (arith, start_bound m n b s t.rest)

pub starts_bound : (m n a : ℕ) (s : List ℕ) → steps_broken m n a s ≡ false → (k : ℕ) → k ≤ length s → get_or (a ∷ s) k 0 ≤ n
starts_bound m n a s e zero h = start_bound m n a s e
starts_bound m n a [] e (suc k) h = absurd (omega arith)
starts_bound m n a (b ∷ s) e (suc k) h = starts_bound m n b s (step m n a b s e).rest k (omega arith)

pub starts_step : (m n a : ℕ) (s : List ℕ) → steps_broken m n a s ≡ false → (k : ℕ) → k < length s
    → (get_or (a ∷ s) k 0 ≤ get_or (a ∷ s) (suc k) 0) × (get_or (a ∷ s) (suc k) 0 ≤ get_or (a ∷ s) k 0 + m)
starts_step m n a [] e k h = absurd (omega arith)
starts_step m n a (b ∷ s) e zero h = let t = step m n a b s e in (t.rises, t.short)
starts_step m n a (b ∷ s) e (suc k) h = starts_step m n b s (step m n a b s e).rest k (omega arith)

pub starts_last : (m n a : ℕ) (s : List ℕ) → steps_broken m n a s ≡ false → get_or (a ∷ s) (length s) 0 ≡ n
starts_last m n a [] e = last_step m n a e
starts_last m n a (b ∷ s) e = starts_last m n b s (step m n a b s e).rest

-- ---- the starts, as a loop goes through them

pub no_starts : (m n : ℕ) (s : List ℕ) → length s ≡ 0 → starts_broken m n s ≡ true
unfolding starts_broken
no_starts m n [] h = refl
no_starts m n (a ∷ s) h = absurd (omega arith)

pub not_from_0 : (m n : ℕ) (s : List ℕ) → (get_or s 0 0 ≡ 0 → ⊥) → starts_broken m n s ≡ true
unfolding starts_broken
not_from_0 m n [] h = refl
not_from_0 m n (a ∷ s) h = rw (ne_eqb a 0 h)

pub steps_begin : (m n : ℕ) (s : List ℕ) → (length s ≡ 0 → ⊥) → get_or s 0 0 ≡ 0 → starts_broken m n s ≡ steps_broken m n 0 (drop 1 s)
unfolding starts_broken
steps_begin m n [] h e = absurd (h refl)
steps_begin m n (a ∷ s) h e = rw (eq-eqb a 0 e, e)

-- start i is b and comes after a; r is whether it may not
module _ (m n a : ℕ) {b : ℕ} (s : List ℕ) {i : ℕ} (h : i < length s) (p : b ≡ get_or s i 0) {r : Bool} (e : r ≡ cond (ltb b a) true (ltb (a + m) b)) where
  pub step_broken : r ≡ true → steps_broken m n a (drop i s) ≡ true
  unfolding steps_broken
  step_broken k = rw (drop-cons s i 0, ← p) (or_true (ltb b a) (ltb (a + m) b) _ (sym e ∙ k))

  pub step_passed : r ≡ false → steps_broken m n a (drop i s) ≡ steps_broken m n b (drop (i + 1) s)
  unfolding steps_broken
  step_passed k =
      let f = either_false (ltb b a) (ltb (a + m) b) (sym e ∙ k) in
      rw (add-one, drop-cons s i 0, ← p, f.0, f.1)

pub steps_end : (m n a : ℕ) (s : List ℕ) {i : ℕ} → length s ≤ i → steps_broken m n a (drop i s) ≡ not (eqb a n)
unfolding steps_broken
steps_end m n a s {i} h = rw (drop_of_length-le s {i = i} h)

-- ---- a table that is not broken

pub record Sound (starts : List ℕ) (corners : List ℤ) : Type 0 where
  pub even : length corners % 2 ≡ 0
  pub few_parts : part_count starts ≤ max_parts
  pub few_corners : length corners / 2 ≤ max_corners
  pub some : 0 < length starts
  pub first : get_or starts 0 0 ≡ 0
  pub rises : (k : ℕ) → suc k < length starts → get_or starts k 0 ≤ get_or starts (suc k) 0
  pub short : (k : ℕ) → suc k < length starts → get_or starts (suc k) 0 ≤ get_or starts k 0 + max_contour
  pub bounded : (k : ℕ) → k < length starts → get_or starts k 0 ≤ length corners / 2
  pub last : get_or starts (part_count starts) 0 ≡ length corners / 2

-- the starts after the first, at 0
pub record From0 (m n : ℕ) (starts : List ℕ) : Type 0 where
  pub rest : List ℕ
  pub shape : starts ≡ 0 ∷ rest
  pub steps : steps_broken m n 0 rest ≡ false

pub from_0 : {m n : ℕ} (starts : List ℕ) → starts_broken m n starts ≡ false → From0 m n starts
unfolding starts_broken
from_0 [] e = differ (sym e)
from_0 {m} {n} (a ∷ s) e =
    let f = was_taken (eqb a 0) (steps_broken m n a s) e in
    let z : a ≡ 0 = eqb-true a 0 f.0 in
    record { rest = s; shape = ap (λ b. b ∷ s) z; steps = subst (λ b. steps_broken m n b s ≡ false) z f.1 }

-- the tests of `table_broken`
pub record Tests (starts : List ℕ) (corners : List ℤ) : Type 0 where
  pub even : length corners % 2 ≡ 0
  pub few_parts : part_count starts ≤ max_parts
  pub few_corners : length corners / 2 ≤ max_corners
  pub from : From0 max_contour (length corners / 2) starts

pub tests : (starts : List ℕ) (corners : List ℤ) → table_broken starts corners ≡ false → Tests starts corners
unfolding table_broken
tests s c e =
    let f = was_taken (eqb (length c % 2) 0) _ e in
    let g = either_false (ltb max_parts (part_count s)) _ f.1 in
    let h = either_false (ltb max_corners (length c / 2)) _ g.1 in
    record { even = eqb-true _ 0 f.0; few_parts = ltb-false max_parts _ g.0; few_corners = ltb-false max_corners _ h.0; from = from_0 s h.1 }

one_less : (n : ℕ) → suc n - 1 ≡ n
one_less n = omega arith

-- starts from 0 up to n, none more than m after the one before
pub record Ascends (m n : ℕ) (starts : List ℕ) : Type 0 where
  pub some : 0 < length starts
  pub first : get_or starts 0 0 ≡ 0
  pub rises : (k : ℕ) → suc k < length starts → get_or starts k 0 ≤ get_or starts (suc k) 0
  pub short : (k : ℕ) → suc k < length starts → get_or starts (suc k) 0 ≤ get_or starts k 0 + m
  pub bounded : (k : ℕ) → k < length starts → get_or starts k 0 ≤ n
  pub last : get_or starts (part_count starts) 0 ≡ n

ascends : {m n : ℕ} {starts : List ℕ} → From0 m n starts → Ascends m n starts
ascends {m} {n} f = subst (Ascends m n) (sym f.shape) (of f.steps)
  where
    of : {r : List ℕ} → steps_broken m n 0 r ≡ false → Ascends m n (0 ∷ r)
    of {r} q = record {
      some = omega arith;
      first = refl;
      rises = λ k h. (starts_step _ _ 0 r q k (omega arith)).0;
      short = λ k h. (starts_step _ _ 0 r q k (omega arith)).1;
      bounded = λ k h. starts_bound _ _ 0 r q k (omega arith);
      last = ap (λ k. get_or (0 ∷ r) k 0) (one_less (length r)) ∙ starts_last _ _ 0 r q;
    }

pub sound : (starts : List ℕ) (corners : List ℤ) → table_broken starts corners ≡ false → Sound starts corners
sound s c e =
    let t = tests s c e in
    let a = ascends t.from in
    record {
      even = t.even;
      few_parts = t.few_parts;
      few_corners = t.few_corners;
      some = a.some;
      first = a.first;
      rises = a.rises;
      short = a.short;
      bounded = a.bounded;
      last = a.last;
    }

-- a pair result that is not broken
pub result_ascends : (starts : List ℕ) (corners : List ℤ) → result_broken starts corners ≡ false → Ascends (length corners / 2) (length corners / 2) starts
unfolding result_broken
result_ascends s c e = ascends (from_0 s (was_taken (eqb (length c % 2) 0) _ e).1)

-- ---- its parts give it back

-- a part and the points from its end on are the points from its start on
slice_drop : {A : Type 0} {a b : ℕ} (l : List A) → a ≤ b → b ≤ length l → slice a b l ++ drop b l ≡ drop a l
slice_drop {a} {b} l h k =
    let e : a ≤ length (take b l) = subst (λ n. a ≤ n) (sym (length-take-le b l k)) h in
    sym (drop-append-le a (take b l) (drop b l) e) ∙ ap (drop a) (take-append-drop b l)

pub flatten_parts : (m a : ℕ) (s : List ℕ) (l : List Pt) → steps_broken m (length l) a s ≡ false → flatten (parts_of (a ∷ s) l) ≡ drop a l
unfolding flatten parts_of
flatten_parts m a [] l e = rw (last_step m (length l) a e) (sym (drop-length l))
flatten_parts m a (b ∷ s) l e =
    let t = step m (length l) a b s e in
    ap (λ r. slice a b l ++ r) (flatten_parts m b s l t.rest) ∙ slice_drop l t.rises (start_bound m (length l) b s t.rest)

pub starts_from_parts : (m a : ℕ) (s : List ℕ) (l : List Pt) → steps_broken m (length l) a s ≡ false → starts_from a (parts_of (a ∷ s) l) ≡ a ∷ s
unfolding starts_from parts_of
starts_from_parts m a [] l e = refl
starts_from_parts m a (b ∷ s) l e =
    let t = step m (length l) a b s e in
    let n : a + length (slice a b l) ≡ b = omega (arith, length-slice a b l (start_bound m (length l) b s t.rest), t.rises) in
    ap (λ r. a ∷ r) (ap (λ m. starts_from m (parts_of (b ∷ s) l)) n ∙ starts_from_parts m b s l t.rest)

module _ (starts : List ℕ) (corners : List ℤ) (whole : table_broken starts corners ≡ false) where
  steps_whole : steps_broken max_contour (length (points_of corners)) 0 (tests starts corners whole).from.rest ≡ false
  steps_whole = rw length_points (tests starts corners whole).from.steps

  pub starts_parts : starts_of (table_parts starts corners) ≡ starts
  unfolding starts_of table_parts
  starts_parts =
      let f = (tests starts corners whole).from in
      rw f.shape (starts_from_parts max_contour 0 f.rest (points_of corners) steps_whole)

  pub flatten_whole : flatten (table_parts starts corners) ≡ points_of corners
  unfolding table_parts
  flatten_whole =
      let f = (tests starts corners whole).from in
      rw f.shape (flatten_parts max_contour 0 f.rest (points_of corners) steps_whole)

  pub corners_parts : corners_of (table_parts starts corners) ≡ corners
  unfolding corners_of
  corners_parts = ap numbers_of flatten_whole ∙ numbers_points corners (tests starts corners whole).even

  -- how many
  pub count_parts : length (table_parts starts corners) ≡ part_count starts
  count_parts = omega (arith, length_starts (table_parts starts corners), ap length starts_parts)

  pub count_corners : length (flatten (table_parts starts corners)) ≡ length corners / 2
  count_corners = ap length flatten_whole ∙ length_points corners

-- ---- parts within the limits

pub record Limits (ps : List (List Pt)) : Type 0 where
  pub parts : length ps ≤ max_parts
  pub corners : length (flatten ps) ≤ max_corners
  pub contours : All (λ p. length p ≤ max_contour) ps

-- the parts of a table that is not broken are within them
parts_short : (m a : ℕ) (s : List ℕ) (l : List Pt) → steps_broken m (length l) a s ≡ false → All (λ p. length p ≤ m) (parts_of (a ∷ s) l)
unfolding parts_of
parts_short m a [] l e = tt
parts_short m a (b ∷ s) l e =
    let t = step m (length l) a b s e in
    (omega (arith, length-slice a b l (start_bound m (length l) b s t.rest), t.short), parts_short m b s l t.rest)

pub sound_limits : (starts : List ℕ) (corners : List ℤ) → table_broken starts corners ≡ false → Limits (table_parts starts corners)
unfolding table_parts
sound_limits s c e =
    let t = tests s c e in
    record {
      parts = omega (arith, count_parts s c e, t.few_parts);
      corners = omega (arith, count_corners s c e, t.few_corners);
      contours = rw t.from.shape (parts_short max_contour 0 t.from.rest (points_of c) (steps_whole s c e));
    }

starts_from_steps : (m n k : ℕ) (ps : List (List Pt)) → k + length (flatten ps) ≡ n → All (λ p. length p ≤ m) ps
    → (s : List ℕ) × (starts_from k ps ≡ k ∷ s) × (steps_broken m n k s ≡ false)
unfolding flatten starts_from steps_broken
starts_from_steps m n k [] e h = ([], refl, rw (eq-eqb k n (omega arith)))
starts_from_steps m n k (p ∷ ps) e h =
    let r = starts_from_steps m n (k + length p) ps (omega (arith, length-append p (flatten ps))) h.1 in (
      (k + length p) ∷ r.0,
      ap (λ l. k ∷ l) r.1,
      rw (le-ltb (k + length p) k (omega arith), le-ltb (k + m) (k + length p) (omega (arith, h.0))) r.2,
    )

pub limits_sound : {ps : List (List Pt)} → Limits ps → table_broken (starts_of ps) (corners_of ps) ≡ false
unfolding table_broken starts_broken starts_of corners_of
limits_sound {ps} h =
    let e : length (numbers_of (flatten ps)) ≡ 2 * length (flatten ps) = length_numbers (flatten ps) in
    let half : length (numbers_of (flatten ps)) / 2 ≡ length (flatten ps) = omega arith in
    let r = starts_from_steps max_contour (length (flatten ps)) 0 ps (omega arith) h.contours in
    rw (
      eq-eqb (length (numbers_of (flatten ps)) % 2) 0 (omega arith),
      le-ltb max_parts (part_count (starts_from 0 ps)) (omega (arith, length_starts ps)),
      half,
      le-ltb max_corners (length (flatten ps)) h.corners,
      r.1,
    )
    r.2

-- the parts of the table of parts
pub parts_table : (ps : List (List Pt)) → table_parts (starts_of ps) (corners_of ps) ≡ ps
unfolding table_parts corners_of
parts_table ps = rw points_numbers (parts_starts ps)

-- no part has more corners than all have
each_short : {k : ℕ} (ps : List (List Pt)) → length (flatten ps) ≤ k → All (λ p. length p ≤ k) ps
unfolding flatten
each_short [] h = tt
each_short {k} (p ∷ ps) h = let e = length-append p (flatten ps) in (omega (arith, e, h), each_short ps (omega (arith, e, h)))

-- any parts make a pair result's table
pub parts_result : (ps : List (List Pt)) → result_broken (starts_of ps) (corners_of ps) ≡ false
unfolding result_broken starts_broken starts_of corners_of
parts_result ps =
    let e : length (numbers_of (flatten ps)) ≡ 2 * length (flatten ps) = length_numbers (flatten ps) in
    let half : length (numbers_of (flatten ps)) / 2 ≡ length (flatten ps) = omega arith in
    let r = starts_from_steps (length (flatten ps)) (length (flatten ps)) 0 ps (omega arith) (each_short ps (omega arith)) in
    rw (eq-eqb (length (numbers_of (flatten ps)) % 2) 0 (omega arith), half, r.1) r.2
