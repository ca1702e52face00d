-- A shard of an accepted job, with a left part, is accepted: 7, 2, 9 and 8 are told of a table or
-- of its parts, and fewer break no more rules; 10 is told of bounds, which stay.
-- In order: some of a list; starts less the first; an operand of fewer parts (`fewer_kinds`); the
-- shard (`accepted_shards`). Assumes nothing.
use mathlib.Core.Path.{◌≡◌, refl, sym, ◌∙◌, ap, subst}
use mathlib.Core.Bool.{Bool, false}
use mathlib.Core.List.{List, [], ◌∷◌, ◌++◌, map}
use Prim.Native.Nat.{ℕ, zero, suc, ◌+◌, ◌*◌, ◌-◌, ◌<◌, ◌≤◌}
use native.Mathlib.Omega.{arith}
use borrow.Author.Tests.{le-ltb, eq-eqb, ne_eqb, eqb-true, ltb-true, ltb-false}
use lib.Dec.{eqb, ltb}
use lib.ListN.{length, take, drop, get_or, length-drop, length-map}
use lib.Seq.{slice, drop-cons, get_or-drop}
use lib.IntN.{ℤ}
use lib.Signed.{lt_z}
use Rattle.integers.specs.Faults.{first_fault}
use Rattle.integers.proofs.Faults.{first_next, first_none, first_empty}
use Rattle.integers.proofs.Order.{by_test}
use Rattle.integers.proofs.Tests.{differ, either_false}
use Rattle.plane.specs.Plane.{Pt}
use Rattle.table.specs.declared.IntRect.{IntRect}
use Rattle.corners.specs.Corners.{points_of, off_range}
use Rattle.table.specs.Table.{max_contour, part_count, steps_broken, starts_broken, table_broken, within_bounds, bounds_list, some_outside, bounds_broken}
use Rattle.table.specs.Stored.{words_of, word_at, signed}
use Rattle.table.specs.Shown.{part_numbers}
use Rattle.corners.proofs.Range.{was_taken}
use Rattle.table.proofs.Rules.{step, tests}
use Rattle.table.proofs.Shown.{part_ranged}
use Rattle.corners.proofs.Corners.{points_slice}
use Rattle.pair.specs.Walk.{winding_leaves}
use Rattle.minkowski.specs.Pairs.{Operand, operand_parts, result_bounds, some_winding_leaves, pair_kinds}
use Rattle.minkowski_faults.proofs.Range.{off_append_out, off_append_in}
use Rattle.pairs_job.specs.Job.{starts_at, corners_at, table_words, operation, reflected_of, right_place, left_of, right_of, job_length_broken, job_fault, shape_fault}
use Rattle.pairs_job.proofs.Sizes.{sized, place}
use Rattle.pairs_job.proofs.Shape.{shaped, shape_told, shape_passed, to_operands}
use Rattle.pairs_rules.proofs.ByStarts.{rules}
use Rattle.pairs_shard.specs.Shard.{least_of, past_part, first_part, start_at, corner_place, shard_starts, shard_bytes, shard_of, Cuts}
use Rattle.pairs_shard.specs.Whole.{AcceptedCut, AcceptedShards}
use Rattle.pairs_shard.proofs.Faults.{none_refused}
use Rattle.pairs_shard.proofs.Known.{least_left, least_right, known, start_word, many, asked}
use Rattle.pairs_shard.proofs.Putting.{length_cut}
use Rattle.pairs_shard.proofs.Words.{right_parts, right_corners, length_starts, length_corners}
use Rattle.pairs_shard.proofs.Read.{head_word, parts_word, corners_word, starts_read, corners_read, rest_read, right_read, bounds_read, some_starts, some_numbers, parts_read}

-- ---- some of a list

off_some : (a b : ℕ) (l : List ℤ) → off_range l ≡ false → off_range (slice (2 * a) (2 * b) l) ≡ false
unfolding part_numbers
off_some a b l e = part_ranged (a ∷ b ∷ []) l 0 e

outside_take : (b : IntRect) (n : ℕ) (l : List Pt) → some_outside b l ≡ false → some_outside b (take n l) ≡ false
unfolding some_outside
outside_take b zero l e = refl
outside_take b (suc n) [] e = refl
outside_take b (suc n) (p ∷ l) e = let q = was_taken (within_bounds b p) _ e in rw q.0 (outside_take b n l q.1)

outside_drop : (b : IntRect) (n : ℕ) (l : List Pt) → some_outside b l ≡ false → some_outside b (drop n l) ≡ false
unfolding some_outside
outside_drop b zero l e = e
outside_drop b (suc n) [] e = e
outside_drop b (suc n) (p ∷ l) e = outside_drop b n l (was_taken (within_bounds b p) _ e).1

winding_take : (n : ℕ) (l : List (List Pt)) → some_winding_leaves false l ≡ false → some_winding_leaves false (take n l) ≡ false
unfolding some_winding_leaves
winding_take zero l e = refl
winding_take (suc n) [] e = refl
winding_take (suc n) (p ∷ l) e = let q = either_false (winding_leaves false p) _ e in rw q.0 (winding_take n l q.1)

winding_drop : (n : ℕ) (l : List (List Pt)) → some_winding_leaves false l ≡ false → some_winding_leaves false (drop n l) ≡ false
unfolding some_winding_leaves
winding_drop zero l e = e
winding_drop (suc n) [] e = e
winding_drop (suc n) (p ∷ l) e = winding_drop n l (either_false (winding_leaves false p) _ e).1

-- ---- starts less the first

steps_from : (m n x : ℕ) (s : List ℕ) → steps_broken m n x s ≡ false → (f : ℕ) → f ≤ length s → steps_broken m n (get_or (x ∷ s) f 0) (drop f s) ≡ false
steps_from m n x s e zero h = e
steps_from m n x [] e (suc f) h = absurd (omega arith)
steps_from m n x (y ∷ s) e (suc f) h = steps_from m n y s (step m n x y s e).rest f (omega arith)

steps_less : (m n a : ℕ) {x : ℕ} (s : List ℕ) (k : ℕ) → steps_broken m n x s ≡ false → a ≤ x → k ≤ length s → steps_broken m (get_or (x ∷ s) k 0 - a) (x - a) (map (λ t. t - a) (take k s)) ≡ false
unfolding steps_broken
steps_less m n a {x} s zero e h q = rw (eq-eqb (x - a) (x - a) refl)
steps_less m n a {x} [] (suc k) e h q = absurd (omega arith)
steps_less m n a {x} (y ∷ s) (suc k) e h q =
    let t = step m n x y s e in
    rw (le-ltb (y - a) (x - a) (omega arith), le-ltb (x - a + m) (y - a) (omega arith)) (steps_less m n a {x = y} s k t.rest (omega arith) (omega arith))

starts_less : (m n : ℕ) (s : List ℕ) → steps_broken m n 0 s ≡ false → (f k : ℕ) → f + k ≤ length s
    → starts_broken m (get_or (0 ∷ s) (f + k) 0 - get_or (0 ∷ s) f 0) (map (λ t. t - get_or (0 ∷ s) f 0) (take (suc k) (drop f (0 ∷ s)))) ≡ false
unfolding starts_broken
starts_less m n s e f k h =
    let x = get_or (0 ∷ s) f 0 in
    let d = drop-cons (0 ∷ s) f 0 (omega arith) in
    let g : get_or (get_or (0 ∷ s) f 0 ∷ drop f s) k 0 ≡ get_or (0 ∷ s) (f + k) 0 = ap (λ l. get_or l k 0) (sym d) ∙ get_or-drop f (0 ∷ s) k 0 in
    let q = steps_less m n x (drop f s) k (steps_from m n 0 s e f (omega arith)) (omega arith) (omega (arith, length-drop f s)) in
    ap (λ l. starts_broken m (get_or (0 ∷ s) (f + k) 0 - x) (map (λ t. t - x) (take (suc k) l))) d
    ∙ rw (eq-eqb (x - x) 0 (omega arith)) (ap (λ w. steps_broken m (w - x) (x - x) (map (λ t. t - x) (take k (drop f s)))) (sym g) ∙ q)

-- ---- an operand of fewer parts

-- 7 does not hold of it, nor 2, 9 or 8 where it does not hold of the other; the bounds are the
-- other's
pub record Fewer (l m : Operand) : Type 0 where
  pub table : table_broken m.starts m.corners ≡ false
  pub range : off_range l.corners ≡ false → off_range m.corners ≡ false
  pub bounds : m.bounds ≡ l.bounds
  pub inside : (b : IntRect) → some_outside b (points_of l.corners) ≡ false → some_outside b (points_of m.corners) ≡ false
  pub windings : some_winding_leaves false (operand_parts l) ≡ false → some_winding_leaves false (operand_parts m) ≡ false
  pub some : part_count m.starts ≡ 0 → ⊥

off_parts : (a b : List ℤ) → off_range (a ++ b) ≡ false → (off_range a ≡ false) × (off_range b ≡ false)
off_parts a b e =
    by_test (off_range a) (λ t. differ (sym e ∙ off_append_out a b t)) (λ t. (t, sym (off_append_in a b t) ∙ e))

bounds_fewer : (b : IntRect) (p q : List Pt) → (some_outside b p ≡ false → some_outside b q ≡ false) → bounds_broken b p ≡ false → bounds_broken b q ≡ false
unfolding bounds_broken
bounds_fewer b p q f e =
    let u = either_false (lt_z b.max_x b.min_x) _ e in
    let v = either_false (lt_z b.max_y b.min_y) _ u.1 in
    rw (u.0, v.0) (f v.1)

pub fewer_kinds : (t : Bool) {l m : Operand} (r : Operand) → Fewer l m → first_fault (pair_kinds t l r) ≡ 0 → first_fault (pair_kinds t m r) ≡ 0
fewer_kinds t {l} {m} r w h =
    let h1 = first_none _ _ (omega arith) h in
    let h2 = first_none _ _ (omega arith) h1.1 in
    let h3 = first_none _ _ (omega arith) h2.1 in
    let h4 = first_none _ _ (omega arith) h3.1 in
    let h5 = first_none _ _ (omega arith) h4.1 in
    let h6 = first_none _ _ (omega arith) h5.1 in
    let h7 = first_none _ _ (omega arith) h6.1 in
    let h8 = first_none _ _ (omega arith) h7.1 in
    let h9 = first_none _ _ (omega arith) h8.1 in
    let h10 = first_none _ _ (omega arith) h9.1 in
    let h11 = first_none _ _ (omega arith) h10.1 in
    let o = off_parts l.corners (bounds_list l.bounds) h3.0 in
    first_next 7 _ w.table ∙ first_next 7 _ h2.0
    ∙ first_next 2 _ (off_append_in m.corners (bounds_list m.bounds) (w.range o.0) ∙ ap (λ b. off_range (bounds_list b)) w.bounds ∙ o.1) ∙ first_next 2 _ h4.0
    ∙ first_next 9 _
    (ap (λ b. bounds_broken b (points_of m.corners)) w.bounds ∙ bounds_fewer l.bounds (points_of l.corners) (points_of m.corners) (w.inside l.bounds) h5.0)
    ∙ first_next 9 _ h6.0 ∙ first_next 8 _ (w.windings h7.0) ∙ first_next 8 _ h8.0
    ∙ first_next 10 _ (ap (λ b. off_range (bounds_list (result_bounds t b r.bounds))) w.bounds ∙ h9.0)
    ∙ first_next 20 _ (ne_eqb (part_count m.starts) 0 w.some) ∙ first_next 20 _ h11.0 ∙ first_empty

-- ---- the shard

left_as : (bytes : List ℕ) → table_broken (left_of bytes).starts (left_of bytes).corners ≡ false → table_broken (starts_at bytes 5) (corners_at bytes 5) ≡ false
unfolding left_of
left_as bytes e = e

module _ (f e : ℕ) (bytes : List ℕ) (c : Cuts f e bytes) where
  abbrev S : List ℕ
  S = shard_bytes f e bytes

  abbrev s₀ : List ℕ
  s₀ = starts_at bytes 5

  -- its starts less the first, up to its corner count
  starts_cut : table_broken s₀ (corners_at bytes 5) ≡ false → starts_broken max_contour (start_at bytes e - start_at bytes f) (shard_starts f e bytes) ≡ false
  starts_cut t =
      let from = (tests s₀ (corners_at bytes 5) t).from in
      let n : length s₀ ≡ suc (length from.rest) = ap length from.shape in
      let z : f + (e - f) ≡ e = omega (arith, c.parts) in
      let last : start_at bytes e ≡ get_or s₀ (f + (e - f)) 0 = sym (start_word bytes c.past) ∙ ap (λ k. get_or s₀ k 0) (sym z) in
      let first : start_at bytes f ≡ get_or s₀ f 0 = sym (start_word bytes (omega (arith, c.parts, c.past))) in
      (λ i. starts_broken max_contour (last i - first i) (map (λ t. t - first i) (some_starts c i)))
      ∙ subst (λ s. starts_broken max_contour (get_or s (f + (e - f)) 0 - get_or s f 0) (map (λ t. t - get_or s f 0) (take (suc (e - f)) (drop f s))) ≡ false) (sym from.shape)
      (starts_less max_contour _ from.rest from.steps f (e - f) (omega (arith, n, z, c.past, many f e bytes c)))

  table_cut : table_broken s₀ (corners_at bytes 5) ≡ false → table_broken (starts_at S 5) (corners_at S 5) ≡ false
  table_cut t =
      let k = known f e bytes c in
      let T = shard_starts f e bytes in
      let C = map signed (slice (corner_place bytes f) (corner_place bytes e) (words_of bytes)) in
      let m = length-map (slice (corner_place bytes f) (corner_place bytes e) (words_of bytes)) signed ∙ length_corners c in
      (λ i. table_broken (starts_read c i) (corners_read c i))
      ∙ sym (rules T C {n = start_at bytes e - start_at bytes f} m (omega (arith, length_starts c)) (omega arith)) ∙ starts_cut t

  fewer : table_broken s₀ (corners_at bytes 5) ≡ false → f < e → Fewer (left_of bytes) (left_of S)
  unfolding left_of
  fewer t h =
      let a = start_at bytes f in
      let b = start_at bytes e in
      let numbers = corners_read c ∙ some_numbers c in
      record {
        table = table_cut t;
        range = λ o. ap off_range numbers ∙ off_some a b (corners_at bytes 5) o;
        bounds = bounds_read c;
        inside =
            λ r o. ap (some_outside r) (ap points_of numbers ∙ points_slice a b (corners_at bytes 5))
            ∙ outside_drop r a (take b (points_of (corners_at bytes 5))) (outside_take r b (points_of (corners_at bytes 5)) o);
        windings =
            λ o. ap (some_winding_leaves false) (parts_read c)
            ∙ winding_take (e - f) (drop f (operand_parts (left_of bytes))) (winding_drop f (operand_parts (left_of bytes)) o);
        some = λ z. omega (arith, z, h, ap length (starts_read c), length_starts c);
      }

  -- it is as long as its counts say
  right_same : (word_at S (right_place S) ≡ word_at bytes (right_place bytes)) × (word_at S (right_place S + 1) ≡ word_at bytes (right_place bytes + 1))
  right_same =
      let r = rest_read c in (
        right_parts S ∙ ap (λ l. get_or l 4 0) r ∙ sym (right_parts bytes),
        right_corners S ∙ ap (λ l. get_or l 5 0) r ∙ sym (right_corners bytes),
      )

  sized_cut : job_length_broken bytes ≡ false → job_length_broken S ≡ false
  unfolding job_length_broken
  sized_cut h =
      let k = known f e bytes c in
      let n : length S ≡ 4 * (right_place S + table_words S (right_place S)) =
      omega (arith, length_cut k, sized bytes h, place bytes, place S, parts_word c, corners_word c, right_same.0, right_same.1) in
      rw (eq-eqb _ _ n)

  pub accepted_cut_at : job_fault bytes ≡ 0 → shape_fault bytes ≡ 0 → f < e → job_fault S ≡ 0
  accepted_cut_at j z h =
      let s = shaped bytes z in
      let k = known f e bytes c in
      let o = shape_passed bytes z in
      let t = ap (λ w. eqb w 1) (head_word c 0 (omega arith)) in
      let first = first_none (table_broken (left_of bytes).starts (left_of bytes).corners) _ (omega arith) (sym o ∙ j) in
      to_operands S (le-ltb (length S) 4 (omega (arith, length_cut k))) (ap (ltb 1) (head_word c 0 (omega arith)) ∙ le-ltb 1 (operation bytes) s.known) (sized_cut s.right_length)
      ∙ (λ i. first_fault (pair_kinds (t i) (left_of S) (right_read c i)))
      ∙ fewer_kinds (reflected_of bytes) (right_of bytes) (fewer (left_as bytes first.0) h) (sym o ∙ j)

-- ---- the shard of the numbers that are asked for

shape_of : (bytes : List ℕ) → job_fault bytes ≡ 0 → shape_fault bytes ≡ 0
shape_of bytes j =
    by_test (eqb (shape_fault bytes) 0) (λ t. eqb-true (shape_fault bytes) 0 t)
    (λ t. let d : shape_fault bytes ≡ 0 → ⊥ = λ z. differ (sym t ∙ eq-eqb (shape_fault bytes) 0 z) in absurd (d (sym (shape_told bytes d) ∙ j)))

pub accepted_cut : AcceptedCut
accepted_cut bytes j =
    let z = shape_of bytes j in
    sym (none_refused bytes z (left_as bytes (first_none (table_broken (left_of bytes).starts (left_of bytes).corners) _ (omega arith) (sym (shape_passed bytes z) ∙ j)).0))

-- the first is below the last
some_asked : {i j p : ℕ} → i < j → i < p → least_of i (least_of j p) < least_of j p
some_asked {i} {j} {p} h k =
    by_test (ltb p j)
    (λ t. let e = least_right (ltb-true p j t) in omega (arith, e, least_left {a = i} {b = least_of j p} (omega (arith, e))))
    (λ t. let e = least_left (ltb-false p j t) in omega (arith, e, least_left {a = i} {b = least_of j p} (omega (arith, e))))

pub accepted_shards : AcceptedShards
unfolding shard_of
accepted_shards i j bytes h k m =
    accepted_cut_at (first_part i j bytes) (past_part j bytes) bytes (asked i j (accepted_cut bytes h)) h (shape_of bytes h) (some_asked k m)
