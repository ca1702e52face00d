-- A path judged item by item (`told_is`) or as a whole (`told_whole`) is judged as the paper says.
-- In order: the stage (`judged_stage`); a coordinate out of range (`judged_off`); a point within
-- the range was given (`near_given`); the whole. Assumes nothing.
use mathlib.Core.Path.{◌≡◌, refl, sym, ◌∙◌, ap, ap₂, subst}
use mathlib.Core.Bool.{Bool, true, false, cond, not, ◌&&◌}
use mathlib.Core.List.{List, [], ◌∷◌}
use Prim.Native.Nat.{ℕ, ◌-◌, ◌/◌}
use native.Mathlib.Omega.{arith}
use borrow.Author.Tests.{ne_eqb}
use lib.Dec.{T, eqb, ltb}
use lib.ListN.{length, length-map}
use lib.Ieee.{Float, nan, inf, fin, binary64, add}
use lib.Ieee.Fits.{and_i, and_l, and_r}
use lib.Ieee.Bits.{is_true}
use lib.Ieee.Scale.{finite}
use Rattle.integers.specs.Faults.{first_fault}
use Rattle.integers.proofs.Order.{by_test}
use Rattle.table.specs.Table.{max_contour}
use Rattle.floats.proofs.Comparisons.{and_true}
use Rattle.grid.specs.Grid.{within_range}
use Rattle.grid.proofs.Bands.{range_number}
use Rattle.path.specs.declared.PathItem.{PathItem}
use Rattle.path.specs.declared.PathItem.TheVariants.{Move, Line, Horizontal, Vertical, RelativeLine, Close}
use Rattle.path.specs.declared.Stage.{Stage}
use Rattle.path.specs.declared.Stage.TheVariants.{Broken}
use Rattle.path.specs.declared.Point.{Point}
use Rattle.path.specs.declared.Frame.{Frame}
use Rattle.path.specs.declared.Judged.{Judged}
use Rattle.path.specs.declared.PathCounts.{PathCounts}
use Rattle.path.specs.Path.{every, reach, points_from, initial_point, path_points, in_order, path_contour, is_given, framed, is_within, is_on_grid, path_fault, path_counts}
use Rattle.path.specs.Judging.{is_closed, ordered_from, judge_item, judge_from, begun, is_ordered, broken, closed, judged_whole, judged_counts}
use Rattle.path.proofs.Tests.{told_by}
use Rattle.path.proofs.Order.{broken_order, opening_order, order_drawn}

pub and_false : (b : Bool) → b && false ≡ false
and_false true = refl
and_false false = refl

-- ---- the stage

-- a point past the range breaks the path, whatever comes
near_step : (b : Bool) (s : Stage) (is : List PathItem) (e : Bool) → ordered_from (cond b s Broken) is && e ≡ ordered_from s is && (b && e)
near_step true s is e = refl
near_step false s is e = ap (λ o. o && e) (broken_order is) ∙ sym (and_false (ordered_from s is))

pub judged_stage : (f : Frame) (s : Judged) (is : List PathItem) → is_closed (judge_from f s is).stage ≡ ordered_from s.stage is && every is_within (points_from s.at is)
unfolding judge_from ordered_from points_from every
judged_stage f s [] = and_true (is_closed s.stage)
judged_stage f s (Move x y ∷ is) = judged_stage f (judge_item f s (Move x y)) is ∙ near_step (is_within (reach s.at (Move x y))) _ is _
judged_stage f s (Line x y ∷ is) = judged_stage f (judge_item f s (Line x y)) is ∙ near_step (is_within (reach s.at (Line x y))) _ is _
judged_stage f s (Horizontal x ∷ is) = judged_stage f (judge_item f s (Horizontal x)) is ∙ near_step (is_within (reach s.at (Horizontal x))) _ is _
judged_stage f s (Vertical y ∷ is) = judged_stage f (judge_item f s (Vertical y)) is ∙ near_step (is_within (reach s.at (Vertical y))) _ is _
judged_stage f s (RelativeLine x y ∷ is) = judged_stage f (judge_item f s (RelativeLine x y)) is ∙ near_step (is_within (reach s.at (RelativeLine x y))) _ is _
judged_stage f s (Close ∷ is) = judged_stage f (judge_item f s Close) is

-- ---- a coordinate out of range

off_step : (b e o : Bool) → cond e (cond b o true) true ≡ cond (b && e) o true
off_step true e o = refl
off_step false true o = refl
off_step false false o = refl

pub judged_off : (f : Frame) (s : Judged) (is : List PathItem) → (judge_from f s is).off ≡ cond (every (is_on_grid f) (points_from s.at is)) s.off true
unfolding judge_from points_from every
judged_off f s [] = refl
judged_off f s (Move x y ∷ is) = judged_off f (judge_item f s (Move x y)) is ∙ off_step (is_on_grid f (reach s.at (Move x y))) _ s.off
judged_off f s (Line x y ∷ is) = judged_off f (judge_item f s (Line x y)) is ∙ off_step (is_on_grid f (reach s.at (Line x y))) _ s.off
judged_off f s (Horizontal x ∷ is) = judged_off f (judge_item f s (Horizontal x)) is ∙ off_step (is_on_grid f (reach s.at (Horizontal x))) _ s.off
judged_off f s (Vertical y ∷ is) = judged_off f (judge_item f s (Vertical y)) is ∙ off_step (is_on_grid f (reach s.at (Vertical y))) _ s.off
judged_off f s (RelativeLine x y ∷ is) = judged_off f (judge_item f s (RelativeLine x y)) is ∙ off_step (is_on_grid f (reach s.at (RelativeLine x y))) _ s.off
judged_off f s (Close ∷ is) = judged_off f (judge_item f s Close) is

-- ---- a point within the range was given by finite numbers

-- a finite sum has finite terms
sum_finite : (x y : Float) → T (finite (add binary64 x y)) → T (finite y)
unfolding add
sum_finite nan y t = absurd t
sum_finite (inf s) nan t = absurd t
sum_finite (inf s) (inf u) t = absurd (no s u t)
  where
    no : (s u : Bool) → T (finite (add binary64 (inf s) (inf u))) → ⊥
    no true true t = t
    no true false t = t
    no false true t = t
    no false false t = t
sum_finite (inf s) (fin u m e) t = tt
sum_finite (fin s m e) nan t = absurd t
sum_finite (fin s m e) (inf u) t = absurd t
sum_finite (fin s m e) (fin u n d) t = tt

near_finite : (x : Float) → T (within_range x) → T (finite x)
near_finite x t = (range_number x t).finite

both_finite : (x y : Float) → T (within_range x && within_range y) → T (finite x && finite y)
both_finite x y t = and_i (finite x) (finite y) (near_finite x (and_l (within_range x) (within_range y) t)) (near_finite y (and_r (within_range x) (within_range y) t))

pub item_given : (p : Point) (i : PathItem) → T (is_within (reach p i)) → T (is_given i)
item_given p (Move x y) t = both_finite x y t
item_given p (Line x y) t = both_finite x y t
item_given p (Horizontal x) t = near_finite x (and_l (within_range x) (within_range p.y) t)
item_given p (Vertical y) t = near_finite y (and_r (within_range p.x) (within_range y) t)
item_given p (RelativeLine x y) t =
    let u = add binary64 p.x x in
    let v = add binary64 p.y y in
    let b = both_finite u v t in
    and_i (finite x) (finite y) (sum_finite p.x x (and_l (finite u) (finite v) b)) (sum_finite p.y y (and_r (finite u) (finite v) b))
item_given p Close t = tt

-- one item more, which is no close
more_given : (p : Point) (i : PathItem) (is : List PathItem) (e : Bool) → (T e → T (every is_given is)) → T (is_within (reach p i) && e) → T (is_given i && every is_given is)
more_given p i is e f t = and_i (is_given i) (every is_given is) (item_given p i (and_l (is_within (reach p i)) e t)) (f (and_r (is_within (reach p i)) e t))

pub near_given : (p : Point) (is : List PathItem) → T (every is_within (points_from p is)) → T (every is_given is)
unfolding points_from every
near_given p [] t = tt
near_given p (Move x y ∷ is) t = let i = Move x y in more_given p i is (every is_within (points_from (reach p i) is)) (near_given (reach p i) is) t
near_given p (Line x y ∷ is) t = let i = Line x y in more_given p i is (every is_within (points_from (reach p i) is)) (near_given (reach p i) is) t
near_given p (Horizontal x ∷ is) t = let i = Horizontal x in more_given p i is (every is_within (points_from (reach p i) is)) (near_given (reach p i) is) t
near_given p (Vertical y ∷ is) t = let i = Vertical y in more_given p i is (every is_within (points_from (reach p i) is)) (near_given (reach p i) is) t
near_given p (RelativeLine x y ∷ is) t = let i = RelativeLine x y in more_given p i is (every is_within (points_from (reach p i) is)) (near_given (reach p i) is) t
near_given p (Close ∷ is) t = near_given p is t

-- ---- the whole

-- a path refused by 14 is told nothing else
refused : {p q : Bool} → p ≡ false → q ≡ false → (l m o u v w : Bool) (n k : ℕ) → told_by p l o v n ≡ told_by q m u w k
unfolding first_fault
refused e h l m o u v w n k = ap (λ b. told_by b l o v n) e ∙ ap (λ b. told_by b m u w k) (sym h)

off_not : (b : Bool) → cond b false true ≡ not b
off_not true = refl
off_not false = refl

-- s is closed where the path is in order, and then off where a coordinate is out of range
module _ (f : Frame) (is : List PathItem) (room : ℕ) (s : Judged) (closed_is : is_closed s.stage ≡ is_ordered is) (off-is : is_ordered is ≡ true → s.off ≡ not (every (is_on_grid f) (path_points is))) where
  bad : is_ordered is ≡ false → judged_counts f s (length is) room ≡ path_counts f is room
  unfolding judged_counts path_counts path_fault path_contour
  bad e =
      refused (ap (λ b. framed f && (b && not (eqb (length is) 0))) (closed_is ∙ e) ∙ and_false (framed f)) (ap (λ b. framed f && (every is_given is && b)) e ∙ ap (λ b. framed f && b) (and_false (every is_given is)) ∙ and_false (framed f))
      (ltb max_contour (length is - 1)) (ltb max_contour (length (path_points is))) s.off (not (every (is_on_grid f) (path_points is))) (ltb (room / 2) (length is - 1)) (ltb (room / 2) (length (path_points is))) (length is - 1) (length (path_contour f is))

  good : is_ordered is ≡ true → judged_counts f s (length is) room ≡ path_counts f is room
  unfolding judged_counts path_counts path_fault path_contour
  good e =
      let t : T (is_ordered is) = subst T (sym e) tt in
      let o : in_order is ≡ true = is_true (in_order is) (and_l (in_order is) (every is_within (path_points is)) t) in
      let g : every is_given is ≡ true = is_true (every is_given is) (near_given initial_point is (and_r (in_order is) (every is_within (path_points is)) t)) in
      let d = (order_drawn initial_point is o).long in
      let n : length is - 1 ≡ length (path_points is) = omega (arith, d) in
      let z : eqb (length is) 0 ≡ false = ne_eqb (length is) 0 (λ h. omega (arith, d, h)) in
      ap₂ (λ a b. told_by (framed f && (a && not b)) (ltb max_contour (length is - 1)) s.off (ltb (room / 2) (length is - 1)) (length is - 1)) (closed_is ∙ e) z
      ∙ ap₂ (λ k b. told_by (framed f && true) (ltb max_contour k) b (ltb (room / 2) k) k) n (off-is e)
      ∙ ap₂ (λ a b. told_by (framed f && (a && b)) (ltb max_contour (length (path_points is))) (not (every (is_on_grid f) (path_points is))) (ltb (room / 2) (length (path_points is))) (length (path_points is))) (sym g) (sym e)
      ∙ ap (λ k. told_by (framed f && (every is_given is && is_ordered is)) (ltb max_contour (length (path_points is))) (not (every (is_on_grid f) (path_points is))) (ltb (room / 2) (length (path_points is))) k) (sym (length-map (path_points is) _))

  judged_so : judged_counts f s (length is) room ≡ path_counts f is room
  judged_so = by_test (is_ordered is) good bad

-- what `told` answers, of a path of n items that was judged
module _ (f : Frame) (is : List PathItem) (room : ℕ) {s : Judged} {n : ℕ} {r : PathCounts} where
  told_of : {j : Judged} → is_closed j.stage ≡ is_ordered is → (is_ordered is ≡ true → j.off ≡ not (every (is_on_grid f) (path_points is))) → s ≡ j → n ≡ length is → r ≡ judged_counts f s n room → r ≡ path_counts f is room
  told_of {j} c o p q e = e ∙ ap₂ (λ s n. judged_counts f s n room) p q ∙ judged_so f is room j c o

  pub told_is : s ≡ judge_from f begun is → n ≡ length is → r ≡ judged_counts f s n room → r ≡ path_counts f is room
  told_is = told_of (judged_stage f begun is ∙ ap (λ o. o && every is_within (path_points is)) (opening_order is)) (λ o. judged_off f begun is ∙ off_not (every (is_on_grid f) (path_points is)))

  pub told_whole : s ≡ judged_whole f is → n ≡ length is → r ≡ judged_counts f s n room → r ≡ path_counts f is room
  unfolding judged_whole
  told_whole = told_of (whole_closed (is_ordered is)) (λ o. ap (λ b. (whole b).off) o)
    where
      whole : Bool → Judged
      whole b = cond b (closed (not (every (is_on_grid f) (path_points is)))) broken

      whole_closed : (b : Bool) → is_closed (whole b).stage ≡ b
      whole_closed true = refl
      whole_closed false = refl
