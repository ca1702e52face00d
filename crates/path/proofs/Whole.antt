-- A path judged as a whole, item after item, up to its close. `Drawing`: i items of it lead to p,
-- and none of them breaks it. In order: one item; one item more (`drawing_next`), or one that
-- breaks the path (`drawing_else`, `drawing_far`); its end (`drawing_done`, `short_whole`,
-- `open_whole`). Assumes nothing.
use mathlib.Core.Path.{◌≡◌, refl, sym, ◌∙◌, ap, ap₂, subst}
use mathlib.Core.Bool.{Bool, true, false, cond, not, ◌&&◌}
use mathlib.Core.List.{List, [], ◌∷◌}
use Prim.Native.Nat.{ℕ, suc, ◌+◌, ◌-◌, ◌<◌}
use native.Mathlib.Omega.{arith}
use borrow.Author.Tests.{not-true, ne_eqb}
use lib.Dec.{T, eqb}
use lib.ListN.{length, drop, get_or, drop_of_length-le}
use lib.Ieee.Fits.{and_l, and_r}
use lib.Ieee.Bits.{is_true}
use Rattle.integers.proofs.Order.{by_test}
use Rattle.integers.proofs.Tests.{differ}
use Rattle.floats.proofs.Comparisons.{and_true}
use Rattle.path.specs.declared.PathItem.{PathItem}
use Rattle.path.specs.declared.PathItem.TheVariants.{Move, Line, Horizontal, Vertical, RelativeLine, Close}
use Rattle.path.specs.declared.Point.{Point}
use Rattle.path.specs.declared.Frame.{Frame}
use Rattle.path.specs.Path.{every, reach, closes, points_from, initial_point, path_points, lines_then_close, in_order, is_given, is_within, is_on_grid}
use Rattle.path.specs.Judging.{is_drawn, moves, is_next, is_ordered, broken, closed, judged_whole}
use Rattle.path.proofs.Judging.{and_false, item_given}
use Rattle.path.proofs.Turns.{drop_turn}

-- ---- one item

-- in order from the move, and from behind it
abbrev order_at : Bool → List PathItem → Bool
order_at true = in_order
order_at false = lines_then_close

-- a move at first, a line behind it
abbrev in_place : Bool → PathItem → Bool
in_place b x = cond b (moves x) (not (moves x))

-- an item that may stand there leaves the rest to be seen
order_on : (b : Bool) (x : PathItem) (r : List PathItem) → closes x ≡ false → in_place b x ≡ true → order_at b (x ∷ r) ≡ lines_then_close r
unfolding in_order lines_then_close
order_on true (Move u v) r c e = refl
order_on true (Line u v) r c e = differ e
order_on true (Horizontal u) r c e = differ e
order_on true (Vertical v) r c e = differ e
order_on true (RelativeLine u v) r c e = differ e
order_on true Close r c e = differ (sym c)
order_on false (Move u v) r c e = differ e
order_on false (Line u v) r c e = refl
order_on false (Horizontal u) r c e = refl
order_on false (Vertical v) r c e = refl
order_on false (RelativeLine u v) r c e = refl
order_on false Close r c e = differ (sym c)

order_else : (b : Bool) (x : PathItem) (r : List PathItem) → closes x ≡ false → in_place b x ≡ false → order_at b (x ∷ r) ≡ false
unfolding in_order lines_then_close
order_else true (Move u v) r c e = differ (sym e)
order_else true (Line u v) r c e = refl
order_else true (Horizontal u) r c e = refl
order_else true (Vertical v) r c e = refl
order_else true (RelativeLine u v) r c e = refl
order_else true Close r c e = differ (sym c)
order_else false (Move u v) r c e = refl
order_else false (Line u v) r c e = differ (sym e)
order_else false (Horizontal u) r c e = differ (sym e)
order_else false (Vertical v) r c e = differ (sym e)
order_else false (RelativeLine u v) r c e = differ (sym e)
order_else false Close r c e = differ (sym c)

is_close : (x : PathItem) → closes x ≡ true → x ≡ Close
is_close (Move u v) c = differ c
is_close (Line u v) c = differ c
is_close (Horizontal u) c = differ c
is_close (Vertical v) c = differ c
is_close (RelativeLine u v) c = differ c
is_close Close c = refl

-- nothing follows a close
close_order : (b : Bool) (y : PathItem) (r : List PathItem) → order_at b (Close ∷ y ∷ r) ≡ false
unfolding in_order lines_then_close
close_order true y r = refl
close_order false y r = refl

-- the point of an item that is no close
point_first : (p : Point) (x : PathItem) (r : List PathItem) → closes x ≡ false → points_from p (x ∷ r) ≡ reach p x ∷ points_from (reach p x) r
unfolding points_from
point_first p x r c = ap (λ b. cond b (points_from p r) (reach p x ∷ points_from (reach p x) r)) c

drawn_open : (x : PathItem) → T (is_drawn x) → closes x ≡ false
drawn_open x t = not-true (closes x) (is_true (not (closes x)) (and_l (not (closes x)) (is_given x) t))

pub next_drawn : (b : Bool) (x : PathItem) {r : Bool} → r ≡ is_next b x → r ≡ true → T (is_drawn x)
next_drawn b x e t = and_l (is_drawn x) (in_place b x) (subst T (sym (sym e ∙ t)) tt)

-- a rest of a path: in order from here, every point within the range
abbrev onward : Bool → Point → List PathItem → Bool
onward b p r = order_at b r && every is_within (points_from p r)

-- an item that may stand there, with its point within the range, changes nothing
onward_next : (b : Bool) (p : Point) (x : PathItem) (r : List PathItem) → T (is_next b x) → is_within (reach p x) ≡ true → onward b p (x ∷ r) ≡ onward false (reach p x) r
unfolding every
onward_next b p x r t n =
    let c = drawn_open x (and_l (is_drawn x) (in_place b x) t) in
    ap₂ (λ o l. o && every is_within l) (order_on b x r c (is_true (in_place b x) (and_r (is_drawn x) (in_place b x) t))) (point_first p x r c)
    ∙ ap (λ m. lines_then_close r && (m && every is_within (points_from (reach p x) r))) n

-- one whose point lies past the range breaks the path
onward_far : (b : Bool) (p : Point) (x : PathItem) (r : List PathItem) → closes x ≡ false → is_within (reach p x) ≡ false → onward b p (x ∷ r) ≡ false
unfolding every
onward_far b p x r c n =
    ap (λ l. order_at b (x ∷ r) && every is_within l) (point_first p x r c)
    ∙ ap (λ m. order_at b (x ∷ r) && (m && every is_within (points_from (reach p x) r))) n
    ∙ and_false (order_at b (x ∷ r))

-- so does one that may not stand there, unless it is the last
left_false : (b : Bool) → (true && b) && true ≡ false → b ≡ false
left_false true e = e
left_false false e = refl

onward_else : (b : Bool) (p : Point) (x y : PathItem) (r : List PathItem) → is_next b x ≡ false → onward b p (x ∷ y ∷ r) ≡ false
onward_else b p x y r e = by_test (closes x) shut going
  where
    shut : closes x ≡ true → onward b p (x ∷ y ∷ r) ≡ false
    shut c = ap (λ o. o && every is_within (points_from p (x ∷ y ∷ r))) (ap (λ i. order_at b (i ∷ y ∷ r)) (is_close x c) ∙ close_order b y r)

    going : closes x ≡ false → onward b p (x ∷ y ∷ r) ≡ false
    going c = by_test (in_place b x) (λ i. onward_far b p x (y ∷ r) c (far i)) (λ i. ap (λ o. o && every is_within (points_from p (x ∷ y ∷ r))) (order_else b x (y ∷ r) c i))
      where
        given : in_place b x ≡ true → is_given x ≡ false
        given i = left_false (is_given x) (ap₂ (λ c i. (not c && is_given x) && i) (sym c) (sym i) ∙ e)

        far : in_place b x ≡ true → is_within (reach p x) ≡ false
        far i = by_test (is_within (reach p x)) (λ n. absurd (subst T (given i) (item_given p x (subst T (sym n) tt)))) (λ n. n)

-- ---- a whole path, of which i items lead to p

pub record Drawing (f : Frame) (is : List PathItem) (p : Point) (off : Bool) (i : ℕ) : Type 0 where
  pub ordered : is_ordered is ≡ onward (eqb i 0) p (drop i is)
  pub placed : every (is_on_grid f) (path_points is) ≡ not off && every (is_on_grid f) (points_from p (drop i is))

off_next : (off b e : Bool) → not off && (b && e) ≡ not (cond b off true) && e
off_next true true e = refl
off_next true false e = refl
off_next false true e = refl
off_next false false e = refl

pub drawing_begun : (f : Frame) (is : List PathItem) → Drawing f is initial_point false 0
drawing_begun f is = record { ordered = refl; placed = refl }

-- item i, behind which there is another
module _ {f : Frame} {is : List PathItem} {p : Point} {off : Bool} {i : ℕ} (D : Drawing f is p off i) (d : PathItem) {x : PathItem} (h : i + 1 < length is) (e : x ≡ get_or is i d) where
  here : drop i is ≡ x ∷ drop (i + 1) is
  here = drop_turn is d (omega (arith, h)) ∙ ap (λ y. y ∷ drop (i + 1) is) (sym e)

  two : drop i is ≡ x ∷ get_or is (i + 1) d ∷ drop (i + 1 + 1) is
  two = here ∙ ap (λ r. x ∷ r) (drop_turn is d h)

  pub drawing_else : is_next (eqb i 0) x ≡ false → is_ordered is ≡ false
  drawing_else n = D.ordered ∙ ap (onward (eqb i 0) p) two ∙ onward_else (eqb i 0) p x (get_or is (i + 1) d) (drop (i + 1 + 1) is) n

  module _ (n : is_next (eqb i 0) x ≡ true) {q : Point} (r : q ≡ reach p x) where
    next : T (is_next (eqb i 0) x)
    next = subst T (sym n) tt

    no_close : closes x ≡ false
    no_close = drawn_open x (and_l (is_drawn x) (in_place (eqb i 0) x) next)

    pub drawing_far : is_within q ≡ false → is_ordered is ≡ false
    drawing_far g = D.ordered ∙ ap (onward (eqb i 0) p) here ∙ onward_far (eqb i 0) p x (drop (i + 1) is) no_close (ap is_within (sym r) ∙ g)

    pub drawing_next : is_within q ≡ true → {o : Bool} → o ≡ cond (is_on_grid f q) off true → Drawing f is q o (i + 1)
    unfolding every
    drawing_next g {o} k = record {
      ordered = D.ordered ∙ ap (onward (eqb i 0) p) here ∙ onward_next (eqb i 0) p x (drop (i + 1) is) next (ap is_within (sym r) ∙ g)
          ∙ ap₂ (λ b y. onward b y (drop (i + 1) is)) (sym (ne_eqb (i + 1) 0 (λ z. omega (arith, z)))) (sym r);
      placed = D.placed
          ∙ ap (λ l. not off && every (is_on_grid f) l) (ap (points_from p) here ∙ point_first p x (drop (i + 1) is) no_close)
          ∙ ap (λ y. not off && (is_on_grid f y && every (is_on_grid f) (points_from y (drop (i + 1) is)))) (sym r)
          ∙ off_next off (is_on_grid f q) (every (is_on_grid f) (points_from q (drop (i + 1) is)))
          ∙ ap (λ b. not b && every (is_on_grid f) (points_from q (drop (i + 1) is))) (sym k);
    }

-- ---- the end

-- a path whose last item is no close
alone : (b : Bool) (x : PathItem) → closes x ≡ false → order_at b (x ∷ []) ≡ false
unfolding in_order lines_then_close
alone true (Move u v) c = refl
alone true (Line u v) c = refl
alone true (Horizontal u) c = refl
alone true (Vertical v) c = refl
alone true (RelativeLine u v) c = refl
alone true Close c = refl
alone false (Move u v) c = refl
alone false (Line u v) c = refl
alone false (Horizontal u) c = refl
alone false (Vertical v) c = refl
alone false (RelativeLine u v) c = refl
alone false Close c = differ (sym c)

-- with an item in front, no more in order
front : (b : Bool) (x y : PathItem) (r : List PathItem) → lines_then_close (y ∷ r) ≡ false → order_at b (x ∷ y ∷ r) ≡ false
front b x y r n =
    by_test (closes x)
    (λ e. ap (λ i. order_at b (i ∷ y ∷ r)) (is_close x e) ∙ close_order b y r)
    (λ e. by_test (in_place b x) (λ i. order_on b x (y ∷ r) e i ∙ n) (order_else b x (y ∷ r) e))

last_open : (b : Bool) (is : List PathItem) (d : PathItem) → 0 < length is → closes (get_or is (length is - 1) d) ≡ false → order_at b is ≡ false
last_open b [] d h c = absurd (omega (arith, h))
last_open b (x ∷ []) d h c = alone b x c
last_open b (x ∷ y ∷ r) d h c =
    let k : suc (suc (length r)) - 1 ≡ suc (suc (length r) - 1) = omega arith in
    front b x y r (last_open false (y ∷ r) d (omega arith) (ap (λ n. closes (get_or (x ∷ y ∷ r) n d)) (sym k) ∙ c))

-- a single item
short_order : (is : List PathItem) → length is < 2 → in_order is ≡ false
unfolding in_order lines_then_close
short_order [] h = refl
short_order (Move u v ∷ []) h = refl
short_order (Line u v ∷ []) h = refl
short_order (Horizontal u ∷ []) h = refl
short_order (Vertical v ∷ []) h = refl
short_order (RelativeLine u v ∷ []) h = refl
short_order (Close ∷ []) h = refl
short_order (x ∷ y ∷ r) h = absurd (omega (arith, h))

module _ (f : Frame) (is : List PathItem) where
  pub broken_whole : is_ordered is ≡ false → broken ≡ judged_whole f is
  unfolding judged_whole
  broken_whole o = sym (ap (λ b. cond b (closed (not (every (is_on_grid f) (path_points is)))) broken) o)

  pub short_whole : length is < 2 → broken ≡ judged_whole f is
  short_whole h = broken_whole (ap (λ o. o && every is_within (path_points is)) (short_order is h))

  pub open_whole : (d : PathItem) → 0 < length is → closes (get_or is (length is - 1) d) ≡ false → broken ≡ judged_whole f is
  open_whole d h c = broken_whole (ap (λ o. o && every is_within (path_points is)) (last_open true is d h c))

  -- every item but the last was drawn, and that is a close
  pub drawing_done : {p : Point} {off : Bool} {i : ℕ} → Drawing f is p off i → (d : PathItem) → 0 < i → i + 1 ≡ length is → closes (get_or is i d) ≡ true → closed off ≡ judged_whole f is
  unfolding judged_whole every points_from lines_then_close
  drawing_done {p} {off} {i} D d z h c =
      let l : drop i is ≡ Close ∷ [] = drop_turn is d (omega (arith, h)) ∙ ap₂ ◌∷◌ (is_close (get_or is i d) c) (drop_of_length-le is {i = i + 1} (omega (arith, h))) in
      let o : is_ordered is ≡ true = D.ordered ∙ ap₂ (λ b r. onward b p r) (ne_eqb i 0 (λ e. omega (arith, z, e))) l in
      let q : every (is_on_grid f) (path_points is) ≡ not off = D.placed ∙ ap (λ r. not off && every (is_on_grid f) (points_from p r)) l ∙ sym (and_true (not off)) in
      ap closed (twice off ∙ ap not (sym q)) ∙ sym (ap (λ b. cond b (closed (not (every (is_on_grid f) (path_points is)))) broken) o)
    where
      twice : (b : Bool) → b ≡ not (not b)
      twice true = refl
      twice false = refl
