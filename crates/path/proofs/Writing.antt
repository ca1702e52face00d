-- A path written item by item is written as the paper says. In order: corners put one by one lie on
-- the front (`written_front`); what is told allows the writing (`may_write`, `may_draw`); what it
-- leaves is the paper's (`left_is`). Assumes nothing.
use mathlib.Core.Path.{◌≡◌, refl, sym, ◌∙◌, ap, subst}
use mathlib.Core.Bool.{Bool, true, false, cond, not, ◌&&◌}
use mathlib.Core.List.{List, [], ◌∷◌, ◌++◌, map, append_assoc, append-nil}
use Prim.Native.Nat.{ℕ, zero, suc, ◌+◌, ◌*◌, ◌/◌, ◌≤◌, ◌<◌}
use native.Mathlib.Omega.{arith}
use borrow.Author.Tests.{ltb-false, eqb-true, not-false}
use lib.Dec.{T, eqb, ltb}
use lib.ListN.{length, take, get_or, length-append, length-map}
use lib.Seq.{length-take-le}
use lib.IntN.{ℤ}
use lib.Ieee.Fits.{and_i, and_l, and_r}
use lib.Ieee.Bits.{is_true}
use Rattle.integers.specs.Lists.{overlay}
use Rattle.integers.proofs.Order.{by_test}
use Rattle.integers.proofs.Faults.{first_none}
use Rattle.integers.proofs.Overlay.{overlay_nil, overlay_two}
use Rattle.corners.specs.Corners.{numbers_of}
use Rattle.corners.proofs.Corners.{length_points}
use Rattle.table.specs.Table.{max_contour}
use Rattle.path.specs.declared.PathItem.{PathItem}
use Rattle.path.specs.declared.Point.{Point}
use Rattle.path.specs.declared.Frame.{Frame}
use Rattle.path.specs.declared.PathCounts.{PathCounts}
use Rattle.path.specs.Path.{every, reach, closes, initial_point, path_points, in_order, corner_of, path_contour, is_given, framed, is_within, is_on_grid, is_path, path_fault, path_counts, corners_left}
use Rattle.path.specs.Judging.{is_drawn}
use Rattle.path.specs.Writing.{reached_from, write_from, Writable}
use Rattle.path.proofs.Order.{order_drawn}

-- ---- corners put one by one

-- `done` stands on the front of `old`, k corners long
pub written_front : (f : Frame) (is : List PathItem) (p : Point) (k : ℕ) (done old : List ℤ) {out : List ℤ} → out ≡ overlay done old → length done ≡ 2 * k → 2 * (k + length is) ≤ length old
    → write_from f is p k out ≡ overlay (done ++ numbers_of (map (corner_of f) (reached_from p is))) old
unfolding write_from reached_from numbers_of
written_front f [] p k done old {out} e h l = e ∙ ap (λ d. overlay d old) (sym (append-nil done))
written_front f (i ∷ is) p k done old {out} e h l =
    let c = corner_of f (reach p i) in
    let two = c.x ∷ c.y ∷ [] in
    written_front f is (reach p i) (k + 1) (done ++ two) old (overlay_two done old c.x c.y e h (omega (arith, l))) (omega (arith, length-append done two, h)) (omega (arith, l))
    ∙ ap (λ d. overlay d old) (append_assoc done two (numbers_of (map (corner_of f) (reached_from (reach p i) is))))

-- ---- what is told allows the writing

every_both : (f g : PathItem → Bool) (l : List PathItem) → T (every f l) → T (every g l) → T (every (λ i. f i && g i) l)
unfolding every
every_both f g [] t u = tt
every_both f g (i ∷ l) t u =
    and_i (f i && g i) (every (λ i. f i && g i) l) (and_i (f i) (g i) (and_l (f i) (every f l) t) (and_l (g i) (every g l) u)) (every_both f g l (and_r (f i) (every f l) t) (and_r (g i) (every g l) u))

pub every_at : (f : PathItem → Bool) (l : List PathItem) (i : ℕ) (d : PathItem) → i < length l → T (every f l) → T (f (get_or l i d))
unfolding every
every_at f [] i d h t = absurd (omega (arith, h))
every_at f (x ∷ l) zero d h t = and_l (f x) (every f l) t
every_at f (x ∷ l) (suc i) d h t = every_at f l i d (omega (arith, h)) (and_r (f x) (every f l) t)

every_take : (f : PathItem → Bool) (n : ℕ) (l : List PathItem) → T (every f l) → T (every f (take n l))
unfolding every
every_take f zero l t = tt
every_take f (suc n) [] t = tt
every_take f (suc n) (i ∷ l) t = and_i (f i) (every f (take n l)) (and_l (f i) (every f l) t) (every_take f n l (and_r (f i) (every f l) t))

-- what is known where there is no fault
pub record Sound (f : Frame) (is : List PathItem) (room : ℕ) : Type 0 where
  pub path : T (is_path f is)
  pub short : length (path_points is) ≤ max_contour
  pub placeable : T (every (is_on_grid f) (path_points is))
  pub wide : length (path_points is) ≤ room / 2

passed : (b : Bool) → not b ≡ false → T b
passed b e = subst T (sym (not-false b e)) tt

pub sound : (f : Frame) (is : List PathItem) (room : ℕ) → path_fault f is room ≡ 0 → Sound f is room
unfolding path_fault
sound f is room e =
    let n14 = first_none (not (is_path f is)) _ (omega arith) e in
    let n7 = first_none (ltb max_contour (length (path_points is))) _ (omega arith) n14.1 in
    let n2 = first_none (not (every (is_on_grid f) (path_points is))) _ (omega arith) n7.1 in
    let n21 = first_none (ltb (room / 2) (length (path_points is))) _ (omega arith) n2.1 in
    record {
      path = passed (is_path f is) n14.0;
      short = ltb-false _ _ n7.0;
      placeable = passed (every (is_on_grid f) (path_points is)) n2.0;
      wide = ltb-false _ _ n21.0;
    }

module _ {f : Frame} {is : List PathItem} {room : ℕ} (S : Sound f is room) where
  in_order_lem : T (in_order is && every is_within (path_points is))
  in_order_lem = and_r (every is_given is) _ (and_r (framed f) _ S.path)

  pub sound_near : T (every is_within (path_points is))
  sound_near = and_r (in_order is) _ in_order_lem

  pub sound_framed : T (framed f)
  sound_framed = and_l (framed f) _ S.path

  ordered : in_order is ≡ true
  ordered = is_true (in_order is) (and_l (in_order is) _ in_order_lem)

  -- a path in order has one item more than corners, and its items but the last reach them
  pub sound_length : length is ≡ suc (length (path_points is))
  sound_length = (order_drawn initial_point is ordered).long

  pub sound_reached : reached_from initial_point (take (length (path_points is)) is) ≡ path_points is
  sound_reached = (order_drawn initial_point is ordered).reached

  -- each of them is a move or a line of finite numbers
  pub sound_drawn : T (every is_drawn (take (length (path_points is)) is))
  sound_drawn = every_both (λ i. not (closes i)) is_given (take (length (path_points is)) is) (order_drawn initial_point is ordered).going (every_take is_given (length (path_points is)) is (and_l (every is_given is) _ (and_r (framed f) _ S.path)))

-- the corners told are the contour's, or none
pub record Told (f : Frame) (is : List PathItem) (out : List ℤ) (n : ℕ) : Type 0 where
  pub drawn : T (every is_drawn (take n is))
  pub may : Writable f is initial_point n out
  pub leaves : write_from f (take n is) initial_point 0 out ≡ corners_left f is out

module _ (f : Frame) (is : List PathItem) (out : List ℤ) where
  abbrev fault : ℕ
  fault = path_fault f is (length out)

  none : eqb fault 0 ≡ false → Told f is out 0
  unfolding corners_left every reached_from write_from
  none e = record {
    drawn = tt;
    may = record { items = omega arith; placeable = tt; room = omega arith };
    leaves = sym (ap (λ b. cond b (overlay (numbers_of (path_contour f is)) out) out) e);
  }

  all : eqb fault 0 ≡ true → Told f is out (length (path_contour f is))
  unfolding corners_left path_contour
  all e =
      let S = sound f is (length out) (eqb-true fault 0 e) in
      let m : length (path_contour f is) ≡ length (path_points is) = length-map (path_points is) _ in
      let w = S.wide in
      let h = sound_length S in
      subst (λ n. Told f is out n) (sym m) (record {
        drawn = sound_drawn S;
        may = record { items = omega (arith, h); placeable = subst (λ l. T (every (is_on_grid f) l)) (sym (sound_reached S)) S.placeable; room = omega (arith, length_points out, w) };
        leaves = written_front f (take (length (path_points is)) is) initial_point 0 [] out (sym (overlay_nil out)) refl (omega (arith, w, length-take-le (length (path_points is)) is (omega (arith, h))))
            ∙ ap (λ l. overlay (numbers_of (map (corner_of f) l)) out) (sound_reached S)
            ∙ sym (ap (λ b. cond b (overlay (numbers_of (path_contour f is)) out) out) e);
      })

  pub told_writes : Told f is out (path_counts f is (length out)).corners
  unfolding path_counts
  told_writes = by_test (eqb fault 0) (λ e. subst (λ b. Told f is out (corners_if b)) (sym e) (all e)) (λ e. subst (λ b. Told f is out (corners_if b)) (sym e) (none e))
    where
      corners_if : Bool → ℕ
      corners_if b = let r : PathCounts = cond b (record { fault = 0; corners = length (path_contour f is) }) (record { fault = fault; corners = 0 }) in r.corners

  -- so of what was told, n corners
  module _ {r : PathCounts} {n : ℕ} (e : r ≡ path_counts f is (length out)) (h : n ≡ r.corners) where
    told_corners : (path_counts f is (length out)).corners ≡ n
    told_corners = sym (h ∙ ap (λ (c : PathCounts). c.corners) e)

    pub may_write : Writable f is initial_point n out
    may_write = subst (λ k. Writable f is initial_point k out) told_corners told_writes.may

    pub may_draw : T (every is_drawn (take n is))
    may_draw = subst (λ k. T (every is_drawn (take k is))) told_corners told_writes.drawn

    pub left_is : {left : List ℤ} → left ≡ write_from f (take n is) initial_point 0 out → left ≡ corners_left f is out
    left_is q = q ∙ ap (λ k. write_from f (take k is) initial_point 0 out) (sym told_corners) ∙ told_writes.leaves
