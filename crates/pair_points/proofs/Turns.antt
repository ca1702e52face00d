-- The merge a corner a turn, of two lists of points that turn at each (`Turning`). In order: a list
-- without its first points turns too; the join of two lists of edges begun, by how their first
-- edges compare (`join_less`, `join_greater`, `join_both`, `join_first`); the same of points by
-- index (`at_less`, and so on), and where one list has one point left (`at_rest`). Assumes nothing.
use mathlib.Core.Path.{◌≡◌, refl, sym, ◌∙◌, ap, ap₂, subst₂}
use mathlib.Core.Bool.{true, false}
use mathlib.Core.List.{List, [], ◌∷◌, ◌++◌, append-nil}
use mathlib.Core.Logic.{◌⊎◌, ⊎_elim}
use Prim.Native.Nat.{ℕ, zero, suc, ◌+◌, ◌-◌, ◌<◌}
use native.Mathlib.Omega.{arith}
use native.Mathlib.Numerals.{add-one}
use lib.ListN.{length, get_or, drop, drop_of_length-le}
use lib.Seq.{drop-cons}
use Rattle.integers.specs.Lists.{All}
use Rattle.integers.proofs.Order.{by_test}
use Rattle.integers.proofs.Tests.{differ}
use Rattle.integers.proofs.Ring.{◌:≡ᵖ◌, pt, ringᵖ}
use Rattle.std.specs.declared.cmp.Ordering.TheVariants.{Less, Equal, Greater}
use Rattle.plane.specs.Plane.{Pt, O, ◌+ᵖ◌, ◌-ᵖ◌, angle_cmp, is_equal, is_greater}
use Rattle.plane.proofs.Terms.{◌+E◌, ◌-E◌}
use Rattle.plane.proofs.Vectors.{+ᵖ_comm}
use Rattle.plane.specs.Halves.{Nz}
use Rattle.plane.proofs.Directions.{Lt, Same, before, beside, after, angle_cases, lt_le, lt_not_same, lt_asym, same_le, same_sym}
use Rattle.pair.specs.Berg.{corners_from}
use Rattle.pair.specs.EdgeLists.{step_one, stepped, runs, grouped, join}
use Rattle.pair.proofs.Join.{step_by}
use Rattle.pair_points.specs.Points.{edges_along, nth_point, edge_at, merged_of, Off, Turning, second_next, rest_of}
use Rattle.pair_points.proofs.Grouping.{same_test, test_same, runs_on, runs_turn, steps_first, steps_second}
use Rattle.pair_points.proofs.Merged.{as_off}

-- ---- a list without its first points

pub turning_tail : {p : Pt} (a : List Pt) → Turning (p ∷ a) → Turning a
unfolding edges_along
turning_tail [] t = record { nonzero = tt; apart = tt }
turning_tail (q ∷ a) t = record { nonzero = t.nonzero.1; apart = t.apart.1 }

pub turning_drop : (n : ℕ) {a : List Pt} → Turning a → Turning (drop n a)
turning_drop zero t = t
turning_drop (suc n) {a = []} t = t
turning_drop (suc n) {a = p ∷ a} t = turning_drop n (turning_tail a t)

-- ---- the join of two lists of edges, by their first ones

-- one direction before another is not it
lt_off : {e f : Pt} → Lt e f → is_equal (angle_cmp e f) ≡ false
lt_off {e} {f} h = by_test (is_equal (angle_cmp e f)) (λ t. absurd (lt_not_same h (test_same t))) (λ t. t)

grouped_cons : (e : Pt) (l : List Pt) → grouped (e ∷ l) ≡ runs e e l
unfolding grouped
grouped_cons e l = refl

-- a run ends before an edge of another direction
runs_off : (e s : Pt) (l : List Pt) → Off e l → runs e s l ≡ s ∷ grouped l
runs_off e s [] h = unfold runs grouped in refl
runs_off e s (f ∷ l) h = runs_turn e s f l h ∙ ap (λ r. s ∷ r) (sym (grouped_cons f l))

-- an edge off both lists is off their steps
off_stepped : (e : Pt) (m l : List Pt) → All Nz m → All Nz l → Off e m → Off e l → Off e (stepped m l)
unfolding stepped
off_stepped e [] l nm nl h k = k
off_stepped e (a ∷ m) [] nm nl h k = unfold step_one in h
off_stepped e (a ∷ m) (b ∷ l) nm nl h k = step_by a (stepped m) (Off e) nm.0 nl.0 (λ x. k) (λ x. h)

-- an edge of the same direction is off the same list
off_same : {e f : Pt} (l : List Pt) → Nz e → Nz f → All Nz l → Same e f → Off f l → Off e l
off_same [] ne nf nl s h = tt
off_same (g ∷ l) ne nf nl s h = as_off nf ne nl.0 s h

module _ {e f : Pt} (m l : List Pt) (nm : All Nz (e ∷ m)) (nl : All Nz (f ∷ l)) (om : Off e m) (ol : Off f l) where
  -- the first list's edge is the lesser
  join_less : Lt e f → join (e ∷ m) (f ∷ l) ≡ e ∷ join m (f ∷ l)
  unfolding join stepped
  join_less h =
      ap grouped (steps_first (stepped m) l nm.0 nl.0 (lt_le h)) ∙ grouped_cons _ _
      ∙ runs_off e e (stepped m (f ∷ l)) (off_stepped e m (f ∷ l) nm.1 nl om (lt_off h))

  -- the second list's is
  join_greater : Lt f e → join (e ∷ m) (f ∷ l) ≡ f ∷ join (e ∷ m) l
  unfolding join stepped
  join_greater h =
      ap grouped (steps_second (stepped m) l nm.0 nl.0 h) ∙ grouped_cons _ _
      ∙ runs_off f f (stepped (e ∷ m) l) (off_stepped f (e ∷ m) l nm nl.1 (lt_off h) ol)

  -- one direction, and the second list's edge steps next
  join_both : Same e f → second_next m f ≡ true → join (e ∷ m) (f ∷ l) ≡ (e +ᵖ f) ∷ join m l
  unfolding join stepped second_next
  join_both s h =
      ap grouped (steps_first (stepped m) l nm.0 nl.0 (same_le s).0 ∙ ap (λ r. e ∷ r) (next m nm.1 h)) ∙ grouped_cons _ _
      ∙ runs_on e e f (stepped m l) (same_test s)
      ∙ runs_off e (e +ᵖ f) (stepped m l) (off_stepped e m l nm.1 nl.1 om (off_same l nm.0 nl.0 nl.1 s ol))
    where
      next : (m : List Pt) → All Nz m → second_next m f ≡ true → stepped m (f ∷ l) ≡ f ∷ stepped m l
      next [] n h = refl
      next (g ∷ m) n h = elim (angle_cases g f) [
        | before t x ↦ differ (sym (ap is_greater t) ∙ h)
        | beside t x ↦ differ (sym (ap is_greater t) ∙ h)
        | after t x ↦ steps_second (stepped m) l n.0 nl.0 x
      ]

  -- one direction, and the first list's next edge steps before
  join_first : Same e f → second_next m f ≡ false → join (e ∷ m) (f ∷ l) ≡ e ∷ join m (f ∷ l)
  unfolding join stepped second_next
  join_first s h =
      ap grouped (steps_first (stepped m) l nm.0 nl.0 (same_le s).0) ∙ grouped_cons _ _
      ∙ runs_off e e (stepped m (f ∷ l)) (next m nm.1 om h)
    where
      next : (m : List Pt) → All Nz m → Off e m → second_next m f ≡ false → Off e (stepped m (f ∷ l))
      next [] n o h = differ (sym h)
      next (g ∷ m) n o h = step_by g (stepped m) (Off e) n.0 nl.0 (λ x. differ (sym h ∙ greater x)) (λ x. o)
        where
          greater : Lt f g → is_greater (angle_cmp g f) ≡ true
          greater x = elim (angle_cases g f) [
            | before t y ↦ absurd (lt_asym x y)
            | beside t y ↦ absurd (lt_not_same x (same_sym y))
            | after t y ↦ ap is_greater t
          ]

-- the first list's edges alone, and the second's
join_nil : {e : Pt} (m : List Pt) → All Nz m → Off e m → join (e ∷ m) [] ≡ e ∷ join m []
unfolding join stepped step_one
join_nil {e} m n o = grouped_cons e (stepped m []) ∙ runs_off e e (stepped m []) (off_stepped e m [] n tt o tt)

nil_join : {f : Pt} (l : List Pt) → Off f l → join [] (f ∷ l) ≡ f ∷ join [] l
unfolding join stepped
nil_join {f} l o = grouped_cons f l ∙ runs_off f f l o

-- ---- the same of points

-- a corner, and the merge goes on from where the edge g leads to
merged_turn :
    (p q r s : Pt) {g : Pt} (A B R S : List Pt) → join (edges_along (p ∷ A)) (edges_along (q ∷ B)) ≡ g ∷ join (edges_along (r ∷ R)) (edges_along (s ∷ S)) →
    (p +ᵖ q) +ᵖ g ≡ r +ᵖ s → merged_of (p ∷ A) (q ∷ B) ≡ (p +ᵖ q) ∷ merged_of (r ∷ R) (s ∷ S)
unfolding merged_of
merged_turn p q r s {g} A B R S e h =
    ap (corners_from (p +ᵖ q)) e ∙ from_cons ∙ ap (λ c. (p +ᵖ q) ∷ corners_from c (join (edges_along (r ∷ R)) (edges_along (s ∷ S)))) h
  where
    from_cons : corners_from (p +ᵖ q) (g ∷ join (edges_along (r ∷ R)) (edges_along (s ∷ S))) ≡ (p +ᵖ q) ∷ corners_from ((p +ᵖ q) +ᵖ g) (join (edges_along (r ∷ R)) (edges_along (s ∷ S)))
    from_cons = unfold corners_from in refl

-- (p + q) + (r - p) = r + q
first_leads : (p q r : Pt) → (p +ᵖ q) +ᵖ (r -ᵖ p) ≡ r +ᵖ q
first_leads = ringᵖ (pt ∷ pt ∷ pt ∷ []) (λ p q r. (p +E q) +E (r -E p) :≡ᵖ r +E q) tt

second_leads : (p q s : Pt) → (p +ᵖ q) +ᵖ (s -ᵖ q) ≡ p +ᵖ s
second_leads = ringᵖ (pt ∷ pt ∷ pt ∷ []) (λ p q s. (p +E q) +E (s -E q) :≡ᵖ p +E s) tt

both_lead : (p q r s : Pt) → (p +ᵖ q) +ᵖ ((r -ᵖ p) +ᵖ (s -ᵖ q)) ≡ r +ᵖ s
both_lead = ringᵖ (pt ∷ pt ∷ pt ∷ pt ∷ []) (λ p q r s. (p +E q) +E ((r -E p) +E (s -E q)) :≡ᵖ r +E s) tt

module _ {p r q s : Pt} {A B : List Pt} (t : Turning (p ∷ r ∷ A)) (u : Turning (q ∷ s ∷ B)) where
  merged_less : Lt (r -ᵖ p) (s -ᵖ q) → merged_of (p ∷ r ∷ A) (q ∷ s ∷ B) ≡ (p +ᵖ q) ∷ merged_of (r ∷ A) (q ∷ s ∷ B)
  unfolding edges_along
  merged_less h =
      merged_turn p q r q (r ∷ A) (s ∷ B) A (s ∷ B)
      (join_less (edges_along (r ∷ A)) (edges_along (s ∷ B)) t.nonzero u.nonzero t.apart.0 u.apart.0 h) (first_leads p q r)

  merged_greater : Lt (s -ᵖ q) (r -ᵖ p) → merged_of (p ∷ r ∷ A) (q ∷ s ∷ B) ≡ (p +ᵖ q) ∷ merged_of (p ∷ r ∷ A) (s ∷ B)
  unfolding edges_along
  merged_greater h =
      merged_turn p q p s (r ∷ A) (s ∷ B) (r ∷ A) B
      (join_greater (edges_along (r ∷ A)) (edges_along (s ∷ B)) t.nonzero u.nonzero t.apart.0 u.apart.0 h) (second_leads p q s)

  merged_both : Same (r -ᵖ p) (s -ᵖ q) → second_next (edges_along (r ∷ A)) (s -ᵖ q) ≡ true → merged_of (p ∷ r ∷ A) (q ∷ s ∷ B) ≡ (p +ᵖ q) ∷ merged_of (r ∷ A) (s ∷ B)
  unfolding edges_along
  merged_both h k =
      merged_turn p q r s (r ∷ A) (s ∷ B) A B
      (join_both (edges_along (r ∷ A)) (edges_along (s ∷ B)) t.nonzero u.nonzero t.apart.0 u.apart.0 h k) (both_lead p q r s)

  merged_first : Same (r -ᵖ p) (s -ᵖ q) → second_next (edges_along (r ∷ A)) (s -ᵖ q) ≡ false → merged_of (p ∷ r ∷ A) (q ∷ s ∷ B) ≡ (p +ᵖ q) ∷ merged_of (r ∷ A) (q ∷ s ∷ B)
  unfolding edges_along
  merged_first h k =
      merged_turn p q r q (r ∷ A) (s ∷ B) A (s ∷ B)
      (join_first (edges_along (r ∷ A)) (edges_along (s ∷ B)) t.nonzero u.nonzero t.apart.0 u.apart.0 h k) (first_leads p q r)

-- one point against a list: its points but the last, moved
rest_first : (q : Pt) (a : List Pt) → Turning a → merged_of a (q ∷ []) ≡ rest_of q a
unfolding edges_along rest_of
rest_first q [] t = unfold merged_of in refl
rest_first q (p ∷ []) t = unfold merged_of join stepped grouped corners_from in refl
rest_first q (p ∷ r ∷ a) t =
    merged_turn p q r q (r ∷ a) [] a [] (join_nil (edges_along (r ∷ a)) t.nonzero.1 t.apart.0) (first_leads p q r)
    ∙ ap (λ l. (p +ᵖ q) ∷ l) (rest_first q (r ∷ a) (turning_tail (r ∷ a) t))

rest_second : (p : Pt) (b : List Pt) → Turning b → merged_of (p ∷ []) b ≡ rest_of p b
unfolding edges_along rest_of
rest_second p [] t = unfold merged_of in refl
rest_second p (q ∷ []) t = unfold merged_of join stepped grouped corners_from in refl
rest_second p (q ∷ s ∷ b) t =
    merged_turn p q p s [] (s ∷ b) [] b (nil_join (edges_along (s ∷ b)) t.apart.0) (second_leads p q s)
    ∙ ap₂ ◌∷◌ (+ᵖ_comm p q) (rest_second p (s ∷ b) (turning_tail (s ∷ b) t))

-- ---- by index

-- what holds of the points from i on, and from i + 1 on, written out
two_ind :
    (a : List Pt) (i : ℕ) (Q : List Pt → List Pt → Type 0) → i + 1 < length a →
    Q (nth_point a i ∷ nth_point a (i + 1) ∷ drop (i + 1 + 1) a) (nth_point a (i + 1) ∷ drop (i + 1 + 1) a) → Q (drop i a) (drop (i + 1) a)
two_ind a i Q h =
    let one : drop (i + 1) a ≡ nth_point a (i + 1) ∷ drop (i + 1 + 1) a = drop_at a h in
    let two : drop i a ≡ nth_point a i ∷ nth_point a (i + 1) ∷ drop (i + 1 + 1) a = drop_at a {i = i} (omega arith) ∙ ap (λ r. nth_point a i ∷ r) one in
    subst₂ Q (sym two) (sym one)
  where
    drop_at : (a : List Pt) {i : ℕ} → i < length a → drop i a ≡ nth_point a i ∷ drop (i + 1) a
    drop_at a {i} h = rw (add-one) (drop-cons a i O h)

module _ {a b : List Pt} (i j : ℕ) (t : Turning a) (u : Turning b) (hi : i + 1 < length a) (hj : j + 1 < length b) where
  abbrev here : List Pt → List Pt → List Pt
  here x y = (nth_point a i +ᵖ nth_point b j) ∷ merged_of x y

  -- a statement over the points from each place on, with the lists written out
  by_two : (Q : List Pt → List Pt → List Pt → List Pt → Type 0) →
      ((A B : List Pt) → Turning (nth_point a i ∷ nth_point a (i + 1) ∷ A) → Turning (nth_point b j ∷ nth_point b (j + 1) ∷ B) →
      Q (nth_point a i ∷ nth_point a (i + 1) ∷ A) (nth_point a (i + 1) ∷ A) (nth_point b j ∷ nth_point b (j + 1) ∷ B) (nth_point b (j + 1) ∷ B)) →
      Q (drop i a) (drop (i + 1) a) (drop j b) (drop (j + 1) b)
  by_two Q f =
      two_ind a i (λ x y. Turning x → Q x y (drop j b) (drop (j + 1) b)) hi
      (λ v. two_ind b j (λ x y. Turning x → Q (nth_point a i ∷ nth_point a (i + 1) ∷ drop (i + 1 + 1) a) (nth_point a (i + 1) ∷ drop (i + 1 + 1) a) x y) hj
      (λ w. f (drop (i + 1 + 1) a) (drop (j + 1 + 1) b) v w) (turning_drop j u)) (turning_drop i t)

  -- the lesser edge steps
  pub at_less : angle_cmp (edge_at a i) (edge_at b j) ≡ Less → merged_of (drop i a) (drop j b) ≡ here (drop (i + 1) a) (drop j b)
  at_less e = by_two (λ x x' y y'. merged_of x y ≡ here x' y) (λ A B v w. merged_less v w (less e))
    where
      less : {f g : Pt} → angle_cmp f g ≡ Less → Lt f g
      less {f} {g} e = elim (angle_cases f g) [ before t x ↦ x | beside t x ↦ differ (sym (ap is_equal e) ∙ ap is_equal t) | after t x ↦ differ (sym (ap is_greater e) ∙ ap is_greater t) ]

  pub at_greater : angle_cmp (edge_at a i) (edge_at b j) ≡ Greater → merged_of (drop i a) (drop j b) ≡ here (drop i a) (drop (j + 1) b)
  at_greater e = by_two (λ x x' y y'. merged_of x y ≡ here x y') (λ A B v w. merged_greater v w (greater e))
    where
      greater : {f g : Pt} → angle_cmp f g ≡ Greater → Lt g f
      greater {f} {g} e = elim (angle_cases f g) [ before t x ↦ differ (sym (ap is_greater t) ∙ ap is_greater e) | beside t x ↦ differ (sym (ap is_greater t) ∙ ap is_greater e) | after t x ↦ x ]

  -- on equality the first list's does, and the second list's with it where it is the next
  pub at_both :
      angle_cmp (edge_at a i) (edge_at b j) ≡ Equal → second_next (edges_along (drop (i + 1) a)) (edge_at b j) ≡ true →
      merged_of (drop i a) (drop j b) ≡ here (drop (i + 1) a) (drop (j + 1) b)
  at_both e =
      by_two (λ x x' y y'. second_next (edges_along x') (edge_at b j) ≡ true → merged_of x y ≡ here x' y')
      (λ A B v w k. merged_both v w (test_same (ap is_equal e)) k)

  pub at_first :
      angle_cmp (edge_at a i) (edge_at b j) ≡ Equal → second_next (edges_along (drop (i + 1) a)) (edge_at b j) ≡ false →
      merged_of (drop i a) (drop j b) ≡ here (drop (i + 1) a) (drop j b)
  at_first e =
      by_two (λ x x' y y'. second_next (edges_along x') (edge_at b j) ≡ false → merged_of x y ≡ here x' y)
      (λ A B v w k. merged_first v w (test_same (ap is_equal e)) k)

-- the last point
drop_last : (a : List Pt) (i : ℕ) → i + 1 ≡ length a → drop i a ≡ nth_point a i ∷ []
drop_last a i e = drop-cons a i O (omega arith) ∙ ap (λ r. nth_point a i ∷ r) (drop_of_length-le a {i = suc i} (omega arith))

-- after a tie, with no edge left, and with one
pub second_last : (a : List Pt) (i : ℕ) (f : Pt) → i + 1 ≡ length a → second_next (edges_along (drop i a)) f ≡ true
unfolding second_next edges_along
second_last a i f e = ap (λ l. second_next (edges_along l) f) (drop_last a i e)

pub second_more : (a : List Pt) (i : ℕ) (f : Pt) → i + 1 < length a → second_next (edges_along (drop i a)) f ≡ is_greater (angle_cmp (edge_at a i) f)
unfolding second_next edges_along
second_more a i f h = two_ind a i (λ x y. second_next (edges_along x) f ≡ is_greater (angle_cmp (edge_at a i) f)) h refl

-- the points of one list, moved: one, and none at the last
pub rest_more : (q : Pt) (a : List Pt) (i : ℕ) → i + 1 < length a → rest_of q (drop i a) ≡ (nth_point a i +ᵖ q) ∷ rest_of q (drop (i + 1) a)
unfolding rest_of
rest_more q a i h = two_ind a i (λ x y. rest_of q x ≡ (nth_point a i +ᵖ q) ∷ rest_of q y) h refl

pub rest_last : (q : Pt) (a : List Pt) (i : ℕ) → i + 1 ≡ length a → rest_of q (drop i a) ≡ []
unfolding rest_of
rest_last q a i e = ap (rest_of q) (drop_last a i e)

-- where one list has one point left, the other's points, moved by it
pub at_rest :
    {a b : List Pt} {i j : ℕ} → Turning a → Turning b → i < length a → j < length b → (i + 1 ≡ length a) ⊎ (j + 1 ≡ length b) →
    merged_of (drop i a) (drop j b) ≡ rest_of (nth_point b j) (drop i a) ++ rest_of (nth_point a (length a - 1)) (drop j b)
at_rest {a} {b} {i} {j} t u hi hj = ⊎_elim
    (λ e. let k : length a - 1 ≡ i = omega arith in
    ap (λ l. merged_of l (drop j b)) (drop_last a i e) ∙ rest_second (nth_point a i) (drop j b) (turning_drop j u) ∙ ap (λ n. rest_of (nth_point a n) (drop j b)) (sym k)
    ∙ ap (λ l. l ++ rest_of (nth_point a (length a - 1)) (drop j b)) (sym (rest_last (nth_point b j) a i e)))
    (λ e. ap (merged_of (drop i a)) (drop_last b j e) ∙ rest_first (nth_point b j) (drop i a) (turning_drop i t) ∙ sym (append-nil (rest_of (nth_point b j) (drop i a)))
    ∙ ap (λ l. rest_of (nth_point b j) (drop i a) ++ l) (sym (rest_last (nth_point a (length a - 1)) b j e)))
