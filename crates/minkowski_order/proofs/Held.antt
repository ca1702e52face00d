-- Two walks of the buffers as a pair: what merging them by numbers asks and gives (`Held`), for
-- walks that lie anywhere (`held_from`) and for left walk p and right walk q (`pair_held`), whose
-- corners fit a work buffer (`pair_short`). Assumes nothing.
use mathlib.Core.Path.{◌≡◌, refl, sym, subst₂, ◌∙◌, ap, subst}
use mathlib.Core.List.{List, [], ◌∷◌}
use Prim.Native.Nat.{ℕ, ◌+◌, ◌*◌, ◌<◌, ◌-◌, ◌≤◌, min}
use native.Mathlib.Omega.{arith}
use lib.IntN.{ℤ}
use Rattle.plane.specs.Plane.{Pt, ◌+ᵖ◌}
use mathlib.Core.Bool.{Bool, true, false, cond}
use borrow.Author.Tests.{lt-ltb, le-ltb, eqb-true, eqb-false, eq-eqb, ne_eqb}
use lib.Dec.{ltb, eqb}
use lib.ListN.{length, get_or, take, drop, length-take, length-drop, length-map}
use lib.Seq.{get_or-take, get_or-drop}
use Rattle.integers.specs.Lists.{All}
use Rattle.integers.proofs.Order.{by_test}
use Rattle.integers.proofs.Elements.{all_get_d}
use Rattle.table.specs.Table.{max_contour}
use Rattle.points.specs.Points.{corner_of, corner_in}
use Rattle.points.proofs.Reading.{PartPlaced}
use Rattle.pair_points.specs.Points.{merged_of, Turning, nth_point}
use Rattle.pair_merge.specs.Putting.{RoomAfter, CornersPut}
use Rattle.pair_merge.proofs.Merging.{point_in}
use Rattle.direction_keys.specs.Marks.{left_number, right_number, Close}
use Rattle.pair_walks.specs.Walks.{walks_in, walk_in, pair_in, Walks}
use Rattle.pair_walks.proofs.Walks.{walk_inside, firsts_enough, walk_placed, walk_short, firsts_rise}
use Rattle.pair_numbers.specs.Numbers.{number_of, Keyed}
use Rattle.pair_chains.specs.declared.Pair.{Pair}
use Rattle.pair_chains.specs.Chains.{chain, along, chain_of, chain_contour, contour_from, RunsOf, Fits}
use Rattle.pair_chains.proofs.Chains.{chain_end, chain_short}
use Rattle.pair_chains.proofs.Merged.{Lies, chain_merged}
use Rattle.minkowski_order.specs.Order.{pair_from, pair_at, edges_of, Between, most_edges, PairRoom}

-- ---- walks that lie in the buffers

pub record Held (points : List (List ℤ)) (numbers : List ℕ) (a b : List Pt) (x : Pair) : Type 0 where
  pub runs : RunsOf points numbers x
  pub contour : chain_contour points numbers x ≡ merged_of a b
  pub ordered : x.i + x.j ≤ x.end
  pub edges : x.end - (x.i + x.j) ≡ edges_of a b

no_length : {A : Type 0} (l : List A) → length l ≡ 0 → l ≡ []
no_length [] e = refl
no_length (x ∷ l) e = absurd (omega arith)

merged_none : (a : List Pt) → merged_of a [] ≡ []
unfolding merged_of
merged_none [] = refl
merged_none (p ∷ a) = refl

none_merged : (b : List Pt) → merged_of [] b ≡ []
unfolding merged_of
none_merged b = refl

module _ (points : List (List ℤ)) (numbers : List ℕ) where
  -- one of the two is empty
  held_none : (a b : List Pt) → merged_of a b ≡ [] → edges_of a b ≡ 0 → Held points numbers a b (record { i = 0; j = 0; end = 0 })
  held_none a b m e =
      let c = chain_end numbers 0 0 0 (omega arith) in
      record {
        runs = record { left = omega arith; right = omega arith; inside = subst (λ l. All (λ p. (p.0 < length points) × (p.1 < length points)) l) (sym c) tt };
        contour = ap (along points) c ∙ sym m;
        ordered = omega arith;
        edges = sym e;
      }

  module _ (a b : List Pt) (f m g n : ℕ) (ef : f + length a ≡ m) (eg : g + length b ≡ n) (la : Lies left_number points numbers f a) (lb : Lies right_number points numbers g b)
      (t : Turning a) (u : Turning b) (z : Close a b) where
    held_some : 0 < length a → 0 < length b → Held points numbers a b (record { i = f; j = g; end = m + n - 2 })
    unfolding edges_of
    held_some ha hb =
        let end = m + n - 2 in
        let r = chain_merged points numbers f g end a b la lb t u z (omega (arith, ef, eg)) ha hb in
        let zf : f + 0 ≡ f = omega arith in
        let zg : g + 0 ≡ g = omega arith in
        record {
          runs = record { left = omega (arith, la.inside); right = omega (arith, lb.inside); inside = subst₂ (λ i j. All (λ p. (p.0 < length points) × (p.1 < length points)) (chain numbers end i j)) zf zg r.inside };
          contour = subst₂ (λ i j. contour_from points numbers end i j ≡ merged_of a b) zf zg r.corners;
          ordered = omega (arith, ef, eg);
          edges = sym (rw (ne_eqb (length a) 0 (omega arith), ne_eqb (length b) 0 (omega arith)) (omega (arith, ef, eg)));
        }

    pub held_from : Held points numbers a b (pair_from f m g n)
    unfolding edges_of
    held_from =
        by_test (eqb f m)
        (λ e. let k : length a ≡ 0 = omega (arith, ef, eqb-true f m e) in
        rw e (held_none a b (ap (λ l. merged_of l b) (no_length a k) ∙ none_merged b) (rw (eq-eqb (length a) 0 k))))
        (λ e. by_test (eqb g n)
        (λ h. let k : length b ≡ 0 = omega (arith, eg, eqb-true g n h) in
        rw (e, h) (held_none a b (ap (merged_of a) (no_length b k) ∙ merged_none a) (none_second (eqb (length a) 0) (length a + length b - 2) (eq-eqb (length b) 0 k))))
        (λ h. rw (e, h) (held_some (some (length a) ef (eqb-false f m e)) (some (length b) eg (eqb-false g n h)))))
      where
        none_second : (s : Bool) {t : Bool} (k : ℕ) → t ≡ true → cond s 0 (cond t 0 k) ≡ 0
        none_second true k e = refl
        none_second false k e = ap (λ t. cond t 0 k) e

        some : {f : ℕ} {m : ℕ} (k : ℕ) → f + k ≡ m → (f ≡ m → ⊥) → 0 < k
        some k e h = omega arith

-- ---- those of two operands

-- no more edges than a work buffer has corners
pub edges_short : {n : ℕ} (a b : List Pt) → length a ≤ (max_contour + 1) → length b ≤ (max_contour + 1) → length a + length b ≤ n → edges_of a b ≤ min (2 * max_contour) n
unfolding edges_of
edges_short {n} a b h k l = at (eqb (length a) 0) (eqb (length b) 0)
  where
    at : (s t : Bool) → cond s 0 (cond t 0 (length a + length b - 2)) ≤ min (2 * max_contour) n
    at true t = omega arith
    at false true = omega arith
    at false false = omega (arith, h, k, l)

-- a walk ends where the next begins
pub walk_ends : {firsts : List ℕ} {points : List (List ℤ)} {all : ℕ} {n : ℕ} → Walks firsts points all → n < all → get_or firsts n 0 + length (walk_in firsts points all n) ≡ get_or firsts (n + 1) 0
walk_ends {firsts} {points} {all} {n} w h =
    let p = walk_placed w h in
    let m = get_or firsts (n + 1) 0 - get_or firsts n 0 in
    let rest = drop (get_or firsts n 0) points in
    omega (arith, ap length p.corners, length-map (take m rest) corner_of, length-take m rest, length-drop (get_or firsts n 0) points, p.rises, p.within)

module _ {firsts : List ℕ} {points : List (List ℤ)} {numbers : List ℕ} {left right : ℕ} (k : Keyed firsts points numbers left right) where
  module _ {n : ℕ} (h : n < left + right) where
    abbrev walk : List Pt
    walk = walk_in firsts points (left + right) n

    placed : PartPlaced firsts points n walk
    placed = walk_placed k.walks h

    pub walk_between : Between firsts n
    walk_between = record { enough = firsts_enough k.walks h; rises = placed.rises }

    abbrev part : List (List ℤ)
    part = take (get_or firsts (n + 1) 0 - get_or firsts n 0) (drop (get_or firsts n 0) points)

    ends : get_or firsts n 0 + length walk ≡ get_or firsts (n + 1) 0
    ends = walk_ends k.walks h

    walk_lies : (number : List Pt → ℕ → ℕ) → ((i : ℕ) → number_of (ltb n left) walk i ≡ number walk i) → Lies number points numbers (get_or firsts n 0) walk
    walk_lies number e = record {
      inside = omega (arith, ends, placed.within);
      corner = λ i hi.
          sym (ap corner_of (get_or-take (get_or firsts (n + 1) 0 - get_or firsts n 0) (drop (get_or firsts n 0) points) i [] (omega (arith, ends)) ∙ get_or-drop (get_or firsts n 0) points i []))
          ∙ sym (point_in part i) ∙ ap (λ l. nth_point l i) placed.corners;
      number = λ i hi. k.numbered.at n i h hi ∙ e i;
    }

    walk_turns : Turning walk
    walk_turns = all_get_d Turning (walks_in firsts points (left + right)) [] k.walks.turning n (walk_inside k.walks h)

  module _ {p q : ℕ} (hp : p < left) (hq : q < right) where
    in_left : p < left + right
    in_left = omega arith

    in_right : left + q < left + right
    in_right = omega arith

    pub pair_held : Held points numbers (walk_in firsts points (left + right) p) (walk_in firsts points (left + right) (left + q)) (pair_at firsts left p q)
    unfolding pair_at
    pair_held =
        held_from points numbers (walk_in firsts points (left + right) p) (walk_in firsts points (left + right) (left + q))
        (get_or firsts p 0) (get_or firsts (p + 1) 0) (get_or firsts (left + q) 0) (get_or firsts (left + q + 1) 0) (ends in_left) (ends in_right)
        (walk_lies in_left left_number (λ i. ap (λ t. number_of t (walk_in firsts points (left + right) p) i) (lt-ltb p left hp)))
        (walk_lies in_right right_number (λ i. ap (λ t. number_of t (walk_in firsts points (left + right) (left + q)) i) (le-ltb (left + q) left (omega arith))))
        (walk_turns in_left) (walk_turns in_right) (k.close p q hp hq)

    pub pair_between : Between firsts p × Between firsts (left + q)
    pair_between = (walk_between in_left, walk_between in_right)

    pub pair_short : edges_of (walk_in firsts points (left + right) p) (walk_in firsts points (left + right) (left + q)) ≤ most_edges points
    pair_short =
        edges_short _ _ (walk_short k.walks in_left) (walk_short k.walks in_right)
        (omega (arith, ends in_left, ends in_right, (placed in_right).within, firsts_rise k.walks (p + 1) (left + q - (p + 1)) (omega arith), ap (λ j. get_or firsts j 0) on))
      where
        on : p + 1 + (left + q - (p + 1)) ≡ left + q
        on = omega arith

    -- they fit where its corners have room, and are put
    pub pair_fits : {x : Pair} {out : List ℤ} {at : ℕ} → x ≡ pair_at firsts left p q → RoomAfter (pair_in firsts points left right p q) out at → Fits points numbers x out at
    pair_fits {x} {out} {at} e r =
        subst (λ x. Fits points numbers x out at) (sym e) (record { runs = pair_held.runs; room = subst (λ l. RoomAfter l out at) (sym pair_held.contour) r })

    pub pair_put : {x : Pair} {out out' : List ℤ} {at k : ℕ} → x ≡ pair_at firsts left p q → CornersPut (chain_contour points numbers x) out at out' k → CornersPut (pair_in firsts points left right p q) out at out' k
    pair_put {out = out} {out'} {at} {k} e r = subst (λ l. CornersPut l out at out' k) (ap (chain_contour points numbers) e ∙ pair_held.contour) r

    -- a work buffer has room for them
    pub pair_few : length (pair_in firsts points left right p q) ≤ edges_of (walk_in firsts points (left + right) p) (walk_in firsts points (left + right) (left + q))
    pair_few =
        let x = pair_at firsts left p q in
        omega (arith, pair_held.edges, ap length pair_held.contour, length-map (chain_of numbers x) (λ c. corner_in points c.0 +ᵖ corner_in points c.1), chain_short numbers x.end (x.end - (x.i + x.j)) x.i x.j)

    pub pair_room : (work : List ℤ) → PairRoom points work → RoomAfter (pair_in firsts points left right p q) work 0
    pair_room work w = omega (arith, w, pair_few, pair_short)
