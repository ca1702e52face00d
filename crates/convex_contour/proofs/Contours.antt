-- A whole region's contour in its buffer: it is the zipper's from the last corner added
-- (`contour_zipper`). The corners at some places (`between_next`). A point appended or not
-- (`kept_yes`, `kept_no`). A run along the contour (`ran_one`, `ran_more`), place after place
-- (`ran_start`, `ran_next`, `ran_places`). Corners of turn 0 are those that a run round the contour
-- drops (`straight_along`), and the two runs, to the buffer's end and from the first corner done,
-- are one round (`ran_whole`). Assumes nothing.
use mathlib.Core.Path.{◌≡◌, refl, sym, ◌∙◌, ap, ap₂, subst}
use mathlib.Core.Bool.{Bool, true, false, not, cond}
use mathlib.Core.List.{List, [], ◌∷◌, ◌++◌, map, map-append, append_assoc, append-nil}
use Prim.Native.Nat.{ℕ, suc, ◌+◌, ◌-◌, ◌≤◌, ◌<◌}
use native.Mathlib.Omega.{arith}
use borrow.Author.Tests.{ltb-true, ltb-false}
use lib.Dec.{ltb}
use lib.ListN.{length, get_or, set, take, drop, length-append, length-drop, length-map}
use lib.Seq.{drop-cons, drop-drop, get_or-drop, length-take-le, take_all, take-suc}
use lib.IntN.{ℤ, pos}
use Rattle.integers.specs.Lists.{rotate}
use Rattle.integers.specs.Test.{eq_z}
use Rattle.integers.proofs.Order.{by_test}
use Rattle.integers.proofs.Rotation.{rotate_eq}
use Rattle.integers.proofs.Elements.{map-take, map-drop}
use Rattle.plane.specs.declared.IntPoint.{IntPoint}
use Rattle.plane.specs.declared.IntVector.{IntVector}
use Rattle.plane.specs.Plane.{Pt, ◌-ᵖ◌, turn}
use Rattle.plane.specs.Machine.{point, vector, OnGrid, Short}
use Rattle.plane.specs.Contour.{last_of}
use Rattle.convex.specs.Joining.{kept_by, turning, without_straight}
use Rattle.convex.specs.Zipper.{Zipper, from_last_z}
use Rattle.convex_ring.specs.declared.Progress.{Progress}
use Rattle.points.specs.Points.{corner_of, corner_in, pair_of, Appended}
use Rattle.points.proofs.Points.{appended_none, appended_one, appended_more}
use Rattle.convex_ring.specs.Buffers.{Holds}
use Rattle.convex_contour.specs.declared.Run.{Run}
use Rattle.convex_contour.specs.Contour.{contour_at, Whole, place_before, kept_if, bends, kept_along, way_along, between, Runnable, Ran}
use Rattle.convex_ring.proofs.Reading.{length_done}

-- ---- the contour of a zipper

pub contour_zipper : {cs : List (List ℤ)} {es : List (List ℕ)} {flags : List Bool} {p : Progress} {seen : List ℕ} {z : Zipper} {size : ℕ} → length cs ≡ size → p.done < p.last → Holds size cs es flags p seen z → from_last_z z ≡ contour_at cs p
unfolding contour_at
contour_zipper {cs} {p} {z} e₀ placed h =
    let k = p.last - 1 - p.done in
    let l = drop p.done cs in
    let settled : z.fresh ≡ false = by_test z.fresh (λ t. absurd (omega (arith, h.fresh t))) (λ t. t) in
    let e : length z.done - z.last ≡ k = omega (arith, ap length h.done, length_done cs p.done, e₀, h.last settled) in
    let n : p.done + k ≡ p.last - 1 = omega arith in
    (λ i. rotate (e i) (h.done i)) ∙ rotate_eq k (map corner_of l) ∙ ap₂ ◌++◌ (sym (map-drop corner_of k l)) (sym (map-take corner_of k l)) ∙ sym (map-append corner_of (drop k l) (take k l))
    ∙ ap (λ r. map corner_of (r ++ take k l)) (drop-drop k p.done cs ∙ ap (λ j. drop j cs) n)

-- ---- the corners at some places

module _ (cs : List (List ℤ)) where
  length_between : (i j : ℕ) → j ≤ length cs → length (between cs i j) ≡ j - i
  length_between i j h = length-map (take (j - i) (drop i cs)) corner_of ∙ length-take-le (j - i) (drop i cs) (omega (arith, length-drop i cs))

  between_none : (i : ℕ) {j : ℕ} → j ≤ i → between cs i j ≡ []
  between_none i {j} h =
      let e : j - i ≡ 0 = omega arith in
      ap (λ n. map corner_of (take n (drop i cs))) e

  between_next : {i j : ℕ} → i ≤ j → j < length cs → between cs i (j + 1) ≡ between cs i j ++ (corner_in cs j ∷ [])
  between_next {i} {j} h k =
      let l = drop i cs in
      let e : j + 1 - i ≡ suc (j - i) = omega arith in
      let f : i + (j - i) ≡ j = omega arith in
      ap (λ n. map corner_of (take n l)) e
      ∙ ap (map corner_of) (take-suc l (j - i) [] (omega (arith, length-drop i cs)) ∙ ap (λ c. take (j - i) l ++ (c ∷ [])) (get_or-drop i cs (j - i) [] ∙ ap (λ n. get_or cs n []) f))
      ∙ map-append corner_of (take (j - i) l) (get_or cs j [] ∷ [])

  -- the same, by the place after the last
  between_last : {i j : ℕ} → i < j → j ≤ length cs → between cs i j ≡ between cs i (j - 1) ++ (corner_in cs (j - 1) ∷ [])
  between_last {i} {j} h k =
      let e : j ≡ j - 1 + 1 = omega arith in
      ap (between cs i) e ∙ between_next {i = i} {j = j - 1} (omega arith) (omega arith)

-- ---- the last corner of a list

last_append : (b : Pt) (l m : List Pt) → last_of b (l ++ m) ≡ last_of (last_of b l) m
unfolding last_of
last_append b [] m = refl
last_append b (c ∷ l) m = last_append c l m

last_snoc : (b : Pt) (l : List Pt) (c : Pt) → last_of b (l ++ (c ∷ [])) ≡ c
unfolding last_of
last_snoc b l c = last_append b l (c ∷ [])

-- ---- a point appended

-- a point that stays, and one that does not
pub kept_yes : (points : List (List ℤ)) {n : ℕ} (q : Pt) {t : Bool} {points' : List (List ℤ)} → t ≡ true → n < length points → points' ≡ set points n (pair_of q) → Appended (kept_if t q) points n points' (n + 1)
kept_yes points {n} q {points' = points'} e h w = subst (λ b. Appended (kept_if b q) points n points' (n + 1)) (sym e) (subst (λ r. Appended (q ∷ []) points n r (n + 1)) (sym w) (appended_one points q h))

pub kept_no : (points : List (List ℤ)) (n : ℕ) (q : Pt) {t : Bool} → t ≡ false → Appended (kept_if t q) points n points n
kept_no points n q e = subst (λ b. Appended (kept_if b q) points n points n) (sym e) (appended_none points n)

-- ---- a run along the contour

along_append : (d b : Pt) (l m : List Pt) → kept_along d b (l ++ m) ≡ kept_along d b l ++ kept_along (way_along d b l) (last_of b l) m
unfolding kept_along way_along last_of
along_append d b [] m = refl
along_append d b (c ∷ l) m = ap (λ k. kept_if (bends d (c -ᵖ b)) b ++ k) (along_append (c -ᵖ b) c l m) ∙ sym (append_assoc (kept_if (bends d (c -ᵖ b)) b) (kept_along (c -ᵖ b) c l) (kept_along (way_along (c -ᵖ b) c l) (last_of c l) m))

way_append : (d b : Pt) (l m : List Pt) → way_along d b (l ++ m) ≡ way_along (way_along d b l) (last_of b l) m
unfolding way_along last_of
way_append d b [] m = refl
way_append d b (c ∷ l) m = way_append (c -ᵖ b) c l m

kept_few : (t : Bool) (b : Pt) → length (kept_if t b) ≤ 1
kept_few true b = omega arith
kept_few false b = omega arith

along_few : (d b : Pt) (l : List Pt) → length (kept_along d b l) ≤ length l
unfolding kept_along
along_few d b [] = omega arith
along_few d b (c ∷ l) = omega (arith, length-append (kept_if (bends d (c -ᵖ b)) b) (kept_along (c -ᵖ b) c l), kept_few (bends d (c -ᵖ b)) b, along_few (c -ᵖ b) c l)

ran_none : (points : List (List ℤ)) (r : Run) → OnGrid r.corner → Short r.way → Ran [] points r points r
unfolding kept_along way_along last_of
ran_none points r on short = record { appended = appended_none points r.count; corner = refl; way = refl; corner_on = on; way_short = short }

pub ran_one : {points points' : List (List ℤ)} {r : Run} {c : IntPoint} {e : IntVector} {n : ℕ} → OnGrid c → (vector e ≡ point c -ᵖ point r.corner) × Short e → Appended (kept_if (bends (vector r.way) (vector e)) (point r.corner)) points r.count points' n → Ran (point c ∷ []) points r points' (record { corner = c; way = e; count = n })
unfolding kept_along way_along last_of
ran_one {points} {points'} {r} {c} {e} {n} on f a =
    let b = point r.corner in
    let d = vector r.way in
    record {
      appended = subst (λ k. Appended k points r.count points' n) (ap (λ v. kept_if (bends d v) b) f.0 ∙ sym (append-nil (kept_if (bends d (point c -ᵖ b)) b))) a;
      corner = refl;
      way = f.0;
      corner_on = on;
      way_short = f.1;
    }

ran_more : {l m : List Pt} {points points' points'' : List (List ℤ)} {r s t : Run} → Ran l points r points' s → Ran m points' s points'' t → Ran (l ++ m) points r points'' t
ran_more {l} {m} {points} {points'} {points''} {r} {s} {t} f g =
    let b = point r.corner in
    let d = vector r.way in
    record {
      appended = subst (λ k. Appended k points r.count points'' t.count) ((λ i. kept_along d b l ++ kept_along (f.way i) (f.corner i) m) ∙ sym (along_append d b l m)) (appended_more f.appended g.appended);
      corner = g.corner ∙ ap (λ c. last_of c m) f.corner ∙ sym (last_append b l m);
      way = g.way ∙ (λ i. way_along (f.way i) (f.corner i) m) ∙ sym (way_append d b l m);
      corner_on = g.corner_on;
      way_short = g.way_short;
    }

-- how many points there are after it
ran_count : {l : List Pt} {points points' : List (List ℤ)} {r t : Run} → Ran l points r points' t → (t.count ≤ r.count + length l) × (length points' ≡ length points)
ran_count {l} {r = r} f = (omega (arith, f.appended.count, along_few (vector r.way) (point r.corner) l), f.appended.size)

-- over places: none, one place more, and up to the end
module _ (cs : List (List ℤ)) (i : ℕ) {points : List (List ℤ)} {r : Run} where
  pub ran_start : {j : ℕ} → Runnable cs i j points r → Ran (between cs i i) points r points r
  ran_start h = subst (λ l. Ran l points r points r) (sym (between_none cs i (omega arith))) (ran_none points r h.corner_on h.way_short)

  pub ran_places : {k j : ℕ} {points' : List (List ℤ)} {t : Run} → k ≡ j → Ran (between cs i k) points r points' t → Ran (between cs i j) points r points' t
  ran_places {points' = points'} {t} e = subst (λ n. Ran (between cs i n) points r points' t) e

  module _ {k : ℕ} {j : ℕ} (h : Runnable cs i j points r) (f : i ≤ k) (g : k < j) {points' : List (List ℤ)} {s : Run} (a : Ran (between cs i k) points r points' s) where
    pub ran_room : s.count < length points'
    ran_room =
        let n = ran_count a in
        omega (arith, n.0, n.1, length_between cs i k (omega (arith, h.within)), h.room)

    pub ran_next : {c : IntPoint} {points'' : List (List ℤ)} {t : Run} → point c ≡ corner_in cs k → Ran (point c ∷ []) points' s points'' t → Ran (between cs i (k + 1)) points r points'' t
    ran_next {c} {points''} {t} e b = subst (λ l. Ran l points r points'' t) (ap (λ q. between cs i k ++ (q ∷ [])) e ∙ sym (between_next cs f (omega (arith, h.within)))) (ran_more a b)

-- ---- corners of turn 0 are dropped

kept_or_not : (t : Bool) (b : Pt) (rest : List Pt) → cond t rest (b ∷ rest) ≡ kept_if (not t) b ++ rest
kept_or_not true b rest = refl
kept_or_not false b rest = refl

turning_along : (a f b : Pt) (l : List Pt) → turning a f (b ∷ l) ≡ kept_along (b -ᵖ a) b (l ++ (f ∷ []))
unfolding turning kept_along
turning_along a f b [] = kept_or_not (eq_z (turn a b f) (pos 0)) b []
turning_along a f b (c ∷ l) = ap (kept_by a b c) (turning_along b f c l) ∙ kept_or_not (eq_z (turn a b c) (pos 0)) b (kept_along (c -ᵖ b) c (l ++ (f ∷ [])))

straight_along : (b : Pt) (l : List Pt) → without_straight (b ∷ l) ≡ kept_along (b -ᵖ last_of b l) b (l ++ (b ∷ []))
unfolding without_straight
straight_along b l = turning_along (last_of b l) b b l

-- ---- a whole contour: its first corner, those after it to the end of the buffer, and those done
-- before the first one, without it and with it

abbrev first : List (List ℤ) → Progress → Pt
first cs p = corner_in cs (p.last - 1)

abbrev near : List (List ℤ) → Progress → List Pt
near cs p = between cs p.last (length cs)

abbrev inner : List (List ℤ) → Progress → List Pt
inner cs p = between cs p.done (p.last - 1)

abbrev far : List (List ℤ) → Progress → List Pt
far cs p = between cs p.done p.last

-- the corner before the first one, round the contour
abbrev previous : List (List ℤ) → Progress → Pt
previous cs p = last_of (first cs p) (near cs p ++ inner cs p)

module _ {cs : List (List ℤ)} {p : Progress} (w : Whole cs p) where
  contour_shape : contour_at cs p ≡ first cs p ∷ near cs p ++ inner cs p
  unfolding contour_at
  contour_shape =
      let e : suc (p.last - 1) ≡ p.last = omega (arith, w.placed) in
      let tail = take (p.last - 1 - p.done) (drop p.done cs) in
      map-append corner_of (drop (p.last - 1) cs) tail
      ∙ ap (λ l. map corner_of l ++ map corner_of tail)
      (drop-cons cs (p.last - 1) [] (omega (arith, w.placed, w.ended)) ∙ ap (λ l. get_or cs (p.last - 1) [] ∷ l) (ap (λ n. drop n cs) e ∙ sym (take_all (length cs - p.last) (drop p.last cs) (omega (arith, length-drop p.last cs)))))

  pub length_contour : length (contour_at cs p) ≡ length cs - p.done
  length_contour =
      ap length contour_shape
      ∙ omega (arith, length-append (near cs p) (inner cs p), length_between cs p.last (length cs) (omega arith), length_between cs p.done (p.last - 1) (omega (arith, w.ended)), w.placed, w.ended)

  last_near : last_of (first cs p) (near cs p) ≡ corner_in cs (length cs - 1)
  unfolding last_of
  last_near = by_test (ltb p.last (length cs))
      (λ t. ap (last_of (first cs p)) (between_last cs (ltb-true p.last (length cs) t) (omega arith)) ∙ last_snoc (first cs p) (between cs p.last (length cs - 1)) (corner_in cs (length cs - 1)))
      (λ t. let e : p.last ≡ length cs = omega (arith, w.ended, ltb-false p.last (length cs) t) in
      ap (last_of (first cs p)) (between_none cs p.last (omega arith)) ∙ ap (λ n. corner_in cs (n - 1)) e)

  previous_at : previous cs p ≡ corner_in cs (place_before (length cs) p.done (p.last - 1))
  unfolding place_before last_of
  previous_at =
      let x = p.last - 1 in
      let b = last_of (first cs p) (near cs p) in
      last_append (first cs p) (near cs p) (inner cs p) ∙ by_test (ltb p.done x)
      (λ t. rw t (ap (last_of b) (between_last cs (ltb-true p.done x t) (omega (arith, w.ended))) ∙ last_snoc b (between cs p.done (x - 1)) (corner_in cs (x - 1))))
      (λ t. rw t (ap (last_of b) (between_none cs p.done (ltb-false p.done x t)) ∙ last_near))

  pub before_below : {k : ℕ} → k ≡ place_before (length cs) p.done (p.last - 1) → k < length cs
  unfolding place_before
  before_below e = rw e (by_test (ltb p.done (p.last - 1)) (λ t. rw t (omega (arith, w.placed, w.ended))) (λ t. rw t (omega (arith, w.placed, w.ended))))

  kept_whole : without_straight (contour_at cs p) ≡ kept_along (first cs p -ᵖ previous cs p) (first cs p) (near cs p ++ far cs p)
  kept_whole =
      ap without_straight contour_shape ∙ straight_along (first cs p) (near cs p ++ inner cs p)
      ∙ ap (kept_along (first cs p -ᵖ previous cs p) (first cs p)) (append_assoc (near cs p) (inner cs p) (first cs p ∷ []) ∙ ap (λ l. near cs p ++ l) (sym (between_last cs w.placed w.ended)))

  -- the two runs
  module _ {points points' : List (List ℤ)} {r s : Run} (f : Ran (near cs p) points r points' s) where
    -- the first leaves room for the second
    pub near_room : r.count + length cs ≤ length points + p.done → s.count + p.last ≤ length points' + p.done
    near_room room =
        let n = ran_count f in
        omega (arith, room, n.0, n.1, length_between cs p.last (length cs) (omega arith), w.ended)

    pub ran_whole : {a : IntPoint} {k : ℕ} {points'' : List (List ℤ)} {t : Run} → k ≡ place_before (length cs) p.done (p.last - 1) → point a ≡ corner_in cs k → point r.corner ≡ first cs p → vector r.way ≡ point r.corner -ᵖ point a → Ran (far cs p) points' s points'' t → Appended (without_straight (contour_at cs p)) points r.count points'' t.count
    ran_whole {a} {points'' = points''} {t} e h b d g =
        let v : vector r.way ≡ first cs p -ᵖ previous cs p = d ∙ ap₂ ◌-ᵖ◌ b (h ∙ ap (corner_in cs) e ∙ sym previous_at) in
        subst (λ l. Appended l points r.count points'' t.count) ((λ i. kept_along (v i) (b i) (near cs p ++ far cs p)) ∙ sym kept_whole) (ran_more f g).appended
