-- The parts of a table's starts f up to e, each less the first, over the points between them, are
-- the table's parts f up to e (`parts_cut`). In order: some of the starts; a part of a part; starts
-- less the first; a part of the numbers; from the numbers that are asked for (`clamped`). Assumes
-- nothing.
use mathlib.Core.Path.{◌≡◌, refl, sym, ◌∙◌, ap, subst}
use mathlib.Core.List.{List, [], ◌∷◌, map}
use Prim.Native.Nat.{ℕ, zero, suc, ◌+◌, ◌-◌, ◌<◌, ◌≤◌}
use native.Mathlib.Omega.{arith}
use borrow.Author.Tests.{ltb-true, ltb-false}
use lib.Dec.{ltb}
use lib.ListN.{length, take, drop, get_or, length-drop, drop_of_length-le}
use lib.Seq.{slice, take-nil, take_all, take-take, drop-drop, drop-cons}
use Rattle.integers.proofs.Order.{by_test}
use Rattle.plane.specs.Plane.{Pt}
use Rattle.table.specs.Table.{parts_of}
use Rattle.corners.proofs.Corners.{take-drop}
use Rattle.pairs_shard.specs.Shard.{least_of}
use Rattle.pairs_shard.proofs.Known.{least_right, least_left}

-- ---- some of the starts

parts_drop : (f : ℕ) (s : List ℕ) (l : List Pt) → parts_of (drop f s) l ≡ drop f (parts_of s l)
unfolding parts_of
parts_drop zero s l = refl
parts_drop (suc f) [] l = refl
parts_drop (suc zero) (a ∷ []) l = refl
parts_drop (suc (suc f)) (a ∷ []) l = refl
parts_drop (suc f) (a ∷ b ∷ s) l = parts_drop f (b ∷ s) l

parts_take : (m : ℕ) (s : List ℕ) (l : List Pt) → parts_of (take (suc m) s) l ≡ take m (parts_of s l)
unfolding parts_of
parts_take m [] l = sym (take-nil m)
parts_take m (a ∷ []) l = ap (λ t. parts_of (a ∷ t) l) (take-nil m) ∙ sym (take-nil m)
parts_take zero (a ∷ b ∷ s) l = refl
parts_take (suc m) (a ∷ b ∷ s) l = ap (λ r. slice a b l ∷ r) (parts_take m (b ∷ s) l)

-- ---- a part of a part: from x up to y of what stands from a up to b

slice_slice : {A : Type 0} {a b x y : ℕ} (l : List A) → a ≤ x → x ≤ y → y ≤ b → slice (x - a) (y - a) (slice a b l) ≡ slice x y l
slice_slice {a} {b} {x} {y} l h k m =
    let z : a + (x - a) ≡ x = omega arith in
    ap (drop (x - a)) (take-drop a y (take b l) (omega arith) ∙ ap (drop a) (take-take y b l m))
    ∙ drop-drop (x - a) a (take y l) ∙ ap (λ n. drop n (take y l)) z

-- ---- starts less the first

-- each start at least the one before
abbrev pub Rise : ℕ → List ℕ → Type 0
Rise b [] = Unit {0}
Rise b (x ∷ []) = x ≤ b
Rise b (x ∷ y ∷ s) = (x ≤ y) × Rise b (y ∷ s)

rise_bound : {b : ℕ} {x : ℕ} (s : List ℕ) → Rise b (x ∷ s) → x ≤ b
rise_bound [] r = r
rise_bound {b} {x} (y ∷ s) r = omega (arith, r.0, rise_bound {b = b} {x = y} s r.1)

parts_less : (a b : ℕ) {x : ℕ} (s : List ℕ) (l : List Pt) → a ≤ x → Rise b (x ∷ s) → parts_of (map (λ t. t - a) (x ∷ s)) (slice a b l) ≡ parts_of (x ∷ s) l
unfolding parts_of
parts_less a b {x = x} [] l h r = refl
parts_less a b {x = x} (y ∷ s) l h r =
    λ i. slice_slice l h r.0 (rise_bound s r.1) i ∷ parts_less a b {x = y} s l (omega (arith, h, r.0)) r.1 i

-- starts that rise, by their numbers
pub rise_by : {b : ℕ} (s : List ℕ) → ((k : ℕ) → suc k < length s → get_or s k 0 ≤ get_or s (suc k) 0) → ((k : ℕ) → k < length s → get_or s k 0 ≤ b) → Rise b s
rise_by {b} [] r q = tt
rise_by {b} (x ∷ []) r q = q 0 (omega arith)
rise_by {b} (x ∷ y ∷ s) r q = (r 0 (omega arith), rise_by {b = b} (y ∷ s) (λ k h. r (suc k) (omega arith)) (λ k h. q (suc k) (omega arith)))

pub parts_cut :
    (f m b : ℕ) (s : List ℕ) (l : List Pt) → f < length s → Rise b (take (suc m) (drop f s)) →
    parts_of (map (λ t. t - get_or s f 0) (take (suc m) (drop f s))) (slice (get_or s f 0) b l) ≡ take m (drop f (parts_of s l))
parts_cut f m b s l h r =
    let x = get_or s f 0 in
    let e = drop-cons s f 0 h in
    ap (λ d. parts_of (map (λ t. t - x) (take (suc m) d)) (slice x b l)) e
    ∙ parts_less x b (take m (drop (suc f) s)) l (omega arith) (subst (λ d. Rise b (take (suc m) d)) e r)
    ∙ ap (λ d. parts_of (take (suc m) d) l) (sym e) ∙ parts_take m (drop f s) l ∙ ap (take m) (parts_drop f s l)

-- ---- some of some of a list

-- the first n from f on of the first q
pub take_within : {A : Type 0} (f n q : ℕ) (l : List A) → f + n ≤ q → take n (drop f (take q l)) ≡ take n (drop f l)
take_within f n q l h = ap (take n) (sym (take-drop f q l (omega arith))) ∙ take-take n (q - f) (drop f l) (omega arith)

-- from u up to v of what stands from q on
pub slice_drop : {A : Type 0} (q : ℕ) {u v : ℕ} (l : List A) → u ≤ v → slice (q + u) (q + v) l ≡ slice u v (drop q l)
slice_drop q {u} {v} l h =
    let z : q + v - (q + u) ≡ v - u = omega arith in
    sym (take-drop (q + u) (q + v) l (omega arith)) ∙ ap (λ n. take n (drop (q + u) l)) z ∙ ap (take (v - u)) (sym (drop-drop u q l)) ∙ take-drop u v (drop q l) h

-- the numbers that are asked for: j past the end counts as the end, i at or past that leaves
-- nothing
pub clamped : {A : Type 0} (i j : ℕ) {p : ℕ} (l : List A) → length l ≡ p → take (least_of j p - least_of i (least_of j p)) (drop (least_of i (least_of j p)) l) ≡ take (j - i) (drop i l)
clamped i j {p} l h = by refl
  where
    nothing : (f m : ℕ) → m ≡ 0 → take m (drop f l) ≡ []
    nothing f m z = ap (λ n. take n (drop f l)) z

    past : (m : ℕ) → p ≤ i → take m (drop i l) ≡ []
    past m k = ap (take m) (drop_of_length-le l {i = i} (omega arith)) ∙ take-nil m

    -- no part: from e on
    none : {e : ℕ} → e < i → least_of j p ≡ e → take (e - least_of i e) (drop (least_of i e) l) ≡ take (j - i) (drop i l)
    none {e} k q =
        nothing (least_of i e) (e - least_of i e) (omega (arith, least_right k))
        ∙ sym (by_test (ltb p j) (λ t. past (j - i) (omega (arith, k, q, least_right (ltb-true p j t)))) (λ t. nothing i (j - i) (omega (arith, k, q, least_left (ltb-false p j t)))))

    -- some: up to e
    some : {e : ℕ} → i ≤ e → least_of j p ≡ e → take (e - least_of i e) (drop (least_of i e) l) ≡ take (j - i) (drop i l)
    some {e} k q =
        let z = least_left k in
        (λ n. take (e - sym z n) (drop (sym z n) l))
        ∙ by_test (ltb p j)
        (λ t. let w = least_right (ltb-true p j t) in
        take_all (e - i) (drop i l) (omega (arith, q, w, h, length-drop i l)) ∙ sym (take_all (j - i) (drop i l) (omega (arith, h, length-drop i l, ltb-true p j t))))
        (λ t. let w : e ≡ j = sym q ∙ sym (least_left (ltb-false p j t)) in ap (λ n. take (n - i) (drop i l)) w)

    by : {e : ℕ} → least_of j p ≡ e → take (least_of j p - least_of i (least_of j p)) (drop (least_of i (least_of j p)) l) ≡ take (j - i) (drop i l)
    by {e} q = ap (λ n. take (n - least_of i n) (drop (least_of i n) l)) q ∙ by_test (ltb e i) (λ t. none (ltb-true e i t) q) (λ t. some (ltb-false e i t) q)
