-- Where a place lies by one contour, edge by edge. In order: the edges from the one into the first
-- corner on (`round`); the edges left before corner k (`InTurn`), at the start, after an edge, at
-- an edge that z is right of, at the end; whether z is among the corners, corner by corner
-- (`AmongTurn`). Assumes nothing.
use mathlib.Core.Path.{◌≡◌, refl, sym, ◌∙◌, ap, subst}
use mathlib.Core.Bool.{Bool, true, false, cond}
use mathlib.Core.List.{List, [], ◌∷◌, ◌++◌}
use Prim.Native.Nat.{ℕ, suc, ◌+◌, ◌-◌, ◌<◌, ◌≤◌}
use native.Mathlib.Numerals.{add-one}
use native.Mathlib.Omega.{arith}
use lib.ListN.{length, drop, get_or, drop_of_length-le}
use lib.Seq.{drop-cons}
use lib.IntN.{ℤ, pos}
use lib.Signed.{le_z, lt_z, ◌<ℤ◌}
use Rattle.integers.specs.Lists.{links, neighbours}
use Rattle.integers.proofs.Order.{by_test, zarith, <-≤}
use Rattle.integers.proofs.Tests.{lt_z-<, lt_z-≤, <-le_z, ≤-le_z, ≤-lt_z}
use Rattle.plane.specs.Plane.{Pt, O, area_two, eq_pt}
use Rattle.plane.specs.Contour.{last_of}
use Rattle.plane.proofs.Edges.{links_last, ≢-eq_pt}
use Rattle.plane.proofs.Sides.{area_first}
use Rattle.pair.specs.Walk.{corner_at}
use Rattle.placement.proofs.Bools.{or_none, or-all, and_none, and_and, or_or}
use Rattle.placement.specs.declared.Contact.TheVariants.{Apart, Touching, Overlapping}
use Rattle.placement.specs.Placement.{every, some, on_or_left, left_or_none, left_of, among, inside_at, strictly_inside_at, contact_in}

-- the last corner stands last
last_at : (p : Pt) (l : List Pt) → get_or (p ∷ l) (length l) O ≡ last_of p l
unfolding last_of
last_at p [] = refl
last_at p (q ∷ l) = last_at q l

-- a test of the edges: the one into the first corner comes last, or first
module _ (t : Pt × Pt → Bool) (e : Pt × Pt) where
  every_last : (l : List (Pt × Pt)) → every t (l ++ (e ∷ [])) ≡ every t (e ∷ l)
  unfolding every
  every_last [] = refl
  every_last (f ∷ l) = by_test (t f) (λ h. rw h (every_last l)) (λ h. rw h (sym (and_none (t e))))

  some_last : (l : List (Pt × Pt)) → some t (l ++ (e ∷ [])) ≡ some t (e ∷ l)
  unfolding some
  some_last [] = refl
  some_last (f ∷ l) = by_test (t f) (λ h. rw h (sym (or-all (t e)))) (λ h. rw h (some_last l))

-- what holds of the edges in either order
round : (P : List (Pt × Pt) → Bool) → ((e : Pt × Pt) (m : List (Pt × Pt)) → P (m ++ (e ∷ [])) ≡ P (e ∷ m)) → (l : List Pt) → (length l ≡ 0 → ⊥)
    → P (neighbours l) ≡ P (links (corner_at l (length l - 1)) l)
unfolding neighbours links
round P f [] h = absurd (h refl)
round P f (p ∷ l) h =
    let n : suc (length l) - 1 ≡ length l = omega arith in
    ap P (links_last p l p) ∙ f (last_of p l, p) (links p l) ∙ sym (ap (λ a. P ((a, p) ∷ links p l)) (ap (λ k. get_or (p ∷ l) k O) n ∙ last_at p l))

-- the test of a side as the machine holds it
module _ {u s : ℤ} (p : u ≡ s) (b : Bool) where
  pub above : lt_z (pos 0) u ≡ true → true ≡ cond (lt_z (pos 0) s) true b
  above e = rw (← p, e)

  pub not_above : lt_z (pos 0) u ≡ false → b ≡ cond (lt_z (pos 0) s) true b
  not_above e = rw (← p, e)

-- an empty contour covers nothing
pub empty_apart : (z : Pt) (l : List Pt) → length l ≡ 0 → Apart ≡ contact_in z l
unfolding contact_in inside_at strictly_inside_at among some every neighbours
empty_apart z [] h = refl
empty_apart z (p ∷ l) h = absurd (omega arith)

module _ (z : Pt) (l : List Pt) where
  -- the edge into corner k, and those after it
  every_next : (t : Pt × Pt → Bool) (a : Pt) {k : ℕ} → k < length l → every t (links a (drop k l)) ≡ cond (t (a, corner_at l k)) (every t (links (corner_at l k) (drop (k + 1) l))) false
  unfolding every links
  every_next t a {k} h = rw (add-one, drop-cons l k O)

  some_next : (t : Pt × Pt → Bool) (a : Pt) {k : ℕ} → k < length l → some t (links a (drop k l)) ≡ cond (t (a, corner_at l k)) true (some t (links (corner_at l k) (drop (k + 1) l)))
  unfolding some links
  some_next t a {k} h = rw (add-one, drop-cons l k O)

  -- what is told of all edges is what is left to tell, with `strict` and `left` for those before;
  -- corner i is before corner k
  pub record InTurn (i k : ℕ) (strict left : Bool) : Type 0 where
    pub weakly : every (on_or_left z) (neighbours l) ≡ every (on_or_left z) (links (corner_at l i) (drop k l))
    pub strictly : every (left_or_none z) (neighbours l) ≡ cond strict (every (left_or_none z) (links (corner_at l i) (drop k l))) false
    pub lefts : some (left_of z) (neighbours l) ≡ cond left true (some (left_of z) (links (corner_at l i) (drop k l)))

  -- at the start the last corner is before the first
  pub turn_start : (length l ≡ 0 → ⊥) → InTurn (length l - 1) 0 true false
  turn_start h = record {
    weakly = round (every (on_or_left z)) (every_last (on_or_left z)) l h;
    strictly = round (every (left_or_none z)) (every_last (left_or_none z)) l h;
    lefts = round (some (left_of z)) (some_last (left_of z)) l h;
  }

  -- where side s of the edge into corner k is told
  module _ {i k : ℕ} {strict left : Bool} (t : InTurn i k strict left) (h : k < length l) {s : ℤ} (e : s ≡ area_two (corner_at l i) (corner_at l k) z) where
    pub in_turn : {strict' left' : Bool} → lt_z s (pos 0) ≡ false → strict' ≡ cond strict (cond (lt_z (pos 0) s) true (eq_pt (corner_at l i) (corner_at l k))) false
        → left' ≡ cond (lt_z (pos 0) s) true left → InTurn k (k + 1) strict' left'
    in_turn f g j = record {
      weakly = t.weakly ∙ every_next (on_or_left z) _ h ∙ rw (← e, ≤-le_z (lt_z-≤ s (pos 0) f));
      strictly =
          t.strictly ∙ ap (λ b. cond strict b false) (every_next (left_or_none z) _ h) ∙ and_and strict (left_or_none z (corner_at l i, corner_at l k)) _
          ∙ ap (λ x. cond (cond strict (cond (lt_z (pos 0) x) true (eq_pt (corner_at l i) (corner_at l k))) false) (every (left_or_none z) (links (corner_at l k) (drop (k + 1) l))) false) (sym e)
          ∙ ap (λ b. cond b (every (left_or_none z) (links (corner_at l k) (drop (k + 1) l))) false) (sym g);
      lefts =
          t.lefts ∙ ap (λ b. cond left true b) (some_next (left_of z) _ h) ∙ or_or left (left_of z (corner_at l i, corner_at l k)) _
          ∙ ap (λ x. cond (cond (lt_z (pos 0) x) true left) true (some (left_of z) (links (corner_at l k) (drop (k + 1) l)))) (sym e)
          ∙ ap (λ b. cond b true (some (left_of z) (links (corner_at l k) (drop (k + 1) l)))) (sym j);
    }

    -- z is right of it, so the edge has a length
    pub turned_out : lt_z s (pos 0) ≡ true → Apart ≡ contact_in z l
    unfolding contact_in inside_at strictly_inside_at
    turned_out f =
        let below = lt_z-< s (pos 0) f in
        let w : every (on_or_left z) (neighbours l) ≡ false = t.weakly ∙ every_next (on_or_left z) _ h ∙ rw (← e, <-le_z below) in
        let v : every (left_or_none z) (neighbours l) ≡ false =
        t.strictly ∙ ap (λ b. cond strict b false) (every_next (left_or_none z) _ h ∙ rw (← e, ≤-lt_z (<-≤ below), apart_of (corner_at l i) (corner_at l k) (subst (λ x. x <ℤ pos 0) e below))) ∙ and_none strict in
        rw (v, w)
      where
        apart_of : (a b : Pt) → area_two a b z <ℤ pos 0 → eq_pt a b ≡ false
        apart_of a b below = ≢-eq_pt {a = a} {b = b} (λ q. omega (zarith, subst (λ c. area_two a c z <ℤ pos 0) (sym q) below, area_first a z))

  -- at the end nothing is left
  module _ {i k : ℕ} {strict left : Bool} (t : InTurn i k strict left) (h : length l ≤ k) where
    told_weakly : every (on_or_left z) (neighbours l) ≡ true
    unfolding every links
    told_weakly = t.weakly ∙ rw (drop_of_length-le l {i = k} h)

    told_strictly : every (left_or_none z) (neighbours l) ≡ strict
    unfolding every links
    told_strictly = t.strictly ∙ rw (drop_of_length-le l {i = k} h) (or_none strict)

    told_left : some (left_of z) (neighbours l) ≡ left
    unfolding some links
    told_left = t.lefts ∙ rw (drop_of_length-le l {i = k} h) (or_none left)

    pub turned_strictly : strict ≡ true → left ≡ true → Overlapping ≡ contact_in z l
    unfolding contact_in strictly_inside_at
    turned_strictly e f = rw (told_strictly, e, told_left, f)

    pub turned : cond strict left false ≡ false → cond (among l z) Touching Apart ≡ contact_in z l
    unfolding contact_in inside_at strictly_inside_at
    turned e = rw (told_strictly, told_left, e, told_weakly)

-- ---- among the corners

-- the test of two coordinates as the machine holds them
module _ {u a v b : ℤ} (p : u ≡ a) (q : v ≡ b) (before : Bool) where
  pub at_most : le_z u v ≡ true → true ≡ cond (le_z a b) true before
  at_most e = rw (← p, ← q, e)

  pub not_at_most : le_z u v ≡ false → before ≡ cond (le_z a b) true before
  not_at_most e = rw (← p, ← q, e)

-- what is told of all corners is what is left to tell, with `found` for those before
some_turn : (t : Pt → Bool) (l : List Pt) {k : ℕ} → k < length l → (found : Bool) {found' : Bool} → found' ≡ cond (t (corner_at l k)) true found
    → cond found true (some t (drop k l)) ≡ cond found' true (some t (drop (k + 1) l))
unfolding some
some_turn t l {k} h found e = rw (add-one, drop-cons l k O, e) (or_or found (t (corner_at l k)) _)

module _ (z : Pt) (l : List Pt) where
  pub record AmongTurn (k : ℕ) (right left above below : Bool) : Type 0 where
    pub rightward : some (λ c. le_z c.x z.x) l ≡ cond right true (some (λ c. le_z c.x z.x) (drop k l))
    pub leftward : some (λ c. le_z z.x c.x) l ≡ cond left true (some (λ c. le_z z.x c.x) (drop k l))
    pub upward : some (λ c. le_z c.y z.y) l ≡ cond above true (some (λ c. le_z c.y z.y) (drop k l))
    pub downward : some (λ c. le_z z.y c.y) l ≡ cond below true (some (λ c. le_z z.y c.y) (drop k l))

  pub among_start : AmongTurn 0 false false false false
  among_start = record { rightward = refl; leftward = refl; upward = refl; downward = refl }

  pub among_turn : {k : ℕ} {r f a b r' f' a' b' : Bool} {c : Pt} → AmongTurn k r f a b → k < length l → c ≡ corner_at l k →
      r' ≡ cond (le_z c.x z.x) true r → f' ≡ cond (le_z z.x c.x) true f → a' ≡ cond (le_z c.y z.y) true a → b' ≡ cond (le_z z.y c.y) true b →
      AmongTurn (k + 1) r' f' a' b'
  among_turn {k} {r} {f} {a} {b} t h e p q u v = record {
    rightward = t.rightward ∙ some_turn _ l h r (p ∙ ap (λ c. cond (le_z c.x z.x) true r) e);
    leftward = t.leftward ∙ some_turn _ l h f (q ∙ ap (λ c. cond (le_z z.x c.x) true f) e);
    upward = t.upward ∙ some_turn _ l h a (u ∙ ap (λ c. cond (le_z c.y z.y) true a) e);
    downward = t.downward ∙ some_turn _ l h b (v ∙ ap (λ c. cond (le_z z.y c.y) true b) e);
  }

  -- the test of all four, at the end
  pub among_end : {k : ℕ} {r f a b : Bool} → AmongTurn k r f a b → length l ≤ k → among l z ≡ cond r (cond f (cond a b false) false) false
  unfolding among some
  among_end {k} {r} {f} {a} {b} t h =
      let e : drop k l ≡ [] = drop_of_length-le l {i = k} h in
      let at : (g : Pt → Bool) (x : Bool) → some g l ≡ cond x true (some g (drop k l)) → some g l ≡ x = λ g x p. p ∙ ap (λ m. cond x true (some g m)) e ∙ or_none x in
      rw (at _ r t.rightward, at _ f t.leftward, at _ a t.upward, at _ b t.downward)
