-- The merge of two ascending lists of edges, equal directions made one: `join`, which is what a
-- pair's steps give of them. In order: the steps (`stepped`) reorder both lists, keep the order,
-- and pass zero edges by; runs of one direction (`grouped`) give a strictly ascending list with the
-- same sum over each set of directions; the two together. Assumes nothing.
use mathlib.Core.Path.{◌≡◌, refl, sym, ◌∙◌, ap, subst}
use mathlib.Core.Bool.{Bool, true, false, cond}
use mathlib.Core.List.Permᴰ
use mathlib.Core.List.{List, [], ◌∷◌, ◌++◌, Permᴰ}
use Prim.Native.Nat.{◌+◌}
use Rattle.integers.specs.Lists.{All}
use Rattle.integers.proofs.Order.{by_test}
use Rattle.integers.proofs.Elements.{all_map, all_map2, all_append, all_perm}
use Rattle.plane.specs.Plane.{Pt, O, ◌+ᵖ◌, is_zero, angle_cmp, is_equal, is_greater}
use Rattle.plane.proofs.Vectors.{+ᵖ_assoc, +ᵖ-zero, is_zero_true}
use Rattle.plane.specs.Halves.{Nz}
use Rattle.plane.proofs.Directions.{Le, Lt, Same, before, beside, after, angle_cases, le_trans, lt_le, clash, same_le, same_refl, same_sym, same_trans, same_lt, lt_same, lt_le_trans, nz_not_zero}
use Rattle.pair.specs.Demand.{live}
use Rattle.pair.specs.EdgeLists.{step_one, stepped, runs, grouped, join}
use Rattle.plane.proofs.Sides.{Line, line_swap, line_trans, AddSame, add_same}
use Rattle.pair.proofs.Convex.{Sorted, Convex}
use Rattle.pair.proofs.Totals.{one, total, total_sum, total_append, total_perm, Dirs, ahead_of, cut, dirs_ahead}
use Rattle.pair.proofs.Live.{live_zero, live_keep}

-- ---- one step

module _ (a : Pt) (k : List Pt → List Pt) where
  -- a zero edge of the first list steps
  step_zero : (l : List Pt) → is_zero a ≡ true → step_one a k l ≡ a ∷ k l
  unfolding step_one
  step_zero [] h = refl
  step_zero (b ∷ l) h = rw h

  -- then one of the second
  step_past : (b : Pt) (l : List Pt) → is_zero a ≡ false → is_zero b ≡ true → step_one a k (b ∷ l) ≡ b ∷ step_one a k l
  unfolding step_one
  step_past b l h z = rw (h, z)

  -- the second list's edge where it is the lesser
  step_second : (b : Pt) (l : List Pt) → is_zero a ≡ false → is_zero b ≡ false → is_greater (angle_cmp a b) ≡ true → step_one a k (b ∷ l) ≡ b ∷ step_one a k l
  unfolding step_one
  step_second b l h z t = rw (h, z, t)

  -- else the first list's
  step_first : (b : Pt) (l : List Pt) → is_zero a ≡ false → is_zero b ≡ false → is_greater (angle_cmp a b) ≡ false → step_one a k (b ∷ l) ≡ a ∷ k (b ∷ l)
  unfolding step_one
  step_first b l h z t = rw (h, z, t)

  -- either edge
  step_any : {b : Pt} {l : List Pt} (Q : List Pt → Type 0) → Q (b ∷ step_one a k l) → Q (a ∷ k (b ∷ l)) → Q (step_one a k (b ∷ l))
  step_any {b} {l} Q g h =
      by_test (is_zero a) (λ z. subst Q (sym (step_zero (b ∷ l) z)) h)
      (λ z. by_test (is_zero b) (λ y. subst Q (sym (step_past b l z y)) g)
      (λ y. by_test (is_greater (angle_cmp a b)) (λ t. subst Q (sym (step_second b l z y t)) g) (λ t. subst Q (sym (step_first b l z y t)) h)))

  -- the lesser of two that are not zero, the first on equality
  pub step_by : {b : Pt} {l : List Pt} (Q : List Pt → Type 0) → Nz a → Nz b → (Lt b a → Q (b ∷ step_one a k l)) → (Le a b → Q (a ∷ k (b ∷ l))) → Q (step_one a k (b ∷ l))
  step_by {b} {l} Q na nb g h = elim (angle_cases a b) [
    | before e x ↦ subst Q (sym (step_first b l (not_zero na) (not_zero nb) (ap is_greater e))) (h (lt_le x))
    | beside e x ↦ subst Q (sym (step_first b l (not_zero na) (not_zero nb) (ap is_greater e))) (h (same_le x).0)
    | after e x ↦ subst Q (sym (step_second b l (not_zero na) (not_zero nb) (ap is_greater e))) (g x)
  ]
    where
      not_zero : {v : Pt} → Nz v → is_zero v ≡ false
      not_zero {v} n = by_test (is_zero v) (λ t. absurd (nz_not_zero n (is_zero_true v t))) (λ t. t)

-- ---- the steps of two lists

-- one edge of the first list taken in
step_perm : (a : Pt) {k : List Pt → List Pt} (m : List Pt) → ((l : List Pt) → Permᴰ (k l) (m ++ l)) → (l : List Pt) → Permᴰ (step_one a k l) (a ∷ m ++ l)
unfolding step_one
step_perm a {k} m h [] = Permᴰ.cons refl (h [])
step_perm a {k} m h (b ∷ l) =
    step_any a k (λ r. Permᴰ r (a ∷ m ++ b ∷ l))
    (Permᴰ.trans (Permᴰ.cons refl (step_perm a m h l)) (Permᴰ.symm (Permᴰ.middle b (a ∷ m) l))) (Permᴰ.cons refl (h (b ∷ l)))

-- all edges of both, in another order
pub perm_stepped : (m l : List Pt) → Permᴰ (stepped m l) (m ++ l)
unfolding stepped
perm_stepped [] l = Permᴰ.refl l
perm_stepped (a ∷ m) l = step_perm a m (perm_stepped m) l

-- so what holds of both lists' edges holds of all
pub all_stepped : (Q : Pt → Type 0) (m l : List Pt) → All Q m → All Q l → All Q (stepped m l)
all_stepped Q m l h k = all_perm Q (Permᴰ.symm (perm_stepped m l)) ((all_append Q m l).1 (h, k))

-- a step at a time, in order where both lists are
pub ascends_stepped : (m l : List Pt) → All Nz m → All Nz l → Sorted Le m → Sorted Le l → Sorted Le (stepped m l)
unfolding stepped
ascends_stepped [] l nm nl am al = al
ascends_stepped (a ∷ m) l nm nl am al = with_front (λ l nl al. ascends_stepped m l nm.1 nl am.1 al) l nl al
  where
    with_front : ((l : List Pt) → All Nz l → Sorted Le l → Sorted Le (stepped m l)) → (l : List Pt) → All Nz l → Sorted Le l → Sorted Le (step_one a (stepped m) l)
    with_front rest [] nl al = unfold step_one in (all_stepped (Le a) m [] am.0 tt, rest [] tt tt)
    with_front rest (b ∷ l) nl al =
        step_by a (stepped m) (Sorted Le) nm.0 nl.0
        (λ x. (all_stepped (Le b) (a ∷ m) l (lt_le x, all_map2 m (λ e n k. le_trans nl.0 nm.0 n (lt_le x) k) nm.1 am.0) al.0, with_front rest l nl.1 al.1))
        (λ x. (all_stepped (Le a) m (b ∷ l) am.0 (x, all_map2 l (λ e n k. le_trans nm.0 nl.0 n x k) nl.1 al.0), rest (b ∷ l) nl al))

-- the zero edges of either list change nothing
pub live_stepped : (m l : List Pt) → live (stepped m l) ≡ stepped (live m) (live l)
unfolding stepped
live_stepped [] l = unfold live in refl
live_stepped (a ∷ m) l =
    by_test (is_zero a)
    (λ z. ap live (step_zero a (stepped m) l z) ∙ live_zero a (stepped m l) z ∙ live_stepped m l ∙ ap (λ r. stepped r (live l)) (sym (live_zero a m z)))
    (λ z. with_front z (live_stepped m) l ∙ ap (λ r. stepped r (live l)) (sym (live_keep a m z)))
  where
    with_front : is_zero a ≡ false → ((l : List Pt) → live (stepped m l) ≡ stepped (live m) (live l)) → (l : List Pt) → live (step_one a (stepped m) l) ≡ step_one a (stepped (live m)) (live l)
    with_front z rest [] = unfold step_one in (live_keep a (stepped m []) z ∙ ap (λ r. a ∷ r) (rest []) ∙ (unfold live in refl))
    with_front z rest (b ∷ l) =
        by_test (is_zero b)
        (λ y. ap live (step_past a (stepped m) b l z y) ∙ live_zero b (step_one a (stepped m) l) y ∙ with_front z rest l ∙ ap (step_one a (stepped (live m))) (sym (live_zero b l y)))
        (λ y. by_test (is_greater (angle_cmp a b))
        (λ t. ap live (step_second a (stepped m) b l z y t) ∙ live_keep b (step_one a (stepped m) l) y ∙ ap (λ r. b ∷ r) (with_front z rest l)
        ∙ sym (step_second a (stepped (live m)) b (live l) z y t) ∙ ap (step_one a (stepped (live m))) (sym (live_keep b l y)))
        (λ t. ap live (step_first a (stepped m) b l z y t) ∙ live_keep a (stepped m (b ∷ l)) z ∙ ap (λ r. a ∷ r) (rest (b ∷ l) ∙ ap (stepped (live m)) (live_keep b l y))
        ∙ sym (step_first a (stepped (live m)) b (live l) z y t) ∙ ap (step_one a (stepped (live m))) (sym (live_keep b l y))))

-- what a pair emits of two lists of edges is the join of their nonzero edges
pub grouped_live_stepped : (m l : List Pt) → grouped (live (stepped m l)) ≡ join (live m) (live l)
unfolding join
grouped_live_stepped m l = ap grouped (live_stepped m l)

-- ---- runs of one direction

-- the next edge in the run's direction, or after it
pub runs_by : {d : Pt} {s : Pt} {f : Pt} (l : List Pt) (Q : List Pt → Type 0) → Le d f → (Same d f → Q (runs d (s +ᵖ f) l)) → (Lt d f → Q (s ∷ runs f f l)) → Q (runs d s (f ∷ l))
unfolding runs
runs_by {d} {s} {f} l Q le g h = elim (angle_cases d f) [
  | before e x ↦ subst (λ o. Q (cond (is_equal o) (runs d (s +ᵖ f) l) (s ∷ runs f f l))) (sym e) (h x)
  | beside e x ↦ subst (λ o. Q (cond (is_equal o) (runs d (s +ᵖ f) l) (s ∷ runs f f l))) (sym e) (g x)
  | after e x ↦ absurd (clash x le)
]

-- R is l with each run of one direction added up
pub record Grouped (l R : List Pt) : Type 0 where
  pub nonzero : All Nz R
  pub strict : Sorted Lt R
  pub above : (c : Pt) → Nz c → All (Lt c) l → All (Lt c) R
  pub totals : (p : Pt → Bool) → Dirs p → total p R ≡ total p l
  pub lines : (v : Pt) → All (Line v) R → All (Line v) l

-- a test that a, b and a + b pass alike, counted on the sum
one_add : (a b : Pt) {s t u : Bool} → s ≡ u → t ≡ u → cond u (a +ᵖ b) O ≡ cond s a O +ᵖ cond t b O
one_add a b {u = true} d e = λ i. cond (sym d i) a O +ᵖ cond (sym e i) b O
one_add a b {u = false} d e = sym (+ᵖ-zero O) ∙ (λ i. cond (sym d i) a O +ᵖ cond (sym e i) b O)

-- a run's first two edges added up
grouped_two : {s f : Pt} {l : List Pt} {R : List Pt} → Nz s → Nz f → Same s f → Grouped ((s +ᵖ f) ∷ l) R → Grouped (s ∷ f ∷ l) R
grouped_two {s} {f} {l} ns nf e g =
    let a : AddSame s f = add_same ns nf e in
    record {
      nonzero = g.nonzero;
      strict = g.strict;
      above = λ c nc h. g.above c nc (lt_same nc nf a.nonzero h.1.0 (same_sym a.same), h.1.1);
      totals = λ p dp. g.totals p dp ∙ added p (dp s f ns nf e ∙ sym (dp (s +ᵖ f) f a.nonzero nf a.same)) (sym (dp (s +ᵖ f) f a.nonzero nf a.same));
      lines = λ v h. let r = g.lines v h in let q : Line v f = line_trans v f a.nonzero r.0 (line_swap (s +ᵖ f) f a.same.flat) in
          (line_trans v s nf q e.flat, (q, r.1));
    }
  where
    added : (p : Pt → Bool) → p s ≡ p (s +ᵖ f) → p f ≡ p (s +ᵖ f) → total p ((s +ᵖ f) ∷ l) ≡ total p (s ∷ f ∷ l)
    added p c d = unfold total in (ap (λ v. v +ᵖ total p l) (one_add s f c d) ∙ +ᵖ_assoc (one p s) (one p f) (total p l))

-- a run before the others
grouped_next : {s : Pt} {l R : List Pt} → Nz s → All (Lt s) l → Grouped l R → Grouped (s ∷ l) (s ∷ R)
unfolding total
grouped_next {s} ns sl g = record {
  nonzero = (ns, g.nonzero);
  strict = (g.above s ns sl, g.strict);
  above = λ c nc h. (h.0, g.above c nc h.1);
  totals = λ p dp. ap (λ v. one p s +ᵖ v) (g.totals p dp);
  lines = λ v h. (h.0, g.lines v h.1);
}

-- a run begun with direction d and sum s
runs_is : {d s : Pt} (l : List Pt) → Nz d → Nz s → Same s d → All Nz l → All (Le d) l → Sorted Le l → Grouped (s ∷ l) (runs d s l)
runs_is [] nd ns e nl dl al = unfold runs in record { nonzero = (ns, tt); strict = (tt, tt); above = λ c nc h. h; totals = λ p dp. refl; lines = λ v h. h }
runs_is {d} {s} (f ∷ l) nd ns e nl dl al =
    runs_by l (Grouped (s ∷ f ∷ l)) dl.0
    (λ k. let t : Same s f = same_trans ns nd nl.0 e k in
    let a : AddSame s f = add_same ns nl.0 t in
    grouped_two ns nl.0 t
    (runs_is {d = d} {s = s +ᵖ f} l nd a.nonzero (same_trans a.nonzero nl.0 nd a.same (same_sym k)) nl.1 dl.1 al.1))
    (λ k. let t : Lt s f = same_lt ns nd nl.0 e k in
    grouped_next ns (t, all_map2 l (λ x n m. lt_le_trans ns nl.0 n t m) nl.1 al.0)
    (runs_is {d = f} {s = f} l nl.0 nl.0 (same_refl f) nl.1 al.0 al.1))

-- any weakly ascending list
pub grouped_is : {l : List Pt} → All Nz l → Sorted Le l → Grouped l (grouped l)
unfolding grouped
grouped_is {l = []} n a = record { nonzero = tt; strict = tt; above = λ c nc h. tt; totals = λ p dp. refl; lines = λ v h. tt }
grouped_is {l = e ∷ l} n a = runs_is l n.0 n.0 (same_refl e) n.1 a.0 a.1

-- ---- both

-- strictly ascending, so weakly
pub sorted_le : (l : List Pt) → Sorted Lt l → Sorted Le l
sorted_le [] s = tt
sorted_le (e ∷ l) s = (all_map l (λ a h. lt_le h) s.0, sorted_le l s.1)

module _ {E F : List Pt} (e : Convex E) (f : Convex F) where
  -- the steps of two convex lists, grouped
  join_is : Grouped (stepped E F) (join E F)
  unfolding join
  join_is =
      grouped_is (all_stepped Nz E F e.nonzero f.nonzero)
      (ascends_stepped E F e.nonzero f.nonzero e.ascends f.ascends)

  -- strictly ascending
  pub join_strict : Sorted Lt (join E F)
  join_strict = join_is.strict

  -- the sum over a set of directions is the two sums added
  pub total_join : {p : Pt → Bool} → Dirs p → total p (join E F) ≡ total p E +ᵖ total p F
  total_join {p} dp = join_is.totals p dp ∙ total_perm p (perm_stepped E F) ∙ total_append p E F

  -- and so is the cut at any direction
  pub cut_join : {r : Pt} → Nz r → cut r (join E F) ≡ cut r E +ᵖ cut r F
  cut_join nr = total_join (dirs_ahead nr)

  -- no narrower than E, and closed
  pub join_convex : Convex (join E F)
  join_convex = record {
    nonzero = join_is.nonzero;
    ascends = sorted_le (join E F) join_strict;
    closed = sym (total_sum (join E F)) ∙ total_join (λ a b na nb s. refl) ∙ (λ i. (total_sum E ∙ e.closed) i +ᵖ (total_sum F ∙ f.closed) i) ∙ +ᵖ-zero O;
    wide = λ v nv h. e.wide v nv ((all_append (Line v) E F).0 (all_perm (Line v) (perm_stepped E F) (join_is.lines v h))).0;
  }
