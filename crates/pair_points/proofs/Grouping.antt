-- Grouping each list of edges before they are merged changes nothing: join (grouped m) (grouped
-- l) = join m l (`join_grouped`). In order: two lists that every run goes on through alike
-- (`Alike`); what grouping does, as any relation that two edges made one and an edge in front keep
-- (`grouped_by`); lists alike as the first of the merge, and as the second. Assumes nothing.
use mathlib.Core.Path.{◌≡◌, refl, sym, ◌∙◌, ap}
use mathlib.Core.Bool.{true, false, cond}
use mathlib.Core.List.{List, [], ◌∷◌}
use mathlib.Core.Logic.{⊎_elim}
use Rattle.integers.specs.Lists.{All}
use Rattle.integers.proofs.Order.{by_test}
use Rattle.integers.proofs.Tests.{differ}
use Rattle.plane.specs.Plane.{Pt, ◌+ᵖ◌, angle_cmp, is_equal}
use Rattle.plane.proofs.Vectors.{+ᵖ_assoc}
use Rattle.plane.specs.Halves.{Nz}
use Rattle.plane.proofs.Directions.{Le, Lt, Same, before, beside, after, angle_cases, le_or_lt, le_trans, clash, same_le, same_refl, same_sym, same_trans, lt_not_same, lt_same, same_lt}
use Rattle.plane.proofs.Sides.{AddSame, add_same}
use Rattle.pair.specs.EdgeLists.{step_one, stepped, runs, grouped, join}
use Rattle.pair.proofs.Join.{step_by, all_stepped}

-- ---- one direction, by the test

pub same_test : {u v : Pt} → Same u v → is_equal (angle_cmp u v) ≡ true
same_test {u} {v} s = elim (angle_cases u v) [
  | before e x ↦ absurd (lt_not_same x s)
  | beside e x ↦ ap is_equal e
  | after e x ↦ absurd (lt_not_same x (same_sym s))
]

pub test_same : {u v : Pt} → is_equal (angle_cmp u v) ≡ true → Same u v
test_same {u} {v} h = elim (angle_cases u v) [
  | before e x ↦ differ (sym (ap is_equal e) ∙ h)
  | beside e x ↦ x
  | after e x ↦ differ (sym (ap is_equal e) ∙ h)
]

-- d and g of one direction are beside the same edges
equal_same : {d g f : Pt} → Nz d → Nz g → Nz f → Same d g → is_equal (angle_cmp d f) ≡ is_equal (angle_cmp g f)
equal_same {d} {g} {f} nd ng nf s =
    by_test (is_equal (angle_cmp d f)) (λ t. t ∙ sym (same_test (same_trans ng nd nf (same_sym s) (test_same t))))
    (λ t. by_test (is_equal (angle_cmp g f)) (λ u. same_test (same_trans nd ng nf s (test_same u)) ∙ sym u) (λ u. t ∙ sym u))

-- ---- runs

-- the next edge in the run's direction, and another
pub runs_on : (d s f : Pt) (l : List Pt) → is_equal (angle_cmp d f) ≡ true → runs d s (f ∷ l) ≡ runs d (s +ᵖ f) l
unfolding runs
runs_on d s f l h = rw h

pub runs_turn : (d s f : Pt) (l : List Pt) → is_equal (angle_cmp d f) ≡ false → runs d s (f ∷ l) ≡ s ∷ runs f f l
unfolding runs
runs_turn d s f l h = rw h

-- of a run's first edge only the direction matters
pub runs_same : {d g : Pt} (s : Pt) (l : List Pt) → Nz d → Nz g → All Nz l → Same d g → runs d s l ≡ runs g s l
unfolding runs
runs_same s [] nd ng nl e = refl
runs_same s (f ∷ l) nd ng nl e =
    λ i. cond (equal_same nd ng nl.0 e i) (runs_same (s +ᵖ f) l nd ng nl.1 e i) (s ∷ runs f f l)

-- ---- two lists that every run goes on through alike

-- no run begun, or one with its first edge and its sum so far
data Begun : Type 0 where
  unset : Begun
  along : (d s : Pt) → Nz d → Begun

abbrev onward : Begun → List Pt → List Pt
onward unset l = grouped l
onward (along d s n) l = runs d s l

record Alike (l m : List Pt) : Type 0 where
  same : (h : Begun) → onward h l ≡ onward h m

alike_by : {l k m j : List Pt} → l ≡ k → m ≡ j → Alike k j → Alike l m
alike_by e f a = record { same = λ h. ap (onward h) e ∙ a.same h ∙ sym (ap (onward h) f) }

alike_trans : {l m k : List Pt} → Alike l m → Alike m k → Alike l k
alike_trans a b = record { same = λ h. a.same h ∙ b.same h }

-- with an edge in front
alike_cons : {l m : List Pt} {e : Pt} → Nz e → Alike l m → Alike (e ∷ l) (e ∷ m)
unfolding runs grouped
alike_cons {l} {m} {e} ne a = record { same = go }
  where
    go : (h : Begun) → onward h (e ∷ l) ≡ onward h (e ∷ m)
    go unset = a.same (along e e ne)
    go (along d s nd) = λ i. cond (is_equal (angle_cmp d e)) (a.same (along d (s +ᵖ e) nd) i) (s ∷ a.same (along e e ne) i)

-- two edges of one direction, and their sum
alike_two : {e f : Pt} (l : List Pt) → Nz e → Nz f → Same e f → All Nz l → Alike (e ∷ f ∷ l) ((e +ᵖ f) ∷ l)
alike_two {e} {f} l ne nf s nl = record { same = go }
  where
    a : AddSame e f
    a = add_same ne nf s

    both : Same (e +ᵖ f) e
    both = same_trans a.nonzero nf ne a.same (same_sym s)

    begun : runs e e (f ∷ l) ≡ runs (e +ᵖ f) (e +ᵖ f) l
    begun = runs_on e e f l (same_test s) ∙ sym (runs_same (e +ᵖ f) l a.nonzero ne nl both)

    go : (h : Begun) → onward h (e ∷ f ∷ l) ≡ onward h ((e +ᵖ f) ∷ l)
    go unset = unfold grouped in begun
    go (along d t nd) = by_test (is_equal (angle_cmp d e))
        (λ h. let x : Same d e = test_same h in
        runs_on d t e (f ∷ l) h ∙ runs_on d (t +ᵖ e) f l (same_test (same_trans nd ne nf x s)) ∙ ap (λ v. runs d v l) (+ᵖ_assoc t e f)
        ∙ sym (runs_on d t (e +ᵖ f) l (same_test (same_trans nd ne a.nonzero x (same_sym both)))))
        (λ h. runs_turn d t e (f ∷ l) h ∙ ap (λ r. t ∷ r) begun ∙ sym (runs_turn d t (e +ᵖ f) l (other h)))
      where
        other : is_equal (angle_cmp d e) ≡ false → is_equal (angle_cmp d (e +ᵖ f)) ≡ false
        other h = by_test (is_equal (angle_cmp d (e +ᵖ f)))
            (λ u. differ (sym h ∙ same_test (same_trans nd a.nonzero ne (test_same u) both))) (λ u. u)

-- ---- grouping is two edges made one, again and again

module _
    {R : List Pt → List Pt → Type 0}
    (rel-refl : (l : List Pt) → R l l)
    (rel-trans : (l m k : List Pt) → R l m → R m k → R l k)
    (rel-cons : (e : Pt) (l m : List Pt) → Nz e → R l m → R (e ∷ l) (e ∷ m))
    (rel-two : (e f : Pt) (l : List Pt) → Nz e → Nz f → Same e f → All Nz l → R (e ∷ f ∷ l) ((e +ᵖ f) ∷ l)) where
  runs_by : {d s : Pt} (l : List Pt) → Nz d → Nz s → Same s d → All Nz l → R (s ∷ l) (runs d s l)
  runs_by {d = d} {s = s} [] nd ns e nl = unfold runs in rel-refl (s ∷ [])
  runs_by {d = d} {s = s} (f ∷ l) nd ns e nl = by_test (is_equal (angle_cmp d f))
      (λ h. let t : Same s f = same_trans ns nd nl.0 e (test_same h) in
      let a : AddSame s f = add_same ns nl.0 t in
      rw (runs_on d s f l h)
      (rel-trans (s ∷ f ∷ l) ((s +ᵖ f) ∷ l) (runs d (s +ᵖ f) l) (rel-two s f l ns nl.0 t nl.1)
      (runs_by {d = d} {s = s +ᵖ f} l nd a.nonzero (same_trans a.nonzero nl.0 nd a.same (same_sym (test_same h))) nl.1)))
      (λ h. rw (runs_turn d s f l h) (rel-cons s (f ∷ l) (runs f f l) ns (runs_by {d = f} {s = f} l nl.0 nl.0 (same_refl f) nl.1)))

  pub grouped_by : (l : List Pt) → All Nz l → R l (grouped l)
  unfolding grouped
  grouped_by [] n = rel-refl []
  grouped_by (e ∷ l) n = runs_by l n.0 n.0 (same_refl e) n.1

-- its edges are nonzero
pub grouped_nz : (l : List Pt) → All Nz l → All Nz (grouped l)
grouped_nz l n =
    grouped_by {R = λ l m. All Nz l → All Nz m} (λ l h. h) (λ l m k f g h. g (f h)) (λ e l m ne f h. (h.0, f h.1))
    (λ e f l ne nf s nl h. ((add_same ne nf s).nonzero, nl)) l n n

-- ---- one step of two nonzero edges

module _ {a : Pt} (k : List Pt → List Pt) {b : Pt} (l : List Pt) (na : Nz a) (nb : Nz b) where
  pub steps_first : Le a b → step_one a k (b ∷ l) ≡ a ∷ k (b ∷ l)
  steps_first h = step_by a k (λ r. r ≡ a ∷ k (b ∷ l)) na nb (λ x. absurd (clash x h)) (λ x. refl)

  pub steps_second : Lt b a → step_one a k (b ∷ l) ≡ b ∷ step_one a k l
  steps_second h = step_by a k (λ r. r ≡ b ∷ step_one a k l) na nb (λ x. refl) (λ x. absurd (clash h x))

-- ---- lists that are alike as the first of the merge

record FirstAlike (m n : List Pt) : Type 0 where
  at : (l : List Pt) → All Nz l → Alike (stepped m l) (stepped n l)

first_cons : (a : Pt) (m n : List Pt) → Nz a → FirstAlike m n → FirstAlike (a ∷ m) (a ∷ n)
unfolding stepped
first_cons a m n na r = record { at = go }
  where
    go : (l : List Pt) → All Nz l → Alike (step_one a (stepped m) l) (step_one a (stepped n) l)
    go [] nl = unfold step_one in alike_cons na (r.at [] tt)
    go (b ∷ l) nl = ⊎_elim
        (λ h. alike_by (steps_first (stepped m) l na nl.0 h) (steps_first (stepped n) l na nl.0 h) (alike_cons na (r.at (b ∷ l) nl)))
        (λ h. alike_by (steps_second (stepped m) l na nl.0 h) (steps_second (stepped n) l na nl.0 h) (alike_cons nl.0 (go l nl.1)))
        (le_or_lt a b)

first_two : (e f : Pt) (m : List Pt) → Nz e → Nz f → Same e f → All Nz m → FirstAlike (e ∷ f ∷ m) ((e +ᵖ f) ∷ m)
unfolding stepped
first_two e f m ne nf s nm = record { at = go }
  where
    a : AddSame e f
    a = add_same ne nf s

    go : (l : List Pt) → All Nz l → Alike (step_one e (stepped (f ∷ m)) l) (step_one (e +ᵖ f) (stepped m) l)
    go [] nl = unfold step_one in alike_two (stepped m []) ne nf s (all_stepped Nz m [] nm tt)
    go (b ∷ l) nl = ⊎_elim
        (λ h. let k : Le f b = le_trans nf ne nl.0 (same_le s).1 h in
        alike_by (steps_first (stepped (f ∷ m)) l ne nl.0 h ∙ ap (λ r. e ∷ r) (steps_first (stepped m) l nf nl.0 k))
        (steps_first (stepped m) l a.nonzero nl.0 (le_trans a.nonzero nf nl.0 (same_le a.same).0 k))
        (alike_two (stepped m (b ∷ l)) ne nf s (all_stepped Nz m (b ∷ l) nm nl)))
        (λ h. let k : Lt b f = lt_same nl.0 ne nf h s in
        alike_by (steps_second (stepped (f ∷ m)) l ne nl.0 h)
        (steps_second (stepped m) l a.nonzero nl.0 (lt_same nl.0 nf a.nonzero k (same_sym a.same)))
        (alike_cons nl.0 (go l nl.1)))
        (le_or_lt e b)

first_grouped : (m : List Pt) → All Nz m → FirstAlike m (grouped m)
first_grouped =
    grouped_by (λ l. record { at = λ k nk. record { same = λ h. refl } })
    (λ l m k f g. record { at = λ j nj. alike_trans (f.at j nj) (g.at j nj) }) first_cons first_two

-- ---- and as the second

record SecondAlike (l k : List Pt) : Type 0 where
  at : (m : List Pt) → All Nz m → Alike (stepped m l) (stepped m k)

second_cons : (b : Pt) (l k : List Pt) → Nz b → SecondAlike l k → SecondAlike (b ∷ l) (b ∷ k)
unfolding stepped
second_cons b l k nb r = record { at = go }
  where
    go : (m : List Pt) → All Nz m → Alike (stepped m (b ∷ l)) (stepped m (b ∷ k))
    go [] nm = alike_cons nb (r.at [] tt)
    go (a ∷ m) nm = ⊎_elim
        (λ h. alike_by (steps_first (stepped m) l nm.0 nb h) (steps_first (stepped m) k nm.0 nb h) (alike_cons nm.0 (go m nm.1)))
        (λ h. alike_by (steps_second (stepped m) l nm.0 nb h) (steps_second (stepped m) k nm.0 nb h) (alike_cons nb (r.at (a ∷ m) nm)))
        (le_or_lt a b)

second_two : (e f : Pt) (l : List Pt) → Nz e → Nz f → Same e f → All Nz l → SecondAlike (e ∷ f ∷ l) ((e +ᵖ f) ∷ l)
unfolding stepped
second_two e f l ne nf s nl = record { at = go }
  where
    t : AddSame e f
    t = add_same ne nf s

    go : (m : List Pt) → All Nz m → Alike (stepped m (e ∷ f ∷ l)) (stepped m ((e +ᵖ f) ∷ l))
    go [] nm = alike_two l ne nf s nl
    go (a ∷ m) nm = ⊎_elim
        (λ h. let k : Le a f = le_trans nm.0 ne nf h (same_le s).0 in
        alike_by (steps_first (stepped m) (f ∷ l) nm.0 ne h)
        (steps_first (stepped m) l nm.0 t.nonzero (le_trans nm.0 nf t.nonzero k (same_le t.same).1))
        (alike_cons nm.0 (go m nm.1)))
        (λ h. let k : Lt f a = same_lt nf ne nm.0 (same_sym s) h in
        alike_by (steps_second (stepped m) (f ∷ l) nm.0 ne h ∙ ap (λ r. e ∷ r) (steps_second (stepped m) l nm.0 nf k))
        (steps_second (stepped m) l nm.0 t.nonzero (same_lt t.nonzero nf nm.0 t.same k))
        (alike_two (stepped (a ∷ m) l) ne nf s (all_stepped Nz (a ∷ m) l nm nl)))
        (le_or_lt a e)

second_grouped : (l : List Pt) → All Nz l → SecondAlike l (grouped l)
second_grouped =
    grouped_by (λ l. record { at = λ k nk. record { same = λ h. refl } })
    (λ l m k f g. record { at = λ j nj. alike_trans (f.at j nj) (g.at j nj) }) second_cons second_two

-- ---- both

pub join_grouped : (m l : List Pt) → All Nz m → All Nz l → join (grouped m) (grouped l) ≡ join m l
unfolding join
join_grouped m l nm nl =
    sym (((second_grouped l nl).at (grouped m) (grouped_nz m nm)).same unset) ∙ sym (((first_grouped m nm).at l nl).same unset)
