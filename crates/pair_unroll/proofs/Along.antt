-- A walk's points one after another, over lists. In order: `with_point` by its cases
-- (`with_repeated`, `with_straight`, `with_turning`, `with_second`), and what it keeps
-- (`all_with`); a run's sum has its direction (`beside_same`); where a list of edges ends
-- (`last_along`, `last_more`); how many points there are (`length_along`, `few_points`); one edge
-- more is one point added (`along_more`); what holds of every point on the way holds of every point
-- that stays (`every_point`). Assumes nothing.
use mathlib.Core.Path.{◌≡◌, refl, sym, ◌∙◌, ap, ap₂, subst}
use mathlib.Core.Bool.{true, false}
use mathlib.Core.List.{List, [], ◌∷◌, ◌++◌, append-nil}
use Prim.Native.Nat.{ℕ, zero, suc, ◌≤◌}
use native.Mathlib.Omega.{arith}
use lib.ListN.{length, get_or, take}
use Rattle.integers.specs.Lists.{All}
use Rattle.integers.proofs.Order.{by_test}
use Rattle.integers.proofs.Tests.{differ}
use Rattle.plane.specs.Plane.{Pt, O, ◌+ᵖ◌, eq_pt, is_zero, angle_cmp, is_equal}
use Rattle.plane.proofs.Vectors.{+ᵖ_assoc, +ᵖ-zero, is_zero_true}
use Rattle.plane.specs.Halves.{Nz}
use Rattle.plane.proofs.Directions.{Same, before, beside, after, angle_cases, same_refl, same_sym, same_trans, lt_not_same, nz_of_test}
use Rattle.plane.proofs.Sides.{+ᵖ_sub, add_same}
use Rattle.plane.proofs.Edges.{eq_pt_refl, is_zero_sub}
use Rattle.pair.specs.Demand.{live}
use Rattle.pair.specs.EdgeLists.{runs, grouped}
use Rattle.pair.proofs.Live.{live_zero, live_keep, live_append, live_nz, length_live}
use Rattle.pair.proofs.FewCorners.{length_grouped}
use Rattle.pair_points.specs.Points.{points_along}
use Rattle.pair_unroll.specs.Unroll.{straight_on, with_point}

-- ---- a point more, by cases: n is the place of the last point, or of the one before it

module _ (r : Pt) where
  with_cons : (p : Pt) (l : List Pt) → 2 ≤ length l → with_point (p ∷ l) r ≡ p ∷ with_point l r
  unfolding with_point
  with_cons p [] h = absurd (omega arith)
  with_cons p (q ∷ []) h = absurd (omega arith)
  with_cons p (q ∷ s ∷ l) h = refl

  -- a repeated point
  pub with_repeated : (l : List Pt) (n : ℕ) → length l ≡ suc n → eq_pt (get_or l n O) r ≡ true → with_point l r ≡ l
  unfolding with_point
  with_repeated [] n h e = absurd (omega arith)
  with_repeated (p ∷ []) zero h e = rw e
  with_repeated (p ∷ []) (suc n) h e = absurd (omega arith)
  with_repeated (p ∷ q ∷ []) zero h e = absurd (omega arith)
  with_repeated (p ∷ q ∷ []) (suc zero) h e = rw e
  with_repeated (p ∷ q ∷ []) (suc (suc n)) h e = absurd (omega arith)
  with_repeated (p ∷ q ∷ s ∷ l) zero h e = absurd (omega arith)
  with_repeated (p ∷ q ∷ s ∷ l) (suc n) h e = ap (λ k. p ∷ k) (with_repeated (q ∷ s ∷ l) n (omega arith) e)

  -- one straight on
  pub with_straight :
      (l : List Pt) (n : ℕ) → length l ≡ suc (suc n) → eq_pt (get_or l (suc n) O) r ≡ false →
      straight_on (get_or l n O) (get_or l (suc n) O) r ≡ true → with_point l r ≡ take (suc n) l ++ (r ∷ [])
  unfolding with_point
  with_straight [] n h e s = absurd (omega arith)
  with_straight (p ∷ []) n h e s = absurd (omega arith)
  with_straight (p ∷ q ∷ []) zero h e s = rw (e, s)
  with_straight (p ∷ q ∷ []) (suc n) h e s = absurd (omega arith)
  with_straight (p ∷ q ∷ t ∷ l) zero h e s = absurd (omega arith)
  with_straight (p ∷ q ∷ t ∷ l) (suc n) h e s = ap (λ k. p ∷ k) (with_straight (q ∷ t ∷ l) n (omega arith) e s)

  -- another one
  pub with_turning :
      (l : List Pt) (n : ℕ) → length l ≡ suc (suc n) → eq_pt (get_or l (suc n) O) r ≡ false →
      straight_on (get_or l n O) (get_or l (suc n) O) r ≡ false → with_point l r ≡ l ++ (r ∷ [])
  unfolding with_point
  with_turning [] n h e s = absurd (omega arith)
  with_turning (p ∷ []) n h e s = absurd (omega arith)
  with_turning (p ∷ q ∷ []) zero h e s = rw (e, s)
  with_turning (p ∷ q ∷ []) (suc n) h e s = absurd (omega arith)
  with_turning (p ∷ q ∷ t ∷ l) zero h e s = absurd (omega arith)
  with_turning (p ∷ q ∷ t ∷ l) (suc n) h e s = ap (λ k. p ∷ k) (with_turning (q ∷ t ∷ l) n (omega arith) e s)

  -- the second one
  pub with_second : (l : List Pt) → length l ≡ 1 → eq_pt (get_or l 0 O) r ≡ false → with_point l r ≡ l ++ (r ∷ [])
  unfolding with_point
  with_second [] h e = absurd (omega arith)
  with_second (p ∷ []) h e = rw e
  with_second (p ∷ q ∷ l) h e = absurd (omega arith)

  -- what holds of the points and of r holds of the points with r
  pub all_with : (Q : Pt → Type 0) (l : List Pt) → All Q l → Q r → All Q (with_point l r)
  unfolding with_point
  all_with Q [] a h = (h, tt)
  all_with Q (p ∷ []) a h = by_test (eq_pt p r) (λ e. rw e a) (λ e. rw e (a.0, (h, tt)))
  all_with Q (p ∷ q ∷ []) a h =
      by_test (eq_pt q r) (λ e. rw e a)
      (λ e. by_test (straight_on p q r) (λ s. rw (e, s) (a.0, (h, tt))) (λ s. rw (e, s) (a.0, (a.1.0, (h, tt)))))
  all_with Q (p ∷ q ∷ s ∷ l) a h = (a.0, all_with Q (q ∷ s ∷ l) a.1 h)

-- ---- one direction

equal_yes : {u v : Pt} → Same u v → is_equal (angle_cmp u v) ≡ true
equal_yes {u} {v} s = elim (angle_cases u v) [ before e x ↦ absurd (lt_not_same x s) | beside e x ↦ ap is_equal e | after e x ↦ absurd (lt_not_same x (same_sym s)) ]

equal_same : {u v : Pt} → is_equal (angle_cmp u v) ≡ true → Same u v
equal_same {u} {v} t = elim (angle_cases u v) [ before e x ↦ differ (sym (ap is_equal e) ∙ t) | beside e x ↦ x | after e x ↦ differ (sym (ap is_equal e) ∙ t) ]

-- d and s of one direction: an edge has that of s exactly where it has that of d
beside_same : {d s e : Pt} → Nz d → Nz s → Nz e → Same d s → is_equal (angle_cmp s e) ≡ is_equal (angle_cmp d e)
beside_same {d} {s} {e} nd ns ne h =
    by_test (is_equal (angle_cmp s e)) (λ t. t ∙ sym (equal_yes (same_trans nd ns ne h (equal_same t))))
    (λ t. by_test (is_equal (angle_cmp d e)) (λ u. differ (sym t ∙ equal_yes (same_trans ns nd ne (same_sym h) (equal_same u)))) (λ u. t ∙ sym u))

-- ---- where edges lead to

unfoldable pub last_along : Pt → List Pt → Pt
last_along p [] = p
last_along p (e ∷ l) = last_along (p +ᵖ e) l

pub last_more : (p e : Pt) (l : List Pt) → last_along p (l ++ (e ∷ [])) ≡ last_along p l +ᵖ e
unfolding last_along
last_more p e [] = refl
last_more p e (f ∷ l) = last_more (p +ᵖ f) e l

last_live : (p : Pt) (l : List Pt) → last_along p (live l) ≡ last_along p l
unfolding last_along
last_live p [] = unfold live in refl
last_live p (e ∷ l) = by_test (is_zero e)
    (λ z. ap (last_along p) (live_zero e l z) ∙ last_live p l ∙ ap (λ q. last_along q l) (sym (ap (λ v. p +ᵖ v) (is_zero_true e z) ∙ +ᵖ-zero p)))
    (λ z. ap (last_along p) (live_keep e l z) ∙ last_live (p +ᵖ e) l)

module _ (d s f : Pt) (l : List Pt) where
  runs_on : is_equal (angle_cmp d f) ≡ true → runs d s (f ∷ l) ≡ runs d (s +ᵖ f) l
  unfolding runs
  runs_on t = rw t

  runs_new : is_equal (angle_cmp d f) ≡ false → runs d s (f ∷ l) ≡ s ∷ runs f f l
  unfolding runs
  runs_new t = rw t

last_runs : (p d s : Pt) (l : List Pt) → last_along p (runs d s l) ≡ last_along (p +ᵖ s) l
unfolding last_along
last_runs p d s [] = unfold runs in refl
last_runs p d s (f ∷ l) = by_test (is_equal (angle_cmp d f))
    (λ t. ap (last_along p) (runs_on d s f l t) ∙ last_runs p d (s +ᵖ f) l ∙ ap (λ q. last_along q l) (sym (+ᵖ_assoc p s f)))
    (λ t. ap (last_along p) (runs_new d s f l t) ∙ last_runs (p +ᵖ s) f f l)

last_grouped : (p : Pt) (l : List Pt) → last_along p (grouped l) ≡ last_along p l
unfolding grouped last_along
last_grouped p [] = refl
last_grouped p (e ∷ l) = last_runs p e e l

-- ---- how many points

pub length_along : (p : Pt) (l : List Pt) → length (points_along p l) ≡ suc (length l)
unfolding points_along
length_along p [] = refl
length_along p (e ∷ l) = ap suc (length_along (p +ᵖ e) l)

some_run : (d s : Pt) (l : List Pt) → 1 ≤ length (runs d s l)
some_run d s [] = unfold runs in omega arith
some_run d s (f ∷ l) = by_test (is_equal (angle_cmp d f))
    (λ t. omega (arith, ap length (runs_on d s f l t), some_run d (s +ᵖ f) l)) (λ t. omega (arith, ap length (runs_new d s f l t)))

-- at most one more than edges
pub few_points : (p : Pt) (l : List Pt) → length (points_along p (grouped (live l))) ≤ suc (length l)
few_points p l = omega (arith, length_along p (grouped (live l)), length_grouped (live l), length_live l)

-- ---- one edge more

-- p and p + e are one point exactly where e is zero
eq_next : (p e : Pt) → eq_pt p (p +ᵖ e) ≡ is_zero e
eq_next p e = sym (is_zero_sub p (p +ᵖ e)) ∙ ap is_zero (+ᵖ_sub p e)

straight_next : (p s e : Pt) → straight_on p (p +ᵖ s) ((p +ᵖ s) +ᵖ e) ≡ is_equal (angle_cmp s e)
unfolding straight_on
straight_next p s e = ap₂ (λ u v. is_equal (angle_cmp u v)) (+ᵖ_sub p s) (+ᵖ_sub (p +ᵖ s) e)

-- the last run is longer by e, or e begins one
run_more :
    (p : Pt) {d s : Pt} (e : Pt) → Nz d → Nz s → Same d s → is_zero e ≡ false →
    with_point (points_along p (runs d s [])) (last_along (p +ᵖ s) [] +ᵖ e) ≡ points_along p (runs d s (e ∷ []))
unfolding with_point points_along last_along runs
run_more p {d} {s} e nd ns h z = by_test (is_equal (angle_cmp d e))
    (λ t. rw (eq_next (p +ᵖ s) e ∙ z, straight_next p s e ∙ beside_same nd ns (nz_of_test e z) h ∙ t, t) (ap (λ q. p ∷ q ∷ []) (+ᵖ_assoc p s e)))
    (λ t. rw (eq_next (p +ᵖ s) e ∙ z, straight_next p s e ∙ beside_same nd ns (nz_of_test e z) h ∙ t, t))

-- the first point stays, where two come after it
first_stays : (p e : Pt) (l : List Pt) (r : Pt) → 1 ≤ length l → with_point (points_along p (e ∷ l)) r ≡ p ∷ with_point (points_along (p +ᵖ e) l) r
unfolding points_along
first_stays p e l r h = with_cons r p (points_along (p +ᵖ e) l) (omega (arith, length_along (p +ᵖ e) l))

along_cons : (p e : Pt) (l : List Pt) → points_along p (e ∷ l) ≡ p ∷ points_along (p +ᵖ e) l
unfolding points_along
along_cons p e l = refl

last_cons : (p e : Pt) (l : List Pt) → last_along p (e ∷ l) ≡ last_along (p +ᵖ e) l
unfolding last_along
last_cons p e l = refl

runs_more :
    (p : Pt) {d s : Pt} (e : Pt) (l : List Pt) → Nz d → Nz s → Same d s → is_zero e ≡ false → All Nz l →
    with_point (points_along p (runs d s l)) (last_along (p +ᵖ s) l +ᵖ e) ≡ points_along p (runs d s (l ++ (e ∷ [])))
runs_more p {d = d} {s = s} e [] nd ns h z a = run_more p e nd ns h z
runs_more p {d = d} {s = s} e (f ∷ l) nd ns h z a =
    let r = last_along ((p +ᵖ s) +ᵖ f) l +ᵖ e in
    ap (λ q. with_point (points_along p (runs d s (f ∷ l))) (q +ᵖ e)) (last_cons (p +ᵖ s) f l)
    ∙ by_test (is_equal (angle_cmp d f))
    (λ t. let df : Same d f = equal_same t in
    let k = add_same ns a.0 (same_trans ns nd a.0 (same_sym h) df) in
    ap₂ (λ g q. with_point (points_along p g) (last_along q l +ᵖ e)) (runs_on d s f l t) (+ᵖ_assoc p s f)
    ∙ runs_more p {d = d} {s = s +ᵖ f} e l nd k.nonzero (same_trans nd a.0 k.nonzero df (same_sym k.same)) z a.1
    ∙ ap (points_along p) (sym (runs_on d s f (l ++ (e ∷ [])) t)))
    (λ t. ap (λ g. with_point (points_along p g) r) (runs_new d s f l t)
    ∙ first_stays p s (runs f f l) r (some_run f f l)
    ∙ ap (λ g. p ∷ g) (runs_more (p +ᵖ s) {d = f} {s = f} e l a.0 a.0 (same_refl f) z a.1)
    ∙ sym (ap (points_along p) (runs_new d s f (l ++ (e ∷ [])) t) ∙ along_cons p s (runs f f (l ++ (e ∷ [])))))

grouped_more :
    (p e : Pt) (l : List Pt) → is_zero e ≡ false → All Nz l →
    with_point (points_along p (grouped l)) (last_along p l +ᵖ e) ≡ points_along p (grouped (l ++ (e ∷ [])))
unfolding grouped last_along
grouped_more p e [] z a = unfold with_point points_along runs in rw (eq_next p e ∙ z)
grouped_more p e (d ∷ l) z a = runs_more p {d = d} {s = d} e l a.0 a.0 (same_refl d) z a.1

-- the last point again
with_last : (p : Pt) (l : List Pt) → with_point (points_along p l) (last_along p l) ≡ points_along p l
unfolding with_point points_along last_along
with_last p [] = rw (eq_pt_refl p)
with_last p (e ∷ []) = rw (eq_pt_refl (p +ᵖ e))
with_last p (e ∷ f ∷ l) = first_stays p e (f ∷ l) (last_along ((p +ᵖ e) +ᵖ f) l) (omega arith) ∙ ap (λ g. p ∷ g) (with_last (p +ᵖ e) (f ∷ l))

live_none : live [] ≡ []
unfolding live
live_none = refl

-- the points of a walk with one edge more are those with the point where it leads to
pub along_more :
    (p e : Pt) (l : List Pt) →
    with_point (points_along p (grouped (live l))) (last_along p l +ᵖ e) ≡ points_along p (grouped (live (l ++ (e ∷ []))))
along_more p e l = by_test (is_zero e) zero_edge other
  where
    zero_edge : is_zero e ≡ true → with_point (points_along p (grouped (live l))) (last_along p l +ᵖ e) ≡ points_along p (grouped (live (l ++ (e ∷ []))))
    zero_edge z =
        ap (with_point (points_along p (grouped (live l)))) (ap (λ v. last_along p l +ᵖ v) (is_zero_true e z) ∙ +ᵖ-zero (last_along p l) ∙ sym (last_grouped p (live l) ∙ last_live p l))
        ∙ with_last p (grouped (live l))
        ∙ ap (λ g. points_along p (grouped g)) (sym (live_append l (e ∷ []) ∙ ap (λ g. live l ++ g) (live_zero e [] z ∙ live_none) ∙ append-nil (live l)))

    other : is_zero e ≡ false → with_point (points_along p (grouped (live l))) (last_along p l +ᵖ e) ≡ points_along p (grouped (live (l ++ (e ∷ []))))
    other z =
        ap (λ q. with_point (points_along p (grouped (live l))) (q +ᵖ e)) (sym (last_live p l))
        ∙ grouped_more p e (live l) z (live_nz l)
        ∙ ap (λ g. points_along p (grouped g)) (sym (live_append l (e ∷ []) ∙ ap (λ g. live l ++ g) (live_keep e [] z ∙ ap (λ g. e ∷ g) live_none)))

-- ---- what holds of every point along the edges holds of every point that stays

module _ (Q : Pt → Type 0) where
  every_runs : {p : Pt} (d s : Pt) (l : List Pt) → Q p → All Q (points_along (p +ᵖ s) l) → All Q (points_along p (runs d s l))
  unfolding points_along
  every_runs {p = p} d s [] q a = unfold runs in (q, a)
  every_runs {p = p} d s (f ∷ l) q a = by_test (is_equal (angle_cmp d f))
      (λ t. subst (λ g. All Q (points_along p g)) (sym (runs_on d s f l t)) (every_runs {p = p} d (s +ᵖ f) l q (subst (λ r. All Q (points_along r l)) (+ᵖ_assoc p s f) a.1)))
      (λ t. subst (λ g. All Q (points_along p g)) (sym (runs_new d s f l t)) (q, every_runs {p = p +ᵖ s} f f l a.0 a.1))

  every_grouped : (p : Pt) (l : List Pt) → All Q (points_along p l) → All Q (points_along p (grouped l))
  unfolding points_along grouped
  every_grouped p [] a = a
  every_grouped p (e ∷ l) a = every_runs {p = p} e e l a.0 a.1

  every_live : (p : Pt) (l : List Pt) → All Q (points_along p l) → All Q (points_along p (live l))
  unfolding points_along
  every_live p [] a = unfold live in a
  every_live p (e ∷ l) a = by_test (is_zero e)
      (λ z. subst (λ g. All Q (points_along p g)) (sym (live_zero e l z)) (every_live p l (subst (λ r. All Q (points_along r l)) (ap (λ v. p +ᵖ v) (is_zero_true e z) ∙ +ᵖ-zero p) a.1)))
      (λ z. subst (λ g. All Q (points_along p g)) (sym (live_keep e l z)) (a.0, every_live (p +ᵖ e) l a.1))

  pub every_point : (p : Pt) (l : List Pt) → All Q (points_along p l) → All Q (points_along p (grouped (live l)))
  every_point p l a = every_grouped p (live l) (every_live p l a)
