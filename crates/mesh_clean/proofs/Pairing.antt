-- Sides that pair up (`paired`): where each side that names a triangle before its own meets the
-- side of that one that names it first, no two meet one (`same_side`), so where no more sides name
-- a triangle after their own, each of these is met, and meets back (`met_back`). A side is counted
-- by one number, three to a triangle (`sides_counted`). Assumes nothing.
use mathlib.Core.Path.{◌≡◌, refl, sym, ◌∙◌, ap, subst}
use mathlib.Core.Bool.{Bool, true, false, cond}
use mathlib.Core.List.{List, [], ◌∷◌}
use Prim.Native.Nat.{ℕ, zero, suc, ◌+◌, ◌*◌, ◌/◌, ◌%◌, ◌≤◌, ◌<◌}
use native.Mathlib.Omega.{arith}
use borrow.Author.Tests.{eqb-true, eq-eqb, ne_eqb, ltb-true, ltb-false, le-ltb}
use lib.Dec.{eqb, ltb}
use lib.ListN.{length}
use lib.IntN.{pos}
use lib.Signed.{◌<ℤ◌}
use Rattle.integers.proofs.Order.{by_test}
use Rattle.integers.proofs.Tests.{differ}
use Rattle.integers.proofs.Pigeonhole.{counted, onto}
use Rattle.mesh.specs.Mesh.{Mesh, Triangle, none, vertex, neighbour, after, before, triangle_at, triangle_area, opposite, max_triangles}
use Rattle.mesh.proofs.Sides.{after_side, opposite_side}
use Rattle.mesh_clean.specs.Clean.{names_before, names_after, sides_with, sides_from}
use Rattle.mesh_clean.proofs.Sides.{Meets, Shared, vertices, round}

-- where a side names n, so does the first that does
first_names : (t : Triangle) {n : ℕ} (i : ℕ) → neighbour t i ≡ n → neighbour t (opposite t n) ≡ n
unfolding opposite neighbour
first_names t {n} i e =
    by_test (eqb t.n0 n) (λ x. rw x (eqb-true t.n0 n x))
    (λ x. rw x (by_test (eqb t.n1 n) (λ y. rw y (eqb-true t.n1 n y)) (λ y. rw y (last i e x y))))
  where
    last : (i : ℕ) → neighbour t i ≡ n → eqb t.n0 n ≡ false → eqb t.n1 n ≡ false → t.n2 ≡ n
    last zero e x y = differ (sym x ∙ eq-eqb t.n0 n e)
    last (suc zero) e x y = differ (sym y ∙ eq-eqb t.n1 n e)
    last (suc (suc i)) e x y = e

-- ---- sides by numbers

module _ (m : Mesh) (test : ℕ → ℕ → Bool) where
  -- side c % 3 of triangle c / 3 passes
  abbrev pub passes : ℕ → Bool
  passes c = test (c / 3) (neighbour (triangle_at m (c / 3)) (c % 3))

  passes_side : (k : ℕ) {i : ℕ} {c : ℕ} → i < 3 → c ≡ 3 * k + i → passes c ≡ test k (neighbour (triangle_at m k) i)
  passes_side k {i} {c} h e =
      let d : c / 3 ≡ k = omega arith in
      let r : c % 3 ≡ i = omega arith in
      λ z. test (d z) (neighbour (triangle_at m (d z)) (r z))

  counted_row : (k : ℕ) {t : Triangle} → triangle_at m k ≡ t → sides_with test k t + counted passes (3 * k) ≡ counted passes (3 * suc k)
  unfolding counted sides_with neighbour
  counted_row k {t} e =
      let at : (i c : ℕ) → i < 3 → c ≡ 3 * k + i → passes c ≡ test k (neighbour t i) = λ i c h q. passes_side k h q ∙ ap (λ u. test k (neighbour u i)) e in
      let n : 3 * suc k ≡ suc (suc (suc (3 * k))) = omega arith in
      let a = at 0 (3 * k) (omega arith) (omega arith) in
      let b = at 1 (suc (3 * k)) (omega arith) (omega arith) in
      let c = at 2 (suc (suc (3 * k))) (omega arith) (omega arith) in
      sym (ap (counted passes) n ∙ (λ z. cond (c z) 1 0 + (cond (b z) 1 0 + (cond (a z) 1 0 + counted passes (3 * k)))) ∙ omega arith)

  pub sides_counted : (k : ℕ) (l : List Triangle) → ((j : ℕ) → j < length l → triangle_at m (k + j) ≡ triangle_at l j) → sides_from test k l + counted passes (3 * k) ≡ counted passes (3 * (k + length l))
  unfolding sides_from
  sides_counted k [] f = omega (arith, ap (λ n. counted passes (3 * n)) (let e : k ≡ k + 0 = omega arith in e))
  sides_counted k (t ∷ l) f =
      let r = counted_row k (ap (triangle_at m) (omega arith) ∙ f 0 (omega arith)) in
      let s = sides_counted (suc k) l (λ j h. ap (triangle_at m) (omega arith) ∙ f (suc j) (omega arith)) in
      omega (arith, r, s, ap (λ n. counted passes (3 * n)) (let e : k + suc (length l) ≡ suc k + length l = omega arith in e))

-- ---- a mesh

module _ (m : Mesh) (few : length m ≤ max_triangles) (area : (k : ℕ) → k < length m → pos 0 <ℤ triangle_area (triangle_at m k))
    (earlier : (k i : ℕ) → k < length m → i < 3 → neighbour (triangle_at m k) i < k → Meets k (triangle_at m k) i (triangle_at m (neighbour (triangle_at m k) i)))
    (balance : sides_from names_before 0 m ≡ sides_from names_after 0 m) where
  abbrev named : ℕ → ℕ → ℕ
  named k i = neighbour (triangle_at m k) i

  -- the side of the triangle named that names back first
  abbrev back : ℕ → ℕ → ℕ
  back k i = opposite (triangle_at m (named k i)) k

  -- sides of two triangles that meet one side begin at one point of one triangle
  same_side : {k i l j : ℕ} → k < length m → i < 3 → named k i < k → l < length m → j < 3 → named l j < l → named k i ≡ named l j → back k i ≡ back l j → (k ≡ l) × (i ≡ j)
  same_side {k} {i} {l} {j} hk hi ek hl hj el en eb =
      let a = earlier k i hk hi ek in
      let b = earlier l j hl hj el in
      let e : k ≡ l = sym a.names ∙ (λ z. neighbour (triangle_at m (en z)) (eb z)) ∙ b.names in
      let p : vertex (triangle_at m k) (after i) ≡ vertex (triangle_at m k) (after j) =
      a.begins ∙ (λ z. vertex (triangle_at m (en z)) (before (eb z))) ∙ sym b.begins ∙ ap (λ n. vertex (triangle_at m n) (after j)) (sym e) in
      (e, sym (round i hi) ∙ ap before (vertices (triangle_at m k) (area k hk) (after i) (after j) (after_side i) (after_side j) p) ∙ round j hj)

  -- a side's number to that of the side it meets
  abbrev across : ℕ → ℕ
  across c = 3 * named (c / 3) (c % 3) + back (c / 3) (c % 3)

  into : (c : ℕ) → c < 3 * length m → passes m names_before c ≡ true → (across c < 3 * length m) × (passes m names_after (across c) ≡ true)
  into c h e =
      let k = c / 3 in
      let i = c % 3 in
      let n = named k i in
      let l : n < k = ltb-true n k e in
      let a = earlier k i (omega arith) (omega arith) l in
      let b = opposite_side (triangle_at m n) k in
      let later : names_after n k ≡ true = rw (le-ltb k n (omega arith), ne_eqb k none (omega arith)) in
      (omega arith, passes_side m names_after n b refl ∙ ap (names_after n) a.names ∙ later)

  apart : (b c : ℕ) → b < 3 * length m → c < 3 * length m → passes m names_before b ≡ true → passes m names_before c ≡ true → across b ≡ across c → b ≡ c
  apart b c hb hc eb ec e =
      let ob = opposite_side (triangle_at m (named (b / 3) (b % 3))) (b / 3) in
      let oc = opposite_side (triangle_at m (named (c / 3) (c % 3))) (c / 3) in
      let s = same_side (omega arith) (omega arith) (ltb-true _ (b / 3) eb) (omega arith) (omega arith) (ltb-true _ (c / 3) ec) (omega arith) (omega arith) in
      omega (arith, s.0, s.1)

  no_more : counted (passes m names_after) (3 * length m) ≤ counted (passes m names_before) (3 * length m)
  unfolding counted
  no_more =
      let a = sides_counted m names_after 0 m (λ j h. ap (triangle_at m) (omega arith)) in
      let b = sides_counted m names_before 0 m (λ j h. ap (triangle_at m) (omega arith)) in
      let z : 0 + length m ≡ length m = omega arith in
      omega (arith, a, b, balance, ap (λ n. counted (passes m names_after) (3 * n)) z, ap (λ n. counted (passes m names_before) (3 * n)) z)

  module _ (n j : ℕ) (l : n < length m) (h : j < 3) (d : named n j ≡ none → ⊥) where
    -- the side that meets it
    pub record MetBy : Type 0 where
      pub k : ℕ
      pub i : ℕ
      pub in_mesh : k < length m
      pub side : i < 3
      pub is : named n j ≡ k
      pub names : named k i ≡ n
      pub later : n < k
      pub meets : Meets k (triangle_at m k) i (triangle_at m n)
      pub there : opposite (triangle_at m n) k ≡ j

    met_by : n ≤ named n j → MetBy
    met_by g =
        let o = onto (passes m names_before) (passes m names_after) into apart no_more (omega arith) (passes_side m names_after n h refl ∙ rw (le-ltb (named n j) n g, ne_eqb (named n j) none d)) in
        let k = o.0 / 3 in
        let i = o.0 % 3 in
        let b = opposite_side (triangle_at m (named k i)) k in
        let e : named k i ≡ n = omega (arith, o.3, b) in
        let q : back k i ≡ j = omega (arith, o.3, b, e) in
        let a = earlier k i (omega (arith, o.1)) (omega arith) (ltb-true (named k i) k o.2) in
        record {
          k = k;
          i = i;
          in_mesh = omega (arith, o.1);
          side = omega arith;
          is = (λ z. neighbour (triangle_at m (sym e z)) (sym q z)) ∙ a.names;
          names = e;
          later = omega (arith, e, ltb-true (named k i) k o.2);
          meets = subst (λ u. Meets k (triangle_at m k) i (triangle_at m u)) e a;
          there = (λ z. opposite (triangle_at m (sym e z)) k) ∙ q;
        }

    -- that side is the first there which names n, so the two meet the other way round too
    met_back : n ≤ named n j → (named n j < length m) × Meets n (triangle_at m n) j (triangle_at m (named n j))
    met_back g =
        let s = met_by g in
        let k = s.k in
        let t = triangle_at m k in
        let w = s.later in
        let o = first_names t s.i s.names in
        let f : opposite t n ≡ s.i = (same_side s.in_mesh (opposite_side t n) (omega (arith, o, w)) s.in_mesh s.side (omega (arith, s.names, w)) (o ∙ sym s.names) (ap (λ u. opposite (triangle_at m u) k) (o ∙ sym s.names))).1 in (
          omega (arith, s.is, s.in_mesh),
          subst (λ u. Meets n (triangle_at m n) j (triangle_at m u)) (sym s.is) (record {
            names = o;
            begins = ap (λ v. vertex (triangle_at m n) (after v)) (sym s.there) ∙ sym s.meets.ends ∙ ap (λ v. vertex t (before v)) (sym f);
            ends = ap (λ v. vertex (triangle_at m n) (before v)) (sym s.there) ∙ sym s.meets.begins ∙ ap (λ v. vertex t (after v)) (sym f);
          }),
        )

    met : (named n j < length m) × Meets n (triangle_at m n) j (triangle_at m (named n j))
    met = by_test (ltb (named n j) n) (λ e. let b = ltb-true (named n j) n e in (omega arith, earlier n j l h b)) (λ e. met_back (ltb-false (named n j) n e))

  pub paired : Shared m
  paired = record { few = few; area = area; in_mesh = λ k i l h d. (met k i l h d).0; meets = λ k i l h d. (met k i l h d).1 }
