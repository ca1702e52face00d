-- The code's tests: the side that names back, as it is chosen (`chosen`), a side and what it adds
-- to the counts (`side_before` and those after it: each law is one way through `count_side`), and
-- the three sides of a row (`row_first` and those after it, through `count_row`). Assumes nothing.
use mathlib.Core.Path.{◌≡◌, sym, ◌∙◌, ap, subst}
use mathlib.Core.Bool.{Bool, true, false, not, cond}
use mathlib.Core.List.{List, []}
use Prim.Native.Nat.{ℕ, ◌+◌, ◌-◌, ◌≤◌, ◌<◌}
use native.Mathlib.Omega.{arith}
use borrow.Author.Tests.{eq-eqb, ne_eqb, lt-ltb, le-ltb, not-true, not-false}
use lib.Dec.{eqb}
use lib.ListN.{length, get_or}
use lib.IntN.{ℤ}
use Rattle.integers.proofs.Tests.{differ}
use Rattle.plane.specs.Plane.{Pt}
use Rattle.mesh.specs.Mesh.{Mesh, Triangle, none, vertex, neighbour, triangle_at}
use Rattle.mesh.specs.Rows.{row_triangle, rows_mesh}
use Rattle.mesh.proofs.Rows.{triangle_row}
use Rattle.mesh_clean.specs.Packed.{Packs}
use Rattle.mesh_clean.specs.declared.Seen.{Seen}
use Rattle.mesh_clean.specs.Clean.{same_edge, shares_back, names_before, names_after, shares_edge, shares_all, sides_with}
use Rattle.mesh_clean.specs.Counted.{Counted, RowCounted}
use Rattle.mesh_clean.proofs.Packed.{packs_eq, none_apart}

-- ---- the side that names back

-- the number of no point of an edge that ends in b
abbrev none_of : ℕ → ℕ
none_of b = 18446744073709551615 - b

module _ (u : Triangle) (k : ℕ) {p q : Pt} {a b : ℕ} (ea : Packs p a) (eb : Packs q b) {w0 w1 w2 : ℕ} (e0 : Packs (vertex u 0) w0) (e1 : Packs (vertex u 1) w1) (e2 : Packs (vertex u 2) w2) where
  one_of : (x y z : Bool) → cond (eqb (cond x w1 (cond y w2 (cond z w0 (none_of b)))) b) (eqb (cond x w2 (cond y w0 w1)) a) false
      ≡ cond x (same_edge u.v1 u.v2 q p) (cond y (same_edge u.v2 u.v0 q p) (cond z (same_edge u.v0 u.v1 q p) false))
  unfolding same_edge vertex
  one_of true y z = λ i. cond (packs_eq e1 eb i) (packs_eq e2 ea i) false
  one_of false true z = λ i. cond (packs_eq e2 eb i) (packs_eq e0 ea i) false
  one_of false false true = λ i. cond (packs_eq e0 eb i) (packs_eq e1 ea i) false
  one_of false false false = rw (ne_eqb (none_of b) b (none_apart))

  -- r0 is where the chosen side begins, s0 where it ends
  module _ {n0 n1 n2 : ℕ} (f0 : n0 ≡ neighbour u 0) (f1 : n1 ≡ neighbour u 1) (f2 : n2 ≡ neighbour u 2) {r0 r1 r2 s0 s1 : ℕ}
      (g2 : r2 ≡ cond (eqb n2 k) w0 (none_of b)) (g1 : r1 ≡ cond (eqb n1 k) w2 r2) (g0 : r0 ≡ cond (eqb n0 k) w1 r1) (h1 : s1 ≡ cond (eqb n1 k) w0 w1) (h0 : s0 ≡ cond (eqb n0 k) w2 s1) where
    begins : r0 ≡ cond (eqb u.n0 k) w1 (cond (eqb u.n1 k) w2 (cond (eqb u.n2 k) w0 (none_of b)))
    unfolding neighbour
    begins =
        let x2 : r2 ≡ cond (eqb u.n2 k) w0 (none_of b) = g2 ∙ ap (λ n. cond (eqb n k) w0 (none_of b)) f2 in
        let x1 : r1 ≡ cond (eqb u.n1 k) w2 _ = g1 ∙ (λ i. cond (eqb (f1 i) k) w2 (x2 i)) in
        g0 ∙ (λ i. cond (eqb (f0 i) k) w1 (x1 i))

    ends : s0 ≡ cond (eqb u.n0 k) w2 (cond (eqb u.n1 k) w0 w1)
    unfolding neighbour
    ends =
        let x1 : s1 ≡ cond (eqb u.n1 k) w0 w1 = h1 ∙ ap (λ n. cond (eqb n k) w0 w1) f1 in
        h0 ∙ (λ i. cond (eqb (f0 i) k) w2 (x1 i))

    chosen : cond (eqb r0 b) (eqb s0 a) false ≡ shares_back u k p q
    unfolding shares_back
    chosen = (λ i. cond (eqb (begins i) b) (eqb (ends i) a) false) ∙ one_of (eqb u.n0 k) (eqb u.n1 k) (eqb u.n2 k)

    pub names_not : (r0 ≡ b → ⊥) → false ≡ shares_back u k p q
    names_not x = sym (sym chosen ∙ rw (ne_eqb r0 b x))

    pub names_so : r0 ≡ b → eqb s0 a ≡ shares_back u k p q
    names_so x = sym (sym chosen ∙ rw (eq-eqb r0 b x))

-- ---- a side

pub at_most : (b : Bool) → cond b 1 0 ≤ 1
at_most true = omega arith
at_most false = omega arith

module _ (rows : List (List ℤ)) (k n : ℕ) where
  abbrev side : Pt → Pt → Bool
  side p q = shares_edge (rows_mesh rows) k n p q

  -- n is before k
  module _ (l : n < k) where
    pub side_before : k < length rows → (p q : Pt) → shares_back (row_triangle (get_or rows n [])) k p q ≡ side p q
    unfolding shares_edge
    side_before h p q = sym (rw (lt-ltb n k l, triangle_row rows n (omega arith)))

    pub one_before : (x : ℕ) → x + 1 ≡ x + cond (names_before k n) 1 0
    one_before x = rw (lt-ltb n k l)

    pub none_after : (x : ℕ) → x ≡ x + cond (names_after k n) 1 0
    none_after x = rw (lt-ltb n k l) (omega arith)

  -- or not
  module _ (l : k ≤ n) where
    pub side_after : (p q : Pt) → true ≡ side p q
    unfolding shares_edge
    side_after p q = rw (le-ltb n k l)

    pub none_before : (x : ℕ) → x ≡ x + cond (names_before k n) 1 0
    none_before x = rw (le-ltb n k l) (omega arith)

    pub some_after : (x : ℕ) → x + cond (not (eqb n none)) 1 0 ≡ x + cond (names_after k n) 1 0
    some_after x = rw (le-ltb n k l)

-- a side adds at most one to either count
pub few_more : {m : Mesh} {k n a b : ℕ} {s r : Seen} → Counted m k n a b s r → (r.before ≤ s.before + 1) × (r.after ≤ s.after + 1)
few_more {k = k} {n} c = (omega (arith, c.before, at_most (names_before k n)), omega (arith, c.after, at_most (names_after k n)))

-- ---- a row

module _ (rows : List (List ℤ)) (k : ℕ) (h : k < length rows) where
  abbrev m : Mesh
  m = rows_mesh rows

  abbrev t : Triangle
  t = row_triangle (get_or rows k [])

  abbrev Row : Seen → Seen → Type 0
  Row s r = RowCounted m k (triangle_at m k) s r

  here : {s r : Seen} → RowCounted m k t s r → Row s r
  here {s} {r} = subst (λ u. RowCounted m k u s r) (sym (triangle_row rows k h))

  -- a side was counted whose number named and whose ends are known
  pub record Looked (n : ℕ) (x y : Pt) (s r : Seen) : Type 0 where
    pub shared : r.shared ≡ shares_edge m k n x y
    pub before : r.before ≡ s.before + cond (names_before k n) 1 0
    pub after : r.after ≡ s.after + cond (names_after k n) 1 0

  pub looked : {n n' a b : ℕ} {x y : Pt} {s r : Seen} → n ≡ n' → Packs x a → Packs y b → Counted m k n a b s r → Looked n' x y s r
  looked {x = x} {y} {s} {r} e p q c = subst (λ i. Looked i x y s r) e (record { shared = c.shared x y p q; before = c.before; after = c.after })

  module _ {s s0 : Seen} (a : Looked (neighbour t 0) (vertex t 1) (vertex t 2) s s0) where
    pub row_first : not s0.shared ≡ true → Row s s0
    unfolding shares_all neighbour vertex
    row_first z =
        let e = not-true s0.shared z in
        here (record { shared = e ∙ sym (rw (sym a.shared ∙ e)); before = λ f. differ (sym e ∙ f); after = λ f. differ (sym e ∙ f) })

    module _ (z0 : not s0.shared ≡ false) {s1 : Seen} (b : Looked (neighbour t 1) (vertex t 2) (vertex t 0) s0 s1) where
      pub row_second : not s1.shared ≡ true → Row s s1
      unfolding shares_all neighbour vertex
      row_second z =
          let e = not-true s1.shared z in
          here (record { shared = e ∙ sym (rw (sym a.shared ∙ not-false s0.shared z0, sym b.shared ∙ e)); before = λ f. differ (sym e ∙ f); after = λ f. differ (sym e ∙ f) })

      pub row_third : not s1.shared ≡ false → {r : Seen} → Looked (neighbour t 2) (vertex t 0) (vertex t 1) s1 r → Row s r
      unfolding shares_all sides_with neighbour vertex
      row_third z c =
          here (record {
            shared = c.shared ∙ sym (rw (sym a.shared ∙ not-false s0.shared z0, sym b.shared ∙ not-false s1.shared z));
            before = λ f. omega (arith, a.before, b.before, c.before);
            after = λ f. omega (arith, a.after, b.after, c.after);
          })
