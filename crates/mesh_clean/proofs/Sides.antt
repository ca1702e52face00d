-- The sides of a mesh in which every doubled area is above 0 and every edge is shared (`Shared`): a
-- triangle's vertices are three points (`vertices`), so no side names its own triangle
-- (`not_self`), and each names and is named once (`names_once`, `named_back`). Assumes nothing.
use mathlib.Core.Path.{◌≡◌, refl, sym, ◌∙◌, ap}
use mathlib.Core.List.{[], ◌∷◌}
use Prim.Native.Nat.{ℕ, zero, suc, ◌<◌, ◌≤◌}
use native.Mathlib.Omega.{arith}
use borrow.Author.Tests.{eq-eqb, ne_eqb}
use lib.ListN.{length}
use lib.IntN.{pos}
use lib.Signed.{◌<ℤ◌}
use Rattle.integers.proofs.Ring.{con, ◌:≡◌, pt, ring}
use Rattle.integers.proofs.Order.{zarith}
use Rattle.plane.specs.Plane.{Pt, area_two}
use Rattle.plane.proofs.Sides.{area_first, area_ends}
use Rattle.plane.proofs.Terms.{area_two_e}
use Rattle.mesh.specs.Mesh.{Mesh, Triangle, none, vertex, neighbour, after, before, triangle_at, triangle_area, named, opposite, max_triangles}
use Rattle.mesh.proofs.Sides.{after_side, opposite_side}

-- ---- three points

same_last : (a b : Pt) → area_two a b b ≡ pos 0
same_last = ring (pt ∷ pt ∷ []) (λ a b. area_two_e a b b :≡ con (pos 0)) tt

module _ (t : Triangle) (h : pos 0 <ℤ triangle_area t) where
  not_01 : t.v0 ≡ t.v1 → ⊥
  not_01 e = omega (zarith, h, ap (λ p. area_two t.v0 p t.v2) e, area_first t.v0 t.v2)

  not_12 : t.v1 ≡ t.v2 → ⊥
  not_12 e = omega (zarith, h, ap (λ p. area_two t.v0 t.v1 p) e, same_last t.v0 t.v1)

  not_02 : t.v0 ≡ t.v2 → ⊥
  not_02 e = omega (zarith, h, ap (λ p. area_two t.v0 t.v1 p) e, area_ends t.v0 t.v1)

  pub vertices : (i j : ℕ) → i < 3 → j < 3 → vertex t i ≡ vertex t j → i ≡ j
  unfolding vertex
  vertices zero zero k l e = refl
  vertices zero (suc zero) k l e = absurd (not_01 e)
  vertices zero (suc (suc j)) k l e = absurd (not_02 e)
  vertices (suc zero) zero k l e = absurd (not_01 (sym e))
  vertices (suc zero) (suc zero) k l e = refl
  vertices (suc zero) (suc (suc j)) k l e = absurd (not_12 e)
  vertices (suc (suc i)) zero k l e = absurd (not_02 (sym e))
  vertices (suc (suc i)) (suc zero) k l e = absurd (not_12 (sym e))
  vertices (suc (suc i)) (suc (suc j)) k l e = omega arith

-- ---- places of a triangle

pub round : (i : ℕ) → i < 3 → after (before i) ≡ i
unfolding after
round zero h = refl
round (suc zero) h = refl
round (suc (suc zero)) h = refl
round (suc (suc (suc i))) h = absurd (omega arith)

moves : {i : ℕ} → after i ≡ i → ⊥
unfolding after
moves {i = zero} e = omega (arith, e)
moves {i = suc zero} e = omega (arith, e)
moves {i = suc (suc i)} e = omega (arith, e)

-- where no other side has its neighbour, a side's neighbour is named once
alone : (t : Triangle) (i : ℕ) → i < 3 → ((j : ℕ) → j < 3 → neighbour t j ≡ neighbour t i → j ≡ i) → named t (neighbour t i) ≡ 1
unfolding named neighbour
alone t zero h f = rw (eq-eqb t.n0 t.n0 refl, ne_eqb t.n1 t.n0 (λ e. omega (arith, f 1 (omega arith) e)), ne_eqb t.n2 t.n0 (λ e. omega (arith, f 2 (omega arith) e)))
alone t (suc zero) h f = rw (eq-eqb t.n1 t.n1 refl, ne_eqb t.n0 t.n1 (λ e. omega (arith, f 0 (omega arith) e)), ne_eqb t.n2 t.n1 (λ e. omega (arith, f 2 (omega arith) e)))
alone t (suc (suc zero)) h f = rw (eq-eqb t.n2 t.n2 refl, ne_eqb t.n0 t.n2 (λ e. omega (arith, f 0 (omega arith) e)), ne_eqb t.n1 t.n2 (λ e. omega (arith, f 1 (omega arith) e)))
alone t (suc (suc (suc i))) h f = absurd (omega arith)

-- ---- a mesh

-- side i of t, and that of u which names k first: u names k there, and the two run oppositely
pub record Meets (k : ℕ) (t : Triangle) (i : ℕ) (u : Triangle) : Type 0 where
  pub names : neighbour u (opposite u k) ≡ k
  pub begins : vertex t (after i) ≡ vertex u (before (opposite u k))
  pub ends : vertex t (before i) ≡ vertex u (after (opposite u k))

pub record Shared (m : Mesh) : Type 0 where
  pub few : length m ≤ max_triangles
  pub area : (k : ℕ) → k < length m → pos 0 <ℤ triangle_area (triangle_at m k)
  pub in_mesh : (k i : ℕ) → k < length m → i < 3 → (neighbour (triangle_at m k) i ≡ none → ⊥) → neighbour (triangle_at m k) i < length m
  pub meets : (k i : ℕ) → k < length m → i < 3 → (neighbour (triangle_at m k) i ≡ none → ⊥) → Meets k (triangle_at m k) i (triangle_at m (neighbour (triangle_at m k) i))

module _ (m : Mesh) (s : Shared m) where
  -- two sides with one neighbour run from one point, so they are one
  names_once : {k i j : ℕ} → k < length m → i < 3 → j < 3 → (neighbour (triangle_at m k) i ≡ none → ⊥) → neighbour (triangle_at m k) j ≡ neighbour (triangle_at m k) i → j ≡ i
  names_once {k} {i} {j} l hi hj d e =
      let t = triangle_at m k in
      let p : vertex t (after j) ≡ vertex t (after i) = (s.meets k j l hj (λ z. d (sym e ∙ z))).begins ∙ ap (λ n. vertex (triangle_at m n) (before (opposite (triangle_at m n) k))) e ∙ sym (s.meets k i l hi d).begins in
      sym (round j hj) ∙ ap before (vertices t (s.area k l) (after j) (after i) (after_side j) (after_side i) p) ∙ round i hi

  module _ (k i : ℕ) (l : k < length m) (h : i < 3) (d : neighbour (triangle_at m k) i ≡ none → ⊥) where
    abbrev t : Triangle
    t = triangle_at m k

    abbrev n : ℕ
    n = neighbour t i

    pub named_once : named t n ≡ 1
    named_once = alone t i h (λ j g e. names_once l h g d e)

    pub named_back : named (triangle_at m n) k ≡ 1
    named_back =
        let u = triangle_at m n in
        let e = (s.meets k i l h d).names in
        ap (named u) (sym e) ∙ alone u (opposite u k) (opposite_side u k) (λ j g q. names_once (s.in_mesh k i l h d) (opposite_side u k) g (λ z. omega (arith, z, e, s.few)) q)

    -- else a side would run as one of the same triangle does, the other way round
    pub not_self : n ≡ k → ⊥
    not_self e =
        let j = opposite t k in
        let w = ap (triangle_at m) e in
        let p = vertices t (s.area k l) (after i) (before j) (after_side i) (after_side (after j)) ((s.meets k i l h d).begins ∙ ap (λ u. vertex u (before (opposite u k))) w) in
        let q = vertices t (s.area k l) (before i) (after j) (after_side (after i)) (after_side j) ((s.meets k i l h d).ends ∙ ap (λ u. vertex u (after (opposite u k))) w) in
        moves (sym q ∙ ap after p ∙ round j (opposite_side t k))
