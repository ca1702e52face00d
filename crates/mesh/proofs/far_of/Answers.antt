-- `mesh::far_of` meets its contract: the code's tests are those of `opposite`. Assumes nothing.
use mathlib.Core.Path.{◌≡◌, sym, ◌∙◌, ap}
use Prim.Native.Nat.{ℕ}
use borrow.Author.Rules.{rules}
use borrow.Author.Tests.{eq-eqb, ne_eqb}
use Rattle.plane.specs.Plane.{Pt}
use Rattle.mesh.specs.Mesh.{Triangle, vertex, neighbour, after, before, opposite}
use Rattle.mesh.proofs.far_of.Goals as goal

module _ (t : Triangle) (n : ℕ) where
  first : {r : ℕ} → r ≡ neighbour t 0 → r ≡ n → ◌≡◌ {A = ℕ} 0 (opposite t n)
  unfolding opposite neighbour
  first e h = rw (eq-eqb t.n0 n (sym e ∙ h))

  second : {r s : ℕ} → r ≡ neighbour t 0 → (r ≡ n → ⊥) → s ≡ neighbour t 1 → s ≡ n → ◌≡◌ {A = ℕ} 1 (opposite t n)
  unfolding opposite neighbour
  second e d f h = rw (ne_eqb t.n0 n (λ k. d (e ∙ k)), eq-eqb t.n1 n (sym f ∙ h))

  third : {r s : ℕ} → r ≡ neighbour t 0 → (r ≡ n → ⊥) → s ≡ neighbour t 1 → (s ≡ n → ⊥) → ◌≡◌ {A = ℕ} 2 (opposite t n)
  unfolding opposite neighbour
  third e d f g = rw (ne_eqb t.n0 n (λ k. d (e ∙ k)), ne_eqb t.n1 n (λ k. g (f ∙ k)))

  -- seen over side v
  over : {v : ℕ} {p : Pt} {a b : ℕ} → v ≡ opposite t n → p ≡ vertex t v → a ≡ neighbour t (after v) → b ≡ neighbour t (before v) → (p ≡ vertex t (opposite t n)) × (a ≡ neighbour t (after (opposite t n))) × (b ≡ neighbour t (before (opposite t n)))
  over e f g h = (f ∙ ap (vertex t) e, g ∙ ap (λ i. neighbour t (after i)) e, h ∙ ap (λ i. neighbour t (before i)) e)

pub returns-then-n0-n : goal.returns-then-n0-n
unfolding after
returns-then-n0-n c = over _ _ (first _ _ c.neighbor_of-n0.ensures c.if-n0-n.true) c.vertex_of.ensures c.neighbor_of-n1.ensures c.neighbor_of-n2.ensures

pub returns-then-n1-n : goal.returns-then-n1-n
unfolding after
returns-then-n1-n c = over _ _ (second _ _ c.neighbor_of-n0.ensures c.if-n0-n.false c.neighbor_of-n1.ensures c.if-n1-n.true) c.vertex_of-then-n1-n.ensures c.neighbor_of-n2.ensures c.neighbor_of-n0.ensures

pub returns : goal.returns
unfolding after
returns c = over _ _ (third _ _ c.neighbor_of-n0.ensures c.if-n0-n.false c.neighbor_of-n1.ensures c.if-n1-n.false) c.vertex_of-2.ensures c.neighbor_of-n0.ensures c.neighbor_of-n1.ensures
