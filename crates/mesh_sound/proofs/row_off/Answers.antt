-- `mesh_sound::row_off` meets its contract: the code's tests are the definition's. Assumes nothing.
use mathlib.Core.Path.{◌≡◌, sym, ◌∙◌, ap}
use mathlib.Core.Bool.{Bool, true, false, not}
use borrow.Author.Tests.{not-true, not-false}
use Rattle.integers.proofs.Tests.{differ}
use Rattle.plane.specs.Plane.{Pt, on_grid}
use Rattle.mesh.specs.Mesh.{Triangle, vertex, triangle_off}
use Rattle.mesh_sound.proofs.row_off.Goals as goal
use Rattle.mesh_sound.proofs.row_off.Goals.{then-not-on_grid, else-not-on_grid}

-- each answer r is of a point p that is a vertex of t
module _ (t : Triangle) where
  first : {p : Pt} {a : Bool} → a ≡ on_grid p → p ≡ vertex t 0 → a ≡ false → true ≡ triangle_off t
  unfolding vertex
  first {a = a} e f h = rw (ap on_grid (sym f) ∙ sym e ∙ h)

  second : {p q : Pt} {a b : Bool} → a ≡ on_grid p → p ≡ vertex t 0 → a ≡ true → b ≡ on_grid q → q ≡ vertex t 1 → b ≡ false → true ≡ triangle_off t
  unfolding vertex
  second {a = a} {b = b} e f h e' f' h' = rw (ap on_grid (sym f) ∙ sym e ∙ h, ap on_grid (sym f') ∙ sym e' ∙ h')

  third : {p q s : Pt} {a b c : Bool} → a ≡ on_grid p → p ≡ vertex t 0 → a ≡ true → b ≡ on_grid q → q ≡ vertex t 1 → b ≡ true → c ≡ on_grid s → s ≡ vertex t 2 → not c ≡ triangle_off t
  unfolding vertex
  third {a = a} {b = b} e f h e' f' h' e'' f'' = rw (ap on_grid (sym f) ∙ sym e ∙ h, ap on_grid (sym f') ∙ sym e' ∙ h', e'', f'')

pub returns-then-not-on_grid-2 : goal.returns-then-not-on_grid-2
returns-then-not-on_grid-2 c = elim c.if-not-on_grid.branch [
  | then-not-on_grid w ↦ c.if-not-on_grid-2.true ∙ first _ c.on_grid.ensures c.vertex_of.ensures w.if-not-on_grid.true
  | else-not-on_grid w ↦ c.if-not-on_grid-2.true ∙ second _ c.on_grid.ensures c.vertex_of.ensures w.if-not-on_grid.false
      w.on_grid-else-not-on_grid.ensures w.vertex_of-else-not-on_grid.ensures (not-true _ (sym w.value-is ∙ c.if-not-on_grid-2.true))
]

pub returns-else-not-on_grid-2 : goal.returns-else-not-on_grid-2
returns-else-not-on_grid-2 c = elim c.if-not-on_grid.branch [
  | then-not-on_grid w ↦ differ (sym c.if-not-on_grid-2.false ∙ w.value-is ∙ ap not w.if-not-on_grid.true)
  | else-not-on_grid w ↦ third _ c.on_grid.ensures c.vertex_of.ensures w.if-not-on_grid.false
      w.on_grid-else-not-on_grid.ensures w.vertex_of-else-not-on_grid.ensures (not-false _ (sym w.value-is ∙ c.if-not-on_grid-2.false))
      c.on_grid-else-not-on_grid-2.ensures c.vertex_of-else-not-on_grid-2.ensures
]
