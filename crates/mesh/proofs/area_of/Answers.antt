-- `mesh::area_of` meets its contract. Assumes nothing.
use mathlib.Core.Path.{◌≡◌, sym, ◌∙◌, ap, subst}
use mathlib.Core.Bool.{true}
use lib.IntN.{ℤ}
use mir.Syntax.{w64}
use Rattle.integers.proofs.Bits.{got}
use Rattle.plane.specs.declared.IntPoint.{IntPoint}
use Rattle.plane.specs.Plane.{Pt, on_grid, area_two}
use Rattle.plane.specs.Machine.{point, OnGrid, CrossSize}
use Rattle.plane.proofs.Size.{on_grid_both}
use Rattle.mesh.specs.Mesh.{Triangle, vertex, triangle_area}
use borrow.Author.Rules.{rules}
use Rattle.mesh.proofs.area_of.Goals as goal

on_grid_of : {p : IntPoint} {q : Pt} → point p ≡ q → on_grid q ≡ true → OnGrid p
on_grid_of {p} e h = let b = on_grid_both (point p) (ap on_grid e ∙ h) in record { x_small = b.0; y_small = b.1 }

area : (t : Triangle) {a b c : Pt} → a ≡ vertex t 0 → b ≡ vertex t 1 → c ≡ vertex t 2 → area_two a b c ≡ triangle_area t
unfolding vertex
area t e f g = λ i. area_two (e i) (f i) (g i)

pub area_two-requires : goal.area_two-requires
area_two-requires c = let g = c.requires.on in
    (on_grid_of c.vertex_of.ensures (g 0), on_grid_of c.vertex_of-2.ensures (g 1), on_grid_of c.vertex_of-3.ensures (g 2))

pub returns : goal.returns
returns c = let e = c.area_two.ensures in
    let g = got w64 c.area_two.result c.area_two.type_inv in
    (g ∙ e.0 ∙ area _ c.vertex_of.ensures c.vertex_of-2.ensures c.vertex_of-3.ensures, subst CrossSize (sym g) e.1)
