-- `pair_merge::put_sum` meets its contract: the sum stored is a corner put. Assumes nothing.
use mathlib.Core.Path.{◌≡◌, ◌∙◌, ap}
use native.Mathlib.Omega.{arith}
use lib.IntN.{ℤ, ◌+ℤ◌}
use mir.Syntax.{w32}
use mir.Val.{to_z, of_z}
use Rattle.integers.proofs.Ring.{◌:+◌}
use Rattle.integers.proofs.Sizes.{fits}
use Rattle.integers.proofs.Bits.{kept}
use mathlib.Core.List.{[], ◌∷◌}
use Rattle.plane.specs.Plane.{◌+ᵖ◌}
use Rattle.plane.specs.Machine.{Coordinate}
use Rattle.plane.proofs.Size.{coordinate_fits}
use Rattle.corners.specs.Corners.{with_corner}
use Rattle.corners.proofs.Corners.{length_points}
use Rattle.points.specs.Points.{corner_in}
use Rattle.pair_merge.proofs.Placing.{put_one}
use Rattle.pair_merge.proofs.put_sum.Goals as goal

-- the sum of two coordinates as the code holds them
added : {x y u v : ℤ} → Coordinate x → Coordinate y → x ≡ u → y ≡ v → to_z w32 (of_z w32 (to_z w32 (of_z w32 x) +ℤ to_z w32 (of_z w32 y))) ≡ u +ℤ v
added h k f g = (λ i. to_z w32 (of_z w32 (kept (coordinate_fits h) i +ℤ kept (coordinate_fits k) i))) ∙ kept (fits w32 (1073741823 ∷ 1073741823 ∷ []) (λ x y. x :+ y) tt _ h _ k) ∙ (λ i. f i +ℤ g i)

pub put_corner-requires : goal.put_corner-requires
put_corner-requires c = omega (arith, length_points c.args.out.now, c.requires.4)

pub returns : goal.returns
returns c = let p = c.point_at-p.ensures in
    let q = c.point_at-q.ensures in
    let ex = added p.1.x_small q.1.x_small (ap (λ c. c.x) p.0) (ap (λ c. c.x) q.0) in
    let ey = added p.1.y_small q.1.y_small (ap (λ c. c.y) p.0) (ap (λ c. c.y) q.0) in
    put_one (corner_in c.args.a.now c.args.i +ᵖ corner_in c.args.b.now c.args.j) c.requires.4
    (c.put_corner.ensures ∙ (λ i. with_corner c.args.out.now c.args.k (record { x = ex i; y = ey i })))
