-- What joining promises, as specs/Joining.antt states it: demand 2's "before any split each
-- triangle is taken into exactly one part" (`each_taken_once`), with the mesh's area (`area_kept`);
-- that a part starts with the last vertex added and has no corner of turn 0 (`each_straightened`);
-- that the parts are a table within the limits (`parts_table`). Assumes nothing.
use mathlib.Core.Path.{◌≡◌}
use mathlib.Core.Bool.{true, false}
use mathlib.Core.List.{List, [], ◌∷◌}
use native.Mathlib.Omega.{arith}
use lib.ListN.{get_or}
use lib.IntN.{ℤ, pos}
use lib.Signed.{lt_z}
use Rattle.integers.specs.Lists.{neighbours}
use Rattle.integers.specs.Test.{eq_z}
use Rattle.integers.proofs.Order.{by_test, zarith}
use Rattle.integers.proofs.Tests.{<-lt_z, lt_z_true, eq_z_true}
use Rattle.integers.proofs.Elements.{all_map}
use Rattle.plane.specs.Plane.{Pt, O, cross}
use Rattle.plane.specs.Contour.{edges}
use Rattle.table.proofs.Rules.{limits_sound}
use Rattle.convex.specs.Joining.{from_last, contour_of, parts, first_turn, EachTakenOnce, PartsArea, EachStraightened, PartsTable}
use Rattle.convex.proofs.Regions.{regions_once}
use Rattle.convex.proofs.Newest.{Sharp, region_sharp}
use Rattle.convex.proofs.Whole.{all_regions}
use Rattle.convex.proofs.Parts.{part_first, all_taken, parts_convex, parts_area}
use Rattle.convex.proofs.Sizes.{parts_few, parts_size, parts_short}
use Rattle.mesh.proofs.Accepted.{accepted}

pub each_taken_once : EachTakenOnce
each_taken_once m h = record { once = regions_once m (accepted m h); areas = all_taken (accepted m h) }

pub area_kept : PartsArea
area_kept m h = parts_area (accepted m h)

sharp_first : (l : List Pt) → Sharp l → lt_z (pos 0) (first_turn l) ≡ true
unfolding first_turn
sharp_first [] h = absurd h
sharp_first (p ∷ []) h = absurd h
sharp_first (p ∷ c ∷ l) h = <-lt_z h

pub each_straightened : EachStraightened
each_straightened m h =
    let ok = accepted m h in
    record {
      first = all_regions m (λ r. lt_z (pos 0) (first_turn (from_last r.contour)) ≡ true) (λ seen k l. sharp_first _ (region_sharp m ok seen k l));
      stays = all_regions m (λ r. get_or (contour_of r) 0 O ≡ get_or (from_last r.contour) 0 O) (part_first ok);
      turns = all_map (parts m) (λ l s. all_map (neighbours (edges l)) (λ t g. above_0 (cross t.0 t.1) g) s.left) (parts_convex ok);
    }
  where
    above_0 : (z : ℤ) → lt_z (pos 0) z ≡ true → eq_z z (pos 0) ≡ false
    above_0 z g = by_test (eq_z z (pos 0)) (λ e. absurd (omega (zarith, lt_z_true (pos 0) z g, eq_z_true z (pos 0) e))) (λ e. e)

pub parts_table : PartsTable
parts_table m h =
    let ok = accepted m h in
    limits_sound (record {
      parts = omega (arith, parts_few ok, ok.few);
      corners = omega (arith, parts_size ok, ok.few);
      contours = parts_short ok;
    })
