-- What a line that is right says fits 32 bits. In order: coordinates; points, neighbours and
-- splits; triangles and the first line. Assumes nothing.
use mathlib.Core.Path.{◌≡◌}
use mathlib.Core.Bool.{true}
use mathlib.Core.List.{List, [], ◌∷◌}
use Prim.Native.Nat.{ℕ, zero, suc, ◌≤◌}
use native.Mathlib.Omega.{arith}
use lib.Dec.{eqb}
use lib.ListN.{drop}
use lib.IntN.{ℤ, pos, negsuc, neg_ℤ}
use mir.Syntax.{w32}
use mir.Val.{SFits}
use Rattle.integers.specs.Word.{unsigned}
use Rattle.integers.proofs.Order.{by_test}
use Rattle.integers.proofs.Tests.{both_true, not_then}
use Rattle.plane.specs.Plane.{Pt}
use Rattle.mesh.specs.Mesh.{Triangle}
use Rattle.table.proofs.Words.{Word}
use Rattle.fields.specs.Fields.{field_of}
use Rattle.field_numbers.specs.Numbers.{value_of, is_number, is_coordinate, coordinate_of, has_minus}
use Rattle.field_numbers.proofs.Readings.{at_most}
use Rattle.mesh_fields.specs.Entries.{same_bytes, is_none, is_number_or_none, number_or_none, is_ear, is_fan, split_of, comma_of, x_text, y_text, is_point, point_read}
use Rattle.mesh_lines.specs.Lines.{is_limit, is_head, are_points, are_neighbours, is_triangle, triangle_of}

-- ---- coordinates

negative_fits : (n : ℕ) → n ≤ 2147483648 → SFits w32 (neg_ℤ (pos n))
negative_fits zero h = record { sfits = omega arith }
negative_fits (suc n) h = record { sfits = omega arith }

positive_fits : {n : ℕ} → n ≤ 2147483647 → SFits w32 (pos n)
positive_fits h = record { sfits = omega arith }

coordinate_fits : (l : List ℕ) → is_coordinate l ≡ true → SFits w32 (coordinate_of l)
unfolding is_coordinate coordinate_of
coordinate_fits l e =
    by_test (has_minus l)
    (λ m. rw m (negative_fits (value_of (drop 1 l)) (at_most 2147483648 (drop 1 l) (rw m at e))))
    (λ m. rw m (positive_fits (at_most 2147483647 l (rw m at e))))

-- the bits of a number that fits
pub unsigned_small : (z : ℤ) → SFits w32 z → Word (unsigned z)
unsigned_small (pos n) h = let k = h.sfits in omega arith
unsigned_small (negsuc n) h = omega arith

-- ---- points, neighbours, splits

-- a point whose coordinates 32 bits hold
pub record PointFits (p : Pt) : Type 0 where
  pub x_fits : SFits w32 p.x
  pub y_fits : SFits w32 p.y

point_fits : (l : List ℕ) → is_point l ≡ true → PointFits (point_read l)
unfolding is_point
point_fits l e =
    let w = both_true (is_coordinate (x_text l)) (is_coordinate (y_text l)) (not_then (eqb (comma_of l) 0) _ e).1 in
    record { x_fits = coordinate_fits (x_text l) w.0; y_fits = coordinate_fits (y_text l) w.1 }

number_small : (l : List ℕ) → is_number 4294967295 l ≡ true → Word (value_of l)
number_small l e = omega (arith, at_most 4294967295 l e)

or_none_small : (l : List ℕ) → is_number_or_none l ≡ true → Word (number_or_none l)
unfolding is_number_or_none number_or_none
or_none_small l e =
    by_test (is_none l)
    (λ n. rw n (omega arith))
    (λ n. rw n (number_small l (rw n at e)))

pub split_small : (l : List ℕ) → split_of l ≤ 2
unfolding split_of
split_small l =
    by_test (is_ear l)
    (λ e. rw e (omega arith))
    (λ e. by_test (is_fan l) (λ f. rw (e, f) (omega arith)) (λ f. rw (e, f) (omega arith)))

-- ---- lines

-- a triangle whose numbers 32 bits hold
pub record TriangleFits (t : Triangle) : Type 0 where
  pub first : PointFits t.v0
  pub next : PointFits t.v1
  pub last : PointFits t.v2
  pub side_0 : Word t.n0
  pub side_1 : Word t.n1
  pub side_2 : Word t.n2

pub triangle_fits : (l : List ℕ) → is_triangle l ≡ true → TriangleFits (triangle_of l)
unfolding is_triangle are_points are_neighbours
triangle_fits l e =
    let a = both_true (are_points l) _ e in
    let p = both_true (is_point (field_of 0 l)) _ a.0 in
    let q = both_true (is_point (field_of 1 l)) (is_point (field_of 2 l)) p.1 in
    let b = both_true (are_neighbours l) _ a.1 in
    let m = both_true (is_number_or_none (field_of 3 l)) _ b.0 in
    let n = both_true (is_number_or_none (field_of 4 l)) (is_number_or_none (field_of 5 l)) m.1 in
    record {
      first = point_fits (field_of 0 l) p.0;
      next = point_fits (field_of 1 l) q.0;
      last = point_fits (field_of 2 l) q.1;
      side_0 = or_none_small (field_of 3 l) m.0;
      side_1 = or_none_small (field_of 4 l) n.0;
      side_2 = or_none_small (field_of 5 l) n.1;
    }

pub limit_small : (l : List ℕ) → is_head l ≡ true → Word (number_or_none (field_of 1 l))
unfolding is_head is_limit
limit_small l e = or_none_small (field_of 1 l) (both_true (same_bytes (field_of 0 l) (108 ∷ 105 ∷ 109 ∷ 105 ∷ 116 ∷ [])) (is_number_or_none (field_of 1 l)) (both_true (is_limit l) _ e).0).1
