-- Points, vectors and directions of the plane over ℤ (document 01, "Joining", "Walking a pair").
-- Assumes nothing.
use Rattle.std.specs.Prelude.{Bool, true, false, cond, ℤ, pos, negsuc, neg_ℤ, ◌+ℤ◌, ◌-ℤ◌, ◌*ℤ◌}
use Rattle.std.specs.Int.Signed.{le_z, lt_z}
use Rattle.integers.specs.Pair.{XY}
use Rattle.integers.specs.Test.{eq_z}
use Rattle.std.specs.declared.cmp.Ordering.{Ordering}
use Rattle.std.specs.declared.cmp.Ordering.TheVariants.{Less, Equal, Greater}

-- A point of the grid, or the vector from one point to another.
abbrev pub Pt : Type 0
Pt = XY ℤ

-- The origin, and the zero vector.
abbrev pub O : Pt
O = record { x = pos 0; y = pos 0 }

-- "strictly between −2^30 and 2^30" (fault 2)
unfoldable pub in_range : ℤ → Bool
in_range z = cond (le_z z (negsuc 1073741823)) false (lt_z z (pos 1073741824))

unfoldable pub on_grid : Pt → Bool
on_grid p = cond (in_range p.x) (in_range p.y) false

infixl 65 ◌+ᵖ◌ ◌-ᵖ◌
abbrev pub ◌+ᵖ◌ : Pt → Pt → Pt
a +ᵖ b = record { x = a.x +ℤ b.x; y = a.y +ℤ b.y }

abbrev pub ◌-ᵖ◌ : Pt → Pt → Pt
a -ᵖ b = record { x = a.x -ℤ b.x; y = a.y -ℤ b.y }

-- "A reflected walk negates points and edges."
abbrev pub negᵖ : Pt → Pt
negᵖ a = record { x = neg_ℤ a.x; y = neg_ℤ a.y }

abbrev pub cross : Pt → Pt → ℤ
cross a b = a.x *ℤ b.y -ℤ a.y *ℤ b.x

-- "u times x plus v times y"
abbrev pub dot : Pt → Pt → ℤ
dot a b = a.x *ℤ b.x +ℤ a.y *ℤ b.y

-- A quarter turn to the left.
abbrev pub rot : Pt → Pt
rot a = record { x = neg_ℤ a.y; y = a.x }

-- The doubled area of a triangle: above 0 where a, b, c run counter-clockwise.
abbrev pub area_two : Pt → Pt → Pt → ℤ
area_two a b c = cross (b -ᵖ a) (c -ᵖ a)

-- "A turn is the cross of the edge into a corner and the edge out of it": at b, from a to c.
abbrev pub turn : Pt → Pt → Pt → ℤ
turn a b c = cross (b -ᵖ a) (c -ᵖ b)

abbrev pub eq_pt : Pt → Pt → Bool
eq_pt a b = cond (eq_z a.x b.x) (eq_z a.y b.y) false

unfoldable pub is_zero : Pt → Bool
is_zero v = cond (eq_z v.x (pos 0)) (eq_z v.y (pos 0)) false

-- "Directions run from angle 0 up to a full turn: y above 0, or y = 0 with x not below 0, comes
-- first": whether v is not among those.
unfoldable pub lower : Pt → Bool
lower v = cond (lt_z v.y (pos 0)) true (cond (lt_z (pos 0) v.y) false (lt_z v.x (pos 0)))

-- A positive cross is before, a negative one after.
unfoldable pub by_cross : ℤ → Ordering
by_cross k = cond (lt_z (pos 0) k) Less (cond (lt_z k (pos 0)) Greater Equal)

abbrev pub by_halves : Bool → Bool → ℤ → Ordering
by_halves false false k = by_cross k
by_halves false true k = Less
by_halves true false k = Greater
by_halves true true k = by_cross k

-- "within a half, a positive cross": the direction of u against that of v.
unfoldable pub angle_cmp : Pt → Pt → Ordering
angle_cmp u v = by_halves (lower u) (lower v) (cross u v)

abbrev pub is_less : Ordering → Bool
is_less Less = true
is_less Equal = false
is_less Greater = false

abbrev pub is_equal : Ordering → Bool
is_equal Less = false
is_equal Equal = true
is_equal Greater = false

abbrev pub is_greater : Ordering → Bool
is_greater Less = false
is_greater Equal = false
is_greater Greater = true
