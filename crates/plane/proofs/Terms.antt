-- The terms of specs/Plane.antt over the ring solver's expressions, for its calls: `cross_e` is
-- `cross`, and so on. A use: `ring (pt ∷ pt ∷ []) (λ a b. cross_e a b :≡ :neg (cross_e b a)) tt`.
-- Assumes nothing.
use lib.IntN.{pos}
use Rattle.integers.specs.Pair.{XY}
use Rattle.integers.proofs.Ring.{Expr, con, ◌:+◌, ◌:-◌, ◌:*◌, :neg}

abbrev pub PtE : Type 0
PtE = XY Expr

abbrev pub OE : PtE
OE = record { x = con (pos 0); y = con (pos 0) }

infixl 65 ◌+E◌ ◌-E◌
abbrev pub ◌+E◌ : PtE → PtE → PtE
a +E b = record { x = a.x :+ b.x; y = a.y :+ b.y }

abbrev pub ◌-E◌ : PtE → PtE → PtE
a -E b = record { x = a.x :- b.x; y = a.y :- b.y }

abbrev pub neg_e : PtE → PtE
neg_e a = record { x = :neg a.x; y = :neg a.y }

abbrev pub cross_e : PtE → PtE → Expr
cross_e a b = a.x :* b.y :- a.y :* b.x

abbrev pub dot_e : PtE → PtE → Expr
dot_e a b = a.x :* b.x :+ a.y :* b.y

abbrev pub rot_e : PtE → PtE
rot_e a = record { x = :neg a.y; y = a.x }

abbrev pub area_two_e : PtE → PtE → PtE → Expr
area_two_e a b c = cross_e (b -E a) (c -E a)

abbrev pub turn_e : PtE → PtE → PtE → Expr
turn_e a b c = cross_e (b -E a) (c -E b)
