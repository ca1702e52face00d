-- Two walks merged (document 01, "Walking a pair"): which walk steps, one corner, the end, and the
-- contour of a pair. Assumes nothing.
use Rattle.std.specs.Prelude.{Bool, true, false, cond, List, [], ◌∷◌, ℕ, zero, suc, ◌+◌, eqb, length}
use Rattle.std.specs.declared.cmp.Ordering.TheVariants.{Less, Equal, Greater}
use Rattle.plane.specs.Plane.{Pt, ◌+ᵖ◌, is_zero, angle_cmp, is_equal, is_greater}
use Rattle.pair.specs.declared.ConvexSum.{ConvexSum}
use Rattle.pair.specs.Walk.{begin, point_of, edge_of, advance}

-- ---- which walk steps

-- the walk that steps next, and its edge; none where neither has a step left
pub data Pick : Type 0 where
  none : Pick
  first : Pt → Pick
  second : Pt → Pick

-- "A zero edge steps without effect and before any comparison, the first operand's first"; "The
-- lesser edge steps; the first operand steps on equality."
unfoldable pub lesser : Pt → Pt → Pick
lesser a b = cond (is_zero a) (first a) (cond (is_zero b) (second b) (cond (is_greater (angle_cmp a b)) (second b) (first a)))

-- a walk with no step left stands still while the other steps
unfoldable pub next_step : List Pt → List Pt → ConvexSum → Pick
next_step A B s =
    cond (eqb s.a.remaining 0) (cond (eqb s.b.remaining 0) none (second (edge_of B s.b)))
    (cond (eqb s.b.remaining 0) (first (edge_of A s.a)) (lesser (edge_of A s.a) (edge_of B s.b)))

abbrev pub step_first : List Pt → ConvexSum → ConvexSum
step_first A s = record { a = advance (length A) s.a; b = s.b }

abbrev pub step_second : List Pt → ConvexSum → ConvexSum
step_second B s = record { a = s.a; b = advance (length B) s.b }

-- ---- one edge of the pair: "Equal directions merge into one edge."

-- the direction of the edge begun, if there is one
pub data Heading : Type 0 where
  unset : Heading
  along : Pt → Heading

-- where the steps stop, and the direction they went
pub record Run : Type 0 where
  pub heading : Heading
  pub at : ConvexSum

-- whether an edge belongs to the one begun: a zero edge does, and any does where none is begun
unfoldable pub belongs : Heading → Pt → Bool
belongs unset e = true
belongs (along d) e = cond (is_zero e) true (is_equal (angle_cmp d e))

-- the direction after it
unfoldable pub headed : Heading → Pt → Heading
headed unset e = cond (is_zero e) unset (along e)
headed (along d) e = along d

-- steps while the next edge belongs to the one begun; n is how many steps are left at the most
unfoldable pub run : ℕ → List Pt → List Pt → Heading → ConvexSum → Run
run zero A B h s = record { heading = h; at = s }
run (suc n) A B h s =
    elim (next_step A B s) [
      | none ↦ record { heading = h; at = s }
      | first e ↦ cond (belongs h e) (run n A B (headed h e) (step_first A s)) (record { heading = h; at = s })
      | second e ↦ cond (belongs h e) (run n A B (headed h e) (step_second B s)) (record { heading = h; at = s })
    ]

abbrev pub steps_left : ConvexSum → ℕ
steps_left s = s.a.remaining + s.b.remaining

-- ---- one corner, or the end: "with no nonzero edge left it tells the end"

pub data Emitted : Type 0 where
  corner : Pt → ConvexSum → Emitted
  end : ConvexSum → Emitted

abbrev pub sum_point : List Pt → List Pt → ConvexSum → Pt
sum_point A B s = point_of A s.a +ᵖ point_of B s.b

abbrev pub emitted_by : Pt → Run → Emitted
emitted_by p r = elim r.heading [ unset ↦ end r.at | along d ↦ corner p r.at ]

unfoldable pub pair_step : List Pt → List Pt → ConvexSum → Emitted
pair_step A B s = emitted_by (sum_point A B s) (run (steps_left s) A B unset s)

-- ---- the contour of a pair: what the steps emit

unfoldable pub emit : ℕ → List Pt → List Pt → ConvexSum → List Pt
emit zero A B s = []
emit (suc n) A B s = elim (pair_step A B s) [ corner p t ↦ p ∷ emit n A B t | end t ↦ [] ]

-- both walks at their starts; "a reflected walk" for the second of a difference
abbrev pub start_of : Bool → List Pt → List Pt → ConvexSum
start_of reflected A B = record { a = begin false A; b = begin reflected B }

-- "a pair that emits nothing has an empty contour", and so has a pair with an empty contour
unfoldable pub pair_contour : Bool → List Pt → List Pt → List Pt
pair_contour reflected [] B = []
pair_contour reflected (p ∷ A) [] = []
pair_contour reflected (p ∷ A) (q ∷ B) = emit (steps_left (start_of reflected (p ∷ A) (q ∷ B))) (p ∷ A) (q ∷ B) (start_of reflected (p ∷ A) (q ∷ B))
