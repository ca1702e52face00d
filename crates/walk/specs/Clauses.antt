-- What each call on walks promises of its answer: that it is the defined one, its number and its
-- values as document 01 has them ("Where an answer is an enum, a definition gives this paper's
-- number and values for each case of the enum"), and what holds of what the papers leave free: a
-- begun walk's ends where it is no segment, and where a segment's walk that stands at neither end
-- steps. Assumes nothing.
use Rattle.std.specs.Prelude.{◌≡◌, Bool, true, false, cond, List, [], ◌∷◌, ℕ, zero, suc, ◌<◌, eqb, length, ℤ}
use Rattle.plane.specs.Plane.{Pt}
use Rattle.corners.specs.Corners.{points_of}
use Rattle.pair.specs.declared.Place.{Place}
use Rattle.pair.specs.declared.ConvexSum.{ConvexSum}
use Rattle.pair.specs.Walk.{begin, point_of, edge_of, advance}
use Rattle.pair.specs.Pair.{steps_left, start_of, Emitted, corner, end, pair_step}
use Rattle.pair.specs.Demand.{handed, live}
use Rattle.walk.specs.declared.Begun.{Begun}
use Rattle.walk.specs.declared.Pointed.{Pointed}
use Rattle.walk.specs.declared.Edged.{Edged}
use Rattle.walk.specs.declared.Advanced.{Advanced}
use Rattle.walk.specs.declared.Stepped.{Stepped}
use Rattle.walk.specs.declared.Paired.{Paired}
use Rattle.walk.specs.declared.Next.{Next}
use Rattle.walk.specs.declared.Next.TheVariants as next
use Rattle.walk.specs.Calls.{misplaced, begin_fault, begun_of, point_fault, pointed_of, step_fault, edged_of, advanced_of, stepped_of, pair_begin_fault, paired_of, pair_step_fault, pair_stepped_of, begun_number, begun_place, pointed_number, pointed_point, edged_number, edged_edge, advanced_number, advanced_place, stepped_number, stepped_edge, stepped_place, paired_number, paired_places, next_number, next_corner, next_places}

-- a value that is given where there is no fault
abbrev pub if_sound : {A : Type 0} → ℕ → A → List A
if_sound f a = cond (eqb f 0) (a ∷ []) []

-- ---- what the papers leave free

-- the ends of a walk begun, where it is no segment: where it begins
pub record Flat (w : Place) : Type 0 where
  pub start : w.segment ≡ false → w.start ≡ w.index
  pub end : w.segment ≡ false → w.end ≡ w.index

-- a segment's walk steps to its start from its end, and from any corner that is neither
abbrev pub Strays : ℕ → Place → Type 0
Strays n w = w.segment ≡ true → (w.index ≡ w.start → ⊥) → (advance n w).index ≡ w.start

-- ---- a walk

pub record BegunBy (l : List ℤ) (reflected : Bool) (r : Begun) : Type 0 where
  pub answer : r ≡ begun_of l reflected
  pub number : begun_number r ≡ begin_fault l reflected
  pub place : begun_place r ≡ if_sound (begin_fault l reflected) (begin reflected (points_of l))
  pub free : Flat (begin reflected (points_of l))

pub record PointedBy (l : List ℤ) (w : Place) (r : Pointed) : Type 0 where
  pub answer : r ≡ pointed_of l w
  pub number : pointed_number r ≡ point_fault l w
  pub point : pointed_point r ≡ if_sound (point_fault l w) (point_of (points_of l) w)

pub record EdgedBy (l : List ℤ) (w : Place) (r : Edged) : Type 0 where
  pub answer : r ≡ edged_of l w
  pub number : edged_number r ≡ step_fault l w
  pub edge : edged_edge r ≡ if_sound (step_fault l w) (edge_of (points_of l) w)
  pub free : Strays (length (points_of l)) w

-- whatever place is handed in: an accepted one moves along the contour, a step fewer left, and a
-- refused one comes back
pub record MovedBy (l : List ℤ) (w t : Place) : Type 0 where
  pub place : t ≡ cond (eqb (step_fault l w) 0) (advance (length (points_of l)) w) w
  pub stays : step_fault l w ≡ 0 → misplaced (length (points_of l)) t ≡ false
  pub fewer : step_fault l w ≡ 0 → w.remaining ≡ suc t.remaining
  pub free : Strays (length (points_of l)) w

pub record AdvancedBy (l : List ℤ) (w : Place) (r : Advanced) : Type 0 where
  pub answer : r ≡ advanced_of l w
  pub number : advanced_number r ≡ step_fault l w
  pub moves : MovedBy l w (advanced_place r)

pub record SteppedBy (l : List ℤ) (w : Place) (r : Stepped) : Type 0 where
  pub answer : r ≡ stepped_of l w
  pub number : stepped_number r ≡ step_fault l w
  pub edge : stepped_edge r ≡ if_sound (step_fault l w) (edge_of (points_of l) w)
  pub moves : MovedBy l w (stepped_place r)

-- ---- a pair

pub record PairedBy (reflected : Bool) (l r : List ℤ) (a : Paired) : Type 0 where
  pub answer : a ≡ paired_of reflected l r
  pub number : paired_number a ≡ pair_begin_fault reflected l r
  pub places : paired_places a ≡ if_sound (pair_begin_fault reflected l r) (start_of reflected (points_of l) (points_of r))
  pub free : Flat (begin false (points_of l)) × Flat (begin reflected (points_of r))

-- the place after k steps
unfoldable pub after_steps : ℕ → ℕ → Place → Place
after_steps zero n w = w
after_steps (suc k) n w = after_steps k n (advance n w)

-- a walk run out: the edges that it had left, all zero, are stepped over, and it has no step left
pub record RunOut (l : List Pt) (w t : Place) : Type 0 where
  pub idle : live (handed w.remaining l w) ≡ []
  pub over : t ≡ after_steps w.remaining (length l) w
  pub done : t.remaining ≡ 0

-- the corner emitted, none at the end, and where both walks then stand
abbrev pub emitted_corner : Emitted → List Pt
emitted_corner (corner p t) = p ∷ []
emitted_corner (end t) = []

abbrev pub emitted_places : Emitted → ConvexSum
emitted_places (corner p t) = t
emitted_places (end t) = t

-- whatever places are handed in: both walks stay on their contours, fewer steps left at each
-- corner; the end is told where both have run out
pub record NextBy (l r : List ℤ) (s : ConvexSum) (a : Next) : Type 0 where
  pub answer : a ≡ pair_stepped_of l r s
  pub number : next_number a ≡ pair_step_fault l r s
  pub corner : next_corner a ≡ cond (eqb (pair_step_fault l r s) 0) (emitted_corner (pair_step (points_of l) (points_of r) s)) []
  pub places : next_places a ≡ cond (eqb (pair_step_fault l r s) 0) (emitted_places (pair_step (points_of l) (points_of r) s)) s
  pub stays : pair_step_fault l r s ≡ 0 → (misplaced (length (points_of l)) (next_places a).a ≡ false) × (misplaced (length (points_of r)) (next_places a).b ≡ false)
  pub fewer : (next_corner a ≡ [] → ⊥) → steps_left (next_places a) < steps_left s
  pub ends : (t : ConvexSum) → a ≡ next.End t → RunOut (points_of l) s.a t.a × RunOut (points_of r) s.b t.b
  pub free : Strays (length (points_of l)) s.a × Strays (length (points_of r)) s.b
