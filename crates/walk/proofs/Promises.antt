-- The defined answers keep the promises of specs/Clauses.antt: a walk begun (`begun_by`), its
-- point, its edge, its advance, a step (`pointed_by`, `edged_by`, `advanced_by`, `stepped_by`), a
-- pair begun (`paired_by`). Assumes nothing.
use mathlib.Core.Path.{◌≡◌, refl, sym, ◌∙◌, ap}
use mathlib.Core.Bool.{Bool, true, false, cond, true≢false}
use mathlib.Core.List.{List}
use Prim.Native.Nat.{ℕ, zero, suc}
use native.Mathlib.Omega.{arith}
use borrow.Author.Tests.{ne_eqb}
use lib.Dec.{eqb}
use lib.ListN.{length}
use lib.IntN.{ℤ}
use Rattle.plane.specs.Plane.{Pt}
use Rattle.corners.specs.Corners.{points_of}
use Rattle.pair.specs.declared.Place.{Place}
use Rattle.pair.specs.Walk.{begin, next_index, advance}
use Rattle.pair.proofs.Places.{begin_by}
use Rattle.walk.specs.Calls.{misplaced, begin_fault, begun_of, begun_place, point_fault, pointed_of, pointed_point, step_fault, edged_of, edged_number, edged_edge, advanced_of, advanced_number, advanced_place, stepped_of, stepped_edge, stepped_place, pair_begin_fault, paired_of, paired_number, paired_places}
use Rattle.walk.specs.Clauses.{Flat, Strays, BegunBy, PointedBy, EdgedBy, MovedBy, AdvancedBy, SteppedBy, PairedBy}
use Rattle.walk.proofs.Answers.{choice_number, accepts, begun_number_lem, pointed_number_lem, stepped_number_lem, advance_placed, accepted}

-- a value of an answer chosen by its fault, where each choice has its own
pub choice_value : {A B : Type 0} (value : A → B) (f : ℕ) (good bad : A) → value (cond (eqb f 0) good bad) ≡ cond (eqb f 0) (value good) (value bad)
choice_value value zero good bad = refl
choice_value value (suc f) good bad = rw (ne_eqb (suc f) 0 (omega arith))

-- ---- what the papers leave free

pub begin_flat : (reflected : Bool) (l : List Pt) → Flat (begin reflected l)
begin_flat reflected l =
    begin_by reflected l Flat (λ h. record { start = λ s. refl; end = λ s. refl }) (λ h. record { start = λ s. refl; end = λ s. refl })
    (λ h. record { start = λ s. absurd (true≢false s); end = λ s. absurd (true≢false s) })

pub strays : (n : ℕ) (w : Place) → Strays n w
unfolding advance next_index
strays n w s h = rw (s, ne_eqb w.index w.start h)

-- ---- a walk

pub begun_by : (l : List ℤ) (reflected : Bool) → BegunBy l reflected (begun_of l reflected)
unfolding begun_of
begun_by l reflected = record {
  answer = refl;
  number = begun_number_lem l reflected;
  place = choice_value begun_place (begin_fault l reflected) _ _;
  free = begin_flat reflected (points_of l);
}

pub pointed_by : (l : List ℤ) (w : Place) → PointedBy l w (pointed_of l w)
unfolding pointed_of
pointed_by l w = record {
  answer = refl;
  number = pointed_number_lem l w;
  point = choice_value pointed_point (point_fault l w) _ _;
}

pub edged_by : (l : List ℤ) (w : Place) → EdgedBy l w (edged_of l w)
unfolding edged_of
edged_by l w = record {
  answer = refl;
  number = choice_number edged_number (step_fault l w) refl refl;
  edge = choice_value edged_edge (step_fault l w) _ _;
  free = strays (length (points_of l)) w;
}

moved_by : (l : List ℤ) (w : Place) {t : Place} → t ≡ cond (eqb (step_fault l w) 0) (advance (length (points_of l)) w) w → MovedBy l w t
unfolding advance
moved_by l w {t} e = record {
  place = e;
  stays = λ h. ap (misplaced (length (points_of l))) (went h) ∙ advance_placed (length (points_of l)) w (accepted l w h).placed;
  fewer = λ h. omega (arith, ap (λ p. p.remaining) (went h), (accepted l w h).left);
  free = strays (length (points_of l)) w;
}
  where
    went : step_fault l w ≡ 0 → t ≡ advance (length (points_of l)) w
    went h = e ∙ sym (accepts (advance (length (points_of l)) w) w h)

pub advanced_by : (l : List ℤ) (w : Place) → AdvancedBy l w (advanced_of l w)
unfolding advanced_of
advanced_by l w = record {
  answer = refl;
  number = choice_number advanced_number (step_fault l w) refl refl;
  moves = moved_by l w (choice_value advanced_place (step_fault l w) _ _);
}

pub stepped_by : (l : List ℤ) (w : Place) → SteppedBy l w (stepped_of l w)
unfolding stepped_of
stepped_by l w = record {
  answer = refl;
  number = stepped_number_lem l w;
  edge = choice_value stepped_edge (step_fault l w) _ _;
  moves = moved_by l w (choice_value stepped_place (step_fault l w) _ _);
}

-- ---- a pair

pub paired_by : (reflected : Bool) (l r : List ℤ) → PairedBy reflected l r (paired_of reflected l r)
unfolding paired_of
paired_by reflected l r = record {
  answer = refl;
  number = choice_number paired_number (pair_begin_fault reflected l r) refl refl;
  places = choice_value paired_places (pair_begin_fault reflected l r) _ _;
  free = (begin_flat false (points_of l), begin_flat reflected (points_of r));
}
