-- What a walk that holds its contour promises where it is begun and of its step. Assumes nothing.
use Rattle.std.specs.Prelude.{◌≡◌, Bool, false, cond, List, ℕ, eqb, ℤ}
use Rattle.std.specs.Borrow.{Bor}
use Rattle.corners.specs.Corners.{points_of}
use Rattle.pair.specs.declared.Place.{Place}
use Rattle.pair.specs.Walk as walk
use Rattle.walk.specs.Calls.{begin_fault, step_fault}
use Rattle.walk.specs.Clauses.{Flat, MovedBy}
use Rattle.walk_held.specs.declared.Walk.{Walk}

-- the place of a walk that is refused: it has no step
abbrev pub nowhere : Place
nowhere = record { index = 0; remaining = 0; reverse = false; reflected = false; segment = false; start = 0; end = 0 }

-- the place where a walk begins, with the number that is told
pub record BegunPlace (l : List ℤ) (reflected : Bool) (fault : ℕ) (t : Place) : Type 0 where
  pub number : fault ≡ begin_fault l reflected
  pub place : t ≡ cond (eqb (begin_fault l reflected) 0) (walk.begin reflected (points_of l)) nowhere
  pub free : Flat (walk.begin reflected (points_of l))

-- a walk begun on a contour, the very slice, with the number that is told
pub record BegunWalk (lent : Bor (List ℤ)) (reflected : Bool) (fault : ℕ) (r : Walk) : Type 0 where
  pub contour : r.contour ≡ lent
  pub begins : BegunPlace lent.now reflected fault r.place

-- the walk w advanced, with the number that is told: over the same contour, the very slice; a
-- refused one stands where it stood (`MovedBy`)
pub record AdvancedWalk (w : Walk) (fault : ℕ) (r : Walk) : Type 0 where
  pub contour : r.contour ≡ w.contour
  pub number : fault ≡ step_fault w.contour.now w.place
  pub moves : MovedBy w.contour.now w.place r.place
