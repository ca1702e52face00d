-- One contour's parts: the contour whole is one run of its corners (`whole_run`); which split its
-- length and the strategy give (`split_whole`, `split_past`); about its centre where that serves,
-- else its fan (`centre_at`, `centre_unserved`). Assumes nothing.
use mathlib.Core.Path.{◌≡◌, refl, sym, ap, subst}
use mathlib.Core.Bool.{Bool, true, false, cond}
use mathlib.Core.List.{List, [], ◌∷◌}
use Prim.Native.Nat.{ℕ, ◌≤◌, ◌<◌}
use native.Mathlib.Omega.{arith}
use borrow.Author.Tests.{le-leb, lt-leb}
use lib.ListN.{length, length-map}
use lib.Seq.{take_all}
use lib.IntN.{ℤ}
use Rattle.plane.specs.Plane.{Pt}
use Rattle.plane.specs.declared.IntPoint.{IntPoint}
use Rattle.plane.specs.Machine.{point, OnGrid}
use Rattle.plane.proofs.Size.{on_grid_both}
use Rattle.points.specs.Points.{corner_of, corner_in, Appended, corners_in}
use Rattle.points.specs.declared.Tally.{Tally}
use Rattle.points.specs.Gathered.{RoomFor, PartsAppended}
use Rattle.split.specs.declared.ConvexSplitStrategy.{ConvexSplitStrategy}
use Rattle.split.specs.Splitting.{centre_serves, centroid_parts, centred_parts, fan_parts, split_by, split_contour}
use Rattle.std.specs.Prelude.{Some, None}
use Rattle.split_centre.specs.Centre.{Summable, rounded_centre, grid_point, centre_found}
use Rattle.split_centre.proofs.Range.{centre_on_grid}
use Rattle.split_chords.specs.Runs.{run_of}

pub whole_run : (contour : List (List ℤ)) {p p' : List (List ℤ)} {n n' : ℕ} → Appended (run_of contour 0 (length contour)) p n p' n' → Appended (corners_in contour) p n p' n'
whole_run contour {p} {p'} {n} {n'} a = subst (λ l. Appended l p n p' n') (take_all (length contour) (corners_in contour) (omega (arith, length-map contour corner_of))) a

module _ (how : ConvexSplitStrategy) (m : ℕ) (contour : List (List ℤ)) where
  corner_count : length (corners_in contour) ≡ length contour
  corner_count = length-map contour corner_of

  pub split_whole : length contour ≤ m → split_contour how m (corners_in contour) ≡ corners_in contour ∷ []
  unfolding split_contour
  split_whole h = rw (le-leb (length (corners_in contour)) m (omega (arith, corner_count)))

  pub split_past : m < length contour → split_contour how m (corners_in contour) ≡ split_by how m (corners_in contour)
  unfolding split_contour
  split_past h = rw (lt-leb (length (corners_in contour)) m (omega (arith, corner_count)))

-- ---- about the centre

at_of : (t : Bool) (a : IntPoint) {g : IntPoint} → cond t (Some a) None ≡ Some g → (t ≡ true) × (g ≡ a)
at_of true a e = (refl, cc)
at_of false a e = absurd (let z : ◌≡◌ {A = ℕ} 0 1 = cc in omega arith)

unserved_of : (t : Bool) (a : IntPoint) → cond t (Some a) None ≡ None → t ≡ false
unserved_of true a e = absurd (let z : ◌≡◌ {A = ℕ} 0 1 = cc in omega arith)
unserved_of false a e = refl

-- the parts about a centre that serves
pub centre_at : (m : ℕ) (contour : List (List ℤ)) {g : IntPoint} → 0 < length contour → centre_found (corners_in contour) ≡ Some g → centred_parts m (corners_in contour) ≡ centroid_parts m (point g) (corner_in contour 0) (corners_in contour)
unfolding centre_found centred_parts
centre_at m [] n e = absurd (omega arith)
centre_at m (r ∷ contour) n e =
    let l = corners_in (r ∷ contour) in
    let f = at_of (centre_serves (rounded_centre l) l) (grid_point (rounded_centre l)) e in
    rw f.0 (ap (λ a. centroid_parts m (point a) (corner_of r) l) (sym f.1))

pub centre_grid : (contour : List (List ℤ)) {g : IntPoint} → 0 < length contour → Summable (corners_in contour) → centre_found (corners_in contour) ≡ Some g → OnGrid g
unfolding centre_found
centre_grid [] n h e = absurd (omega arith)
centre_grid (r ∷ contour) n h e =
    let l = corners_in (r ∷ contour) in
    let f = at_of (centre_serves (rounded_centre l) l) (grid_point (rounded_centre l)) e in
    let k = on_grid_both (rounded_centre l) (centre_on_grid h) in
    rw f.1 (record { x_small = k.0; y_small = k.1 })

-- else the fan's
pub centre_unserved : (m : ℕ) (contour : List (List ℤ)) → 0 < length contour → centre_found (corners_in contour) ≡ None → centred_parts m (corners_in contour) ≡ fan_parts m (corners_in contour)
unfolding centre_found centred_parts
centre_unserved m [] n e = absurd (omega arith)
centre_unserved m (r ∷ contour) n e =
    let l = corners_in (r ∷ contour) in
    rw (unserved_of (centre_serves (rounded_centre l) l) (grid_point (rounded_centre l)) e)

-- ---- equal parts

pub same_room : {qs qs' : List (List Pt)} {s : List ℕ} {p : List (List ℤ)} {t : Tally} → qs ≡ qs' → RoomFor s p t qs → RoomFor s p t qs'
same_room {s = s} {p = p} {t = t} e r = subst (RoomFor s p t) e r

pub same_parts : {qs qs' : List (List Pt)} {s s' : List ℕ} {p p' : List (List ℤ)} {t t' : Tally} → qs ≡ qs' → PartsAppended qs s p t s' p' t' → PartsAppended qs' s p t s' p' t'
same_parts {s = s} {s' = s'} {p = p} {p' = p'} {t = t} {t' = t'} e a = subst (λ l. PartsAppended l s p t s' p' t') e a
