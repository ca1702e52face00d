-- A point on the grid, for the code (`on_grid_of`); points appended (`appended_none`,
-- `appended_one`, `appended_more`). Assumes nothing.
use mathlib.Core.Path.{◌≡◌, refl, sym, ◌∙◌, ap}
use mathlib.Core.Bool.{true}
use mathlib.Core.List.{List, [], ◌∷◌, ◌++◌, map, map-append, append_assoc, append-nil}
use Prim.Native.Nat.{ℕ, ◌+◌, ◌<◌}
use native.Mathlib.Numerals.{add-one}
use native.Mathlib.Omega.{arith}
use lib.ListN.{length, set, take, length-append, length-set}
use lib.Seq.{take-suc-set}
use lib.IntN.{ℤ}
use Rattle.plane.specs.declared.IntPoint.{IntPoint}
use Rattle.plane.specs.Plane.{Pt, on_grid}
use Rattle.plane.specs.Machine.{point, OnGrid}
use Rattle.plane.proofs.Size.{on_grid_both}
use Rattle.points.specs.Points.{corner_of, pair_of, first_points, Appended}

pub on_grid_of : {p : IntPoint} {q : Pt} → point p ≡ q → on_grid q ≡ true → OnGrid p
on_grid_of {p} e h = let b = on_grid_both (point p) (ap on_grid e ∙ h) in record { x_small = b.0; y_small = b.1 }

-- ---- points appended

pub appended_none : (points : List (List ℤ)) (n : ℕ) → Appended [] points n points n
appended_none points n = record { size = refl; count = omega arith; written = sym (append-nil (first_points n points)) }

pub appended_one : (points : List (List ℤ)) {n : ℕ} (p : Pt) → n < length points → Appended (p ∷ []) points n (set points n (pair_of p)) (n + 1)
appended_one points {n} p h = record {
  size = length-set points n (pair_of p);
  count = refl;
  written = ap (map corner_of) (ap (λ k. take k (set points n (pair_of p))) (add-one n) ∙ take-suc-set points n (pair_of p) h) ∙ map-append corner_of (take n points) (pair_of p ∷ []);
}

pub appended_more : {a b : List Pt} {p q r : List (List ℤ)} {i j k : ℕ} → Appended a p i q j → Appended b q j r k → Appended (a ++ b) p i r k
appended_more {a} {b} {p} {q} {r} {i} {j} {k} f g = record {
  size = g.size ∙ f.size;
  count = omega (arith, f.count, g.count, length-append a b);
  written = g.written ∙ ap (λ l. l ++ b) f.written ∙ append_assoc (first_points i p) a b;
}
