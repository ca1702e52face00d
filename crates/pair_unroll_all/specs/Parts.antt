-- All parts of a table unrolled, one after another: what it asks (`Unrollables`) and what it leaves
-- (`AllUnrolled`); a part of a table (`PartAt`). Assumes nothing.
use Rattle.std.specs.Prelude.{◌≡◌, Bool, false, ℕ, ◌+◌, ◌/◌, ◌≤◌, ◌<◌, ◌^◌, length, get_or, ℤ}
use mathlib.Core.List.{List, [], map, flatten}
use Rattle.plane.specs.Plane.{Pt}
use Rattle.corners.specs.Corners.{off_range}
use Rattle.table.specs.Table.{table_parts, table_broken, part_count}
use Rattle.points.specs.declared.Tally.{Tally}
use Rattle.points.specs.Gathered.{PartsAppended}
use Rattle.pair_points.specs.Points.{unrolled}
use Rattle.minkowski.specs.Pairs.{some_winding_leaves}

abbrev pub unrolled_parts : Bool → List (List Pt) → List (List Pt)
unrolled_parts reflected ps = map (unrolled reflected) ps

-- n walks in a buffer, which end where the next one begins
abbrev pub tally_at : List ℕ → ℕ → Tally
tally_at firsts n = record { parts = n; corners = get_or firsts n 0 }

-- part p of a sound table, with room after the first `from` points for its corners and one more
pub record PartAt (starts : List ℕ) (corners : List ℤ) (p : ℕ) (points : List (List ℤ)) (from : ℕ) : Type 0 where
  pub whole : table_broken starts corners ≡ false
  pub ranged : off_range corners ≡ false
  pub inside : p < part_count starts
  pub room : from + length (get_or (table_parts starts corners) p []) < length points

-- a sound table, with room after the first `done` walks for its corners and one point more a part,
-- and for as many starts; every place has a number of 32 bits
pub record Unrollables (starts : List ℕ) (corners : List ℤ) (done : ℕ) (points : List (List ℤ)) (firsts : List ℕ) : Type 0 where
  pub whole : table_broken starts corners ≡ false
  pub ranged : off_range corners ≡ false
  pub for_points : get_or firsts done 0 + length corners / 2 + part_count starts ≤ length points
  pub for_firsts : done + length starts ≤ length firsts
  pub small : length points < 2 ^ 32

-- whether some winding leaves 64 bits (fault 8); where none does, all parts are there unrolled
-- after the first `done` walks
pub record AllUnrolled (reflected : Bool) (ps : List (List Pt)) (done : ℕ) (points : List (List ℤ)) (firsts : List ℕ) (points' : List (List ℤ)) (firsts' : List ℕ) (leaves : Bool) : Type 0 where
  pub told : leaves ≡ some_winding_leaves reflected ps
  pub appended : leaves ≡ false → PartsAppended (unrolled_parts reflected ps) firsts points (tally_at firsts done) firsts' points' (record { parts = done + length ps; corners = get_or firsts done 0 + length (flatten (unrolled_parts reflected ps)) })
