-- A mesh as it is lent: a row of nine numbers a triangle, six coordinates (x, y of the three
-- points) and three neighbours, whose 32 bits are read unsigned, so that none, 4,294,967,295, is
-- -1. Assumes nothing.
use Rattle.std.specs.Prelude.{◌≡◌, true, List, map, ℕ, ◌*◌, get_or, ℤ, pos}
use Rattle.integers.specs.Word.{unsigned}
use Rattle.plane.specs.Plane.{on_grid}
use Rattle.mesh.specs.Mesh.{Triangle, Mesh, vertex}

-- how many numbers a row has, and how many bytes those take: a record of the mesh file
abbrev pub row_width : ℕ
row_width = 9

abbrev pub row_bytes : ℕ
row_bytes = 4 * row_width

abbrev pub number : List ℤ → ℕ → ℤ
number row k = get_or row k (pos 0)

unfoldable pub row_triangle : List ℤ → Triangle
row_triangle row = record {
  v0 = record { x = number row 0; y = number row 1 };
  v1 = record { x = number row 2; y = number row 3 };
  v2 = record { x = number row 4; y = number row 5 };
  n0 = unsigned (number row 6);
  n1 = unsigned (number row 7);
  n2 = unsigned (number row 8);
}

unfoldable pub rows_mesh : List (List ℤ) → Mesh
rows_mesh rows = map row_triangle rows

-- every vertex of a row is on the grid: what the code that computes with a row asks
pub record RowOnGrid (row : List ℤ) : Type 0 where
  pub on : (i : ℕ) → on_grid (vertex (row_triangle row) i) ≡ true
