-- A path as C lends it: a row an item, its kind and the bits of two f64. Assumes nothing.
use Rattle.std.specs.Prelude.{◌≡◌, true, cond, List, map, ℕ, ◌+◌, ◌<◌, eqb, length, get_or, Float}
use Rattle.std.specs.Float.{nan, binary64}
use Rattle.std.specs.Float.Ieee.{of_bits}
use Rattle.path.specs.declared.PathItem.{PathItem}
use Rattle.path.specs.declared.PathItem.TheVariants.{Move, Line, Horizontal, Vertical, RelativeLine, Close}
use Rattle.path.specs.Path.{closes}

-- number k of a row
abbrev pub number_at : List ℕ → ℕ → Float
number_at row k = of_bits binary64 (get_or row k 0)

-- "An item is one of these kinds with the millimetres it carries": move 0, line 1, horizontal 2,
-- vertical 3, relative line 4, close 5. Any other kind is an item out of place: a move to what is
-- no number is refused as such, with 14, wherever it stands
unfoldable pub item_of : List ℕ → PathItem
item_of row =
    let kind = get_or row 0 0 in
    let x = number_at row 1 in
    let y = number_at row 2 in
    cond (eqb kind 0) (Move x y)
    (cond (eqb kind 1) (Line x y)
    (cond (eqb kind 2) (Horizontal x)
    (cond (eqb kind 3) (Vertical y)
    (cond (eqb kind 4) (RelativeLine x y)
    (cond (eqb kind 5) Close (Move nan nan))))))

unfoldable pub items_of : List (List ℕ) → List PathItem
items_of rows = map item_of rows

-- item n, behind a first one, is the last, and a close
pub record Ended (is : List PathItem) (n : ℕ) : Type 0 where
  pub behind : 0 < n
  pub last : n + 1 ≡ length is
  pub close : closes (get_or is n Close) ≡ true
