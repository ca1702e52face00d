-- All pairs of two operands' walks in order (`InOrder`), each as pair_chains takes it (`pair_at`,
-- `IsPair`), its contour (`pair_contour_at`) and how many edges it has (`edges_at`); the buffers
-- cut to the points in use (`Used`). Assumes nothing.
use Rattle.std.specs.Prelude.{◌≡◌, cond, ℕ, ◌+◌, ◌*◌, ◌-◌, ◌≤◌, ◌<◌, ◌^◌, min, eqb, length, get_or, ℤ}
use mathlib.Core.List.{List, [], map, flatten}
use Rattle.plane.specs.Plane.{Pt}
use Rattle.table.specs.Table.{max_contour}
use Rattle.pair_walks.specs.Walks.{lefts_in, rights_in, contours_in}
use Rattle.pair_numbers.specs.Numbers.{Keyed}
use Rattle.pair_chains.specs.declared.Pair.{Pair}
use Rattle.pair_chains.specs.Chains.{chain_contour, RunsOf, Buffers}
use Rattle.minkowski_order.specs.declared.Place.{Place}
use Rattle.minkowski_order.specs.declared.Next.{Next}

-- ---- pairs

-- two walks from i and j up to m and n
abbrev pub pair_from : ℕ → ℕ → ℕ → ℕ → Pair
pair_from i m j n = cond (eqb i m) (record { i = 0; j = 0; end = 0 }) (cond (eqb j n) (record { i = 0; j = 0; end = 0 }) (record { i = i; j = j; end = m + n - 2 }))

-- left walk p and right walk q, walk left + q of the buffer
unfoldable pub pair_at : List ℕ → ℕ → ℕ → ℕ → Pair
pair_at firsts left p q = pair_from (get_or firsts p 0) (get_or firsts (p + 1) 0) (get_or firsts (left + q) 0) (get_or firsts (left + q + 1) 0)

-- how many edges two walks have, where neither is empty
unfoldable pub edges_of : List Pt → List Pt → ℕ
edges_of a b = cond (eqb (length a) 0) 0 (cond (eqb (length b) 0) 0 (length a + length b - 2))

-- a walk's first places
pub record Between (firsts : List ℕ) (n : ℕ) : Type 0 where
  pub enough : n + 1 < length firsts
  pub rises : get_or firsts n 0 ≤ get_or firsts (n + 1) 0

-- ---- in order

-- while pairs are left, the next is number n: "one contour for each left part and, within it, each
-- right part in order"
pub record InOrder (left right : ℕ) (s : Place) : Type 0 where
  pub next : s.n < left * right → (s.p < left) × (s.q < right) × (s.n ≡ s.p * right + s.q)

-- m pairs on, with k corners
pub record Onward (left right m k : ℕ) (s r : Place) : Type 0 where
  pub order : InOrder left right r
  pub number : r.n ≡ s.n + m
  pub corners : r.k ≡ k

-- ---- contours

abbrev pub pair_contour_at : List ℕ → List (List ℤ) → ℕ → ℕ → ℕ → List Pt
pair_contour_at firsts points left right n = get_or (contours_in firsts points left right) n []

-- the numbers of edges of all pairs in order
abbrev pub edge_counts : List ℕ → List (List ℤ) → ℕ → ℕ → List ℕ
edge_counts firsts points left right = flatten (map (λ a. map (edges_of a) (rights_in firsts points left right)) (lefts_in firsts points left right))

abbrev pub edges_at : List ℕ → List (List ℤ) → ℕ → ℕ → ℕ → ℕ
edges_at firsts points left right n = get_or (edge_counts firsts points left right) n 0

-- a pair has at most 2,052 edges, and no more than there are points
abbrev pub most_edges : List (List ℤ) → ℕ
most_edges points = min (2 * max_contour) (length points)

-- a pair with the contour c and e edges, as pair_chains takes it
pub record PairAs (points : List (List ℤ)) (numbers : List ℕ) (c : List Pt) (e : ℕ) (x : Pair) : Type 0 where
  pub runs : RunsOf points numbers x
  pub contour : chain_contour points numbers x ≡ c
  pub ordered : x.i + x.j ≤ x.end
  pub edges : x.end - (x.i + x.j) ≡ e
  pub short : e ≤ most_edges points

-- pair n
abbrev pub IsPair : List ℕ → List (List ℤ) → List ℕ → ℕ → ℕ → ℕ → Pair → Type 0
IsPair firsts points numbers left right n x = PairAs points numbers (pair_contour_at firsts points left right n) (edges_at firsts points left right n) x

-- the four pairs from s on, and the place after them
pub record FourNext (firsts : List ℕ) (points : List (List ℤ)) (numbers : List ℕ) (left right : ℕ) (s : Place) (r : Next) : Type 0 where
  pub first : IsPair firsts points numbers left right s.n r.x.a
  pub second : IsPair firsts points numbers left right (s.n + 1) r.x.b
  pub third : IsPair firsts points numbers left right (s.n + 2) r.x.c
  pub fourth : IsPair firsts points numbers left right (s.n + 3) r.x.d
  pub place : Onward left right 4 s.k s r.s

-- ---- the buffers

-- those cut to the points in use: every point is on the grid, and each has a number
pub record Used (firsts : List ℕ) (points : List (List ℤ)) (numbers : List ℕ) (left right : ℕ) : Type 0 where
  pub keyed : Keyed firsts points numbers left right
  pub buffers : Buffers points numbers
  pub same : length numbers ≡ length points

-- a work buffer has room for any pair's corners
abbrev pub PairRoom : List (List ℤ) → List ℤ → Type 0
PairRoom points work = 2 * most_edges points ≤ length work

-- ---- places

-- a place among pairs that are left
pub record More (left right m : ℕ) (s : Place) : Type 0 where
  pub order : InOrder left right s
  pub some : s.n + m ≤ left * right
  pub few : left * right < 2 ^ 64
