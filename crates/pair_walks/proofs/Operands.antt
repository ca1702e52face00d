-- Walks in a buffer have their firsts (`walks_enough`). Those of two operands: how many each has
-- (`lefts_count`, `rights_count`) and which they are (`left_walk`, `right_walk`), those of two
-- lists one after the other (`both_lefts`, `both_rights`); how many contours their pairs have
-- (`contours_count`); a row of merges and all rows in pieces. Assumes nothing.
use mathlib.Core.Path.{◌≡◌, sym, ◌∙◌, ap, ap₂}
use mathlib.Core.List.{List, [], ◌∷◌, ◌++◌, map, map-append, flatten, append-nil}
use Prim.Native.Nat.{ℕ, suc, ◌+◌, ◌*◌, ◌<◌}
use native.Mathlib.Nat.{suc-mul}
use native.Mathlib.Numerals.{add-one}
use native.Mathlib.Omega.{arith}
use lib.ListN.{length, get_or, take, drop, length-append, length-drop, length-map, take-append-drop}
use lib.Seq.{length-take-le, get_or-take, get_or-drop, take-suc, drop-cons, take-append_seam, drop-append_seam}
use lib.IntN.{ℤ}
use Rattle.integers.proofs.Sums.{flatten_append}
use Rattle.plane.specs.Plane.{Pt}
use Rattle.points.proofs.Reading.{enough_starts}
use Rattle.pair_points.specs.Points.{merged_of}
use Rattle.pair_walks.specs.Walks.{walks_in, Walks, lefts_in, rights_in, merged_row, merged_all, contours_in, walk_in}

-- one more first than walks
pub walks_enough : {firsts : List ℕ} {points : List (List ℤ)} {n : ℕ} → Walks firsts points n → n < length firsts
walks_enough {firsts} {points} {n} w = enough_starts firsts points (record { parts = n; corners = get_or firsts n 0 }) (walks_in firsts points n) w.gathered

-- ---- each operand's

module _ (firsts : List ℕ) (points : List (List ℤ)) (left right : ℕ) where
  pub left_walk : {p : ℕ} → p < left → get_or (lefts_in firsts points left right) p [] ≡ walk_in firsts points (left + right) p
  left_walk {p} h = get_or-take left (walks_in firsts points (left + right)) p [] h

  pub right_walk : (q : ℕ) → get_or (rights_in firsts points left right) q [] ≡ walk_in firsts points (left + right) (left + q)
  right_walk q = get_or-drop left (walks_in firsts points (left + right)) q []

  module _ (w : Walks firsts points (left + right)) where
    pub lefts_count : length (lefts_in firsts points left right) ≡ left
    lefts_count = length-take-le left (walks_in firsts points (left + right)) (omega (arith, w.gathered.parts))

    pub rights_count : length (rights_in firsts points left right) ≡ right
    rights_count = omega (arith, length-drop left (walks_in firsts points (left + right)), w.gathered.parts)

  -- lists ls and rs, one after the other
  module _ (ls rs : List (List Pt)) (l : length ls ≡ left) (e : walks_in firsts points (left + right) ≡ ls ++ rs) where
    pub both_lefts : lefts_in firsts points left right ≡ ls
    both_lefts = ap₂ take (sym l) e ∙ take-append_seam ls rs

    pub both_rights : rights_in firsts points left right ≡ rs
    both_rights = ap₂ drop (sym l) e ∙ drop-append_seam ls rs

-- ---- how many contours

-- R for each left walk
length_all : (ls rs : List (List Pt)) → length (merged_all ls rs) ≡ length ls * length rs
unfolding flatten
length_all [] rs = omega arith
length_all (a ∷ ls) rs =
    omega (arith, length-append (map (merged_of a) rs) (merged_all ls rs), length-map rs (merged_of a), length_all ls rs, suc-mul (length ls) (length rs))

pub contours_count : {firsts : List ℕ} {points : List (List ℤ)} (left right : ℕ) → Walks firsts points (left + right) → length (contours_in firsts points left right) ≡ left * right
contours_count {firsts} {points} left right w =
    length_all (lefts_in firsts points left right) (rights_in firsts points left right) ∙ ap₂ ◌*◌ (lefts_count firsts points left right w) (rights_count firsts points left right w)

-- ---- rows and all pairs in pieces

module _ (a : List Pt) (rs : List (List Pt)) {q : ℕ} (h : q < length rs) where
  pub row_suc : merged_row a (take (q + 1) rs) ≡ merged_row a (take q rs) ++ (merged_of a (get_or rs q []) ∷ [])
  row_suc = ap (λ n. merged_row a (take n rs)) (add-one q) ∙ ap (merged_row a) (take-suc rs q [] h) ∙ map-append (merged_of a) (take q rs) (get_or rs q [] ∷ [])

  pub row_whole : merged_row a rs ≡ merged_row a (take q rs) ++ ((merged_of a (get_or rs q []) ∷ []) ++ merged_row a (drop (suc q) rs))
  row_whole = ap (merged_row a) (sym (take-append-drop q rs)) ∙ map-append (merged_of a) (take q rs) (drop q rs) ∙ ap (λ l. merged_row a (take q rs) ++ merged_row a l) (drop-cons rs q [] h)

module _ (ls rs : List (List Pt)) {p : ℕ} (h : p < length ls) where
  all_append : (x y : List (List Pt)) → merged_all (x ++ y) rs ≡ merged_all x rs ++ merged_all y rs
  all_append x y = ap flatten (map-append (λ a. merged_row a rs) x y) ∙ flatten_append (map (λ a. merged_row a rs) x) (map (λ a. merged_row a rs) y)

  pub all_suc : merged_all (take (p + 1) ls) rs ≡ merged_all (take p ls) rs ++ merged_row (get_or ls p []) rs
  unfolding flatten
  all_suc =
      ap (λ n. merged_all (take n ls) rs) (add-one p) ∙ ap (λ l. merged_all l rs) (take-suc ls p [] h) ∙ all_append (take p ls) (get_or ls p [] ∷ [])
      ∙ ap (λ l. merged_all (take p ls) rs ++ l) (append-nil (merged_row (get_or ls p []) rs))

  pub all_whole : merged_all ls rs ≡ merged_all (take p ls) rs ++ (merged_row (get_or ls p []) rs ++ merged_all (drop (suc p) ls) rs)
  unfolding flatten
  all_whole = ap (λ l. merged_all l rs) (sym (take-append-drop p ls)) ∙ all_append (take p ls) (drop p ls) ∙ ap (λ l. merged_all (take p ls) rs ++ merged_all l rs) (drop-cons ls p [] h)
