-- Contours put one after another: one (`pairs_one`), none, some and then more (`pairs_none`,
-- `pairs_then`), room for the next (`room_next`), all from the first on (`all_put`); a turn of a
-- row and of all rows (`row_room`, `row_more`, `all_room`, `all_more`), and their ends (`row_done`,
-- `all_done`). Assumes nothing.
use mathlib.Core.Path.{◌≡◌, refl, sym, ◌∙◌, ap, subst}
use mathlib.Core.List.{List, [], ◌∷◌, ◌++◌, flatten, append_assoc, append-nil}
use Prim.Native.Nat.{ℕ, suc, ◌+◌, ◌≤◌, ◌<◌, ◌^◌}
use native.Mathlib.Numerals.{add-one}
use native.Mathlib.Omega.{arith}
use lib.ListN.{length, get_or, set, take, drop, length-append, length-drop, length-set}
use lib.Seq.{take_all}
use lib.IntN.{ℤ}
use Rattle.integers.specs.Lists.{overlay}
use Rattle.integers.proofs.Overlay.{overlay_eq, overlay_nil, overlay_turn}
use Rattle.integers.proofs.Sums.{length_flatten_append}
use Rattle.plane.specs.Plane.{Pt}
use Rattle.corners.specs.Corners.{numbers_of}
use Rattle.table.specs.Table.{starts_from, starts_of, corners_of}
use Rattle.table.proofs.Parts.{length_starts}
use Rattle.points.proofs.Gathering.{flatten_more, starts_more}
use Rattle.pair_points.specs.Points.{merged_of}
use Rattle.pair_merge.specs.Putting.{RoomAfter, CornersPut}
use Rattle.pair_walks.specs.Walks.{merged_row, merged_all}
use Rattle.pair_walks.proofs.Operands.{row_suc, row_whole, all_suc, all_whole}
use Rattle.minkowski_rows.specs.Rows.{PairsRoom, PairsPut, AllPut}

-- ---- one contour

-- its corners put, and the start after it
pub pairs_one :
    {p : List Pt} (starts : List ℕ) (n : ℕ) {out : List ℤ} {k : ℕ} {starts' : List ℕ} {out' : List ℤ} {k' : ℕ} → n + 1 < length starts → CornersPut p out k out' k' → starts' ≡ set starts (n + 1) k' →
    PairsPut (p ∷ []) starts n out k starts' (n + 1) out' k'
pairs_one {p} starts n {out} {k} {starts'} {out'} {k'} h a e = record {
  starts_size = ap length e ∙ length-set starts (n + 1) k';
  out_size = a.size;
  contours = refl;
  corners = omega (arith, a.count, one p);
  written = written;
}
  where
    one : (p : List Pt) → length (flatten (p ∷ [])) ≡ length p
    one p = unfold flatten in ap length (append-nil p)

    written : (done : List (List Pt)) (s : List ℕ) (c : List ℤ) → length done ≡ n → length (flatten done) ≡ k → starts ≡ overlay (starts_of done) s → out ≡ overlay (corners_of done) c →
        (starts' ≡ overlay (starts_of (done ++ (p ∷ []))) s) × (out' ≡ overlay (corners_of (done ++ (p ∷ []))) c)
    written done s c d f u v =
        let size : length (starts_of done) ≡ n + 1 = length_starts done ∙ sym (add-one (length done)) ∙ ap (λ m. m + 1) d in
        let room : n + 1 < length s = omega (arith, ap length (u ∙ overlay_eq (starts_of done) s), length-append (starts_of done) (drop (length (starts_of done)) s), length-drop (length (starts_of done)) s) in
        let count : k' ≡ length (flatten done ++ p) = omega (arith, a.count, f, length-append (flatten done) p) in (
          e ∙ overlay_turn (starts_of done) s k' u size room ∙ (λ i. overlay (starts_of done ++ (count i ∷ [])) s) ∙ ap (λ l. overlay l s) (sym (starts_more done p)),
          a.written (flatten done) c f (v ∙ corners_of_lem done c) ∙ ap (λ l. overlay (numbers_of l) c) (sym (flatten_more done p)) ∙ sym (corners_of_lem (done ++ (p ∷ [])) c),
        )
      where
        corners_of_lem : (ps : List (List Pt)) (c : List ℤ) → overlay (corners_of ps) c ≡ overlay (numbers_of (flatten ps)) c
        corners_of_lem ps c = unfold corners_of in refl

-- ---- some, and then more

pub pairs_none : (starts : List ℕ) (n : ℕ) (out : List ℤ) (k : ℕ) → PairsPut [] starts n out k starts n out k
unfolding flatten
pairs_none starts n out k = record {
  starts_size = refl;
  out_size = refl;
  contours = omega arith;
  corners = omega arith;
  written = λ done s c d f u v. (u ∙ ap (λ l. overlay (starts_of l) s) (sym (append-nil done)), v ∙ ap (λ l. overlay (corners_of l) c) (sym (append-nil done)));
}

pub pairs_then :
    {x y : List (List Pt)} {s s' s'' : List ℕ} {n n' n'' : ℕ} {o o' o'' : List ℤ} {k k' k'' : ℕ} → PairsPut x s n o k s' n' o' k' → PairsPut y s' n' o' k' s'' n'' o'' k'' →
    PairsPut (x ++ y) s n o k s'' n'' o'' k''
pairs_then {x} {y} {s'' = s''} {o'' = o''} a b = record {
  starts_size = b.starts_size ∙ a.starts_size;
  out_size = b.out_size ∙ a.out_size;
  contours = omega (arith, a.contours, b.contours, length-append x y);
  corners = omega (arith, a.corners, b.corners, length_flatten_append x y);
  written = λ done t c d f u v.
      let w = a.written done t c d f u v in
      let z = b.written (done ++ x) t c (omega (arith, d, a.contours, length-append done x)) (omega (arith, f, a.corners, length_flatten_append done x)) w.0 w.1 in
      (z.0 ∙ ap (λ l. overlay (starts_of l) t) (append_assoc done x y), z.1 ∙ ap (λ l. overlay (corners_of l) c) (append_assoc done x y));
}

-- room for the next ones
pub room_next :
    {x : List (List Pt)} (y z : List (List Pt)) {s s' : List ℕ} {n n' : ℕ} {o o' : List ℤ} {k k' : ℕ} → PairsRoom (x ++ (y ++ z)) s n o k → PairsPut x s n o k s' n' o' k' → PairsRoom y s' n' o' k'
room_next {x} y z r a =
    let e = length-append x (y ++ z) in
    let f = length-append y z in
    let g = length_flatten_append x (y ++ z) in
    let h = length_flatten_append y z in
    record {
      for_starts = omega (arith, r.for_starts, a.contours, a.starts_size, e, f);
      for_corners = omega (arith, r.for_corners, a.corners, a.out_size, g, h);
      small = omega (arith, r.small, a.corners, g, h);
    }

-- from the first on, once the first start is 0
pub all_put :
    {ps : List (List Pt)} (s : List ℕ) {c : List ℤ} {s₀ s' : List ℕ} {c' : List ℤ} {n k : ℕ} → 0 < length s → s₀ ≡ set s 0 0 → PairsPut ps s₀ 0 c 0 s' n c' k → AllPut ps s c s' c' k
unfolding starts_of starts_from corners_of numbers_of flatten
all_put s {c} h e a =
    let w = a.written [] s c refl refl (e ∙ overlay_turn [] s 0 (sym (overlay_nil s)) refl h) (sym (overlay_nil c)) in
    record { starts = w.0; corners = w.1; count = a.corners ∙ omega arith }

-- ---- a turn of a row, and of all rows

-- room for one contour is room for its corners, and its end has a number of 32 bits
module _ {p : List Pt} {s : List ℕ} {n : ℕ} {o : List ℤ} {k : ℕ} (r : PairsRoom (p ∷ []) s n o k) where
  length_one : length (flatten (p ∷ [])) ≡ length p
  length_one = unfold flatten in ap length (append-nil p)

  pub one_room : RoomAfter p o k
  one_room = omega (arith, r.for_corners, length_one)

  pub one_small : {o' : List ℤ} {k' : ℕ} → CornersPut p o k o' k' → k' < 2 ^ 32
  one_small a = omega (arith, r.small, a.count, length_one)

-- b is right walk q, and a left walk p
module _ {s s' : List ℕ} {n n' : ℕ} {o o' : List ℤ} {k k' : ℕ} where
  pub row_room : (a : List Pt) (rs : List (List Pt)) {q : ℕ} {b : List Pt} → q < length rs → get_or rs q [] ≡ b → PairsRoom (merged_row a rs) s n o k → PairsPut (merged_row a (take q rs)) s n o k s' n' o' k' → PairsRoom (merged_of a b ∷ []) s' n' o' k'
  row_room a rs {q} h e r p =
      subst (λ l. PairsRoom (merged_of a l ∷ []) s' n' o' k') e
      (room_next (merged_of a (get_or rs q []) ∷ []) (merged_row a (drop (suc q) rs)) (subst (λ l. PairsRoom l s n o k) (row_whole a rs h) r) p)

  pub row_more : (a : List Pt) (rs : List (List Pt)) {q : ℕ} {b : List Pt} {s'' : List ℕ} {m m' : ℕ} {o'' : List ℤ} {k'' : ℕ} → q < length rs → get_or rs q [] ≡ b → PairsPut (merged_row a (take q rs)) s n o k s' n' o' k' → PairsPut (merged_of a b ∷ []) s' n' o' k' s'' m o'' k'' → m ≡ m' → PairsPut (merged_row a (take (q + 1) rs)) s n o k s'' m' o'' k''
  row_more a rs {q} {b} {s''} {m} {m'} {o''} {k''} h d p one e =
      subst (λ j. PairsPut (merged_row a (take (q + 1) rs)) s n o k s'' j o'' k'') e
      (subst (λ l. PairsPut l s n o k s'' m o'' k'') (sym (row_suc a rs h ∙ ap (λ l. merged_row a (take q rs) ++ (merged_of a l ∷ [])) d)) (pairs_then p one))

  pub all_room : (ls rs : List (List Pt)) {p : ℕ} {a : List Pt} → p < length ls → get_or ls p [] ≡ a → PairsRoom (merged_all ls rs) s n o k → PairsPut (merged_all (take p ls) rs) s n o k s' n' o' k' → PairsRoom (merged_row a rs) s' n' o' k'
  all_room ls rs {p} h e r u =
      subst (λ l. PairsRoom (merged_row l rs) s' n' o' k') e
      (room_next (merged_row (get_or ls p []) rs) (merged_all (drop (suc p) ls) rs) (subst (λ l. PairsRoom l s n o k) (all_whole ls rs h) r) u)

  pub all_more : (ls rs : List (List Pt)) {p : ℕ} {a : List Pt} {s'' : List ℕ} {m : ℕ} {o'' : List ℤ} {k'' : ℕ} → p < length ls → get_or ls p [] ≡ a → PairsPut (merged_all (take p ls) rs) s n o k s' n' o' k' → PairsPut (merged_row a rs) s' n' o' k' s'' m o'' k'' → PairsPut (merged_all (take (p + 1) ls) rs) s n o k s'' m o'' k''
  all_more ls rs {p} {a} {s''} {m} {o''} {k''} h e u row =
      subst (λ l. PairsPut l s n o k s'' m o'' k'') (sym (all_suc ls rs h ∙ ap (λ l. merged_all (take p ls) rs ++ merged_row l rs) e)) (pairs_then u row)

-- a row with all its walks
pub row_done : (a : List Pt) (rs : List (List Pt)) {q : ℕ} {s s' : List ℕ} {n m : ℕ} {o o' : List ℤ} {k k' : ℕ} → q ≡ m → m ≡ length rs → PairsPut (merged_row a (take q rs)) s n o k s' (n + q) o' k' → PairsPut (merged_row a rs) s n o k s' (n + m) o' k'
row_done a rs {q} {s} {s'} {n} {m} {o} {o'} {k} {k'} e f p =
    subst (λ j. PairsPut (merged_row a rs) s n o k s' (n + j) o' k') e
    (subst (λ l. PairsPut (merged_row a l) s n o k s' (n + q) o' k') (take_all q rs (omega (arith, e, f))) p)

-- of equal contours
pub put_equal : {x y : List Pt} {o o' : List ℤ} {k k' : ℕ} → x ≡ y → CornersPut x o k o' k' → CornersPut y o k o' k'
put_equal {o = o} {o'} {k} {k'} e p = subst (λ l. CornersPut l o k o' k') e p

-- the room is the same once the first start is put
pub room_resized : {ps : List (List Pt)} {s : List ℕ} {s₀ : List ℕ} {n : ℕ} {o : List ℤ} {k : ℕ} → s₀ ≡ set s 0 0 → PairsRoom ps s n o k → PairsRoom ps s₀ n o k
room_resized {s} e r = record { for_starts = omega (arith, r.for_starts, ap length e, length-set s 0 0); for_corners = r.for_corners; small = r.small }

-- all rows
pub all_done : (ls rs : List (List Pt)) (p : ℕ) (s : List ℕ) {c : List ℤ} {s₀ s' : List ℕ} {c' : List ℤ} {n k : ℕ} → length ls ≤ p → 0 < length s → s₀ ≡ set s 0 0 → PairsPut (merged_all (take p ls) rs) s₀ 0 c 0 s' n c' k → AllPut (merged_all ls rs) s c s' c' k
all_done ls rs p s {c} {s₀} {s'} {c'} {n} {k} e h f a = all_put s h f (subst (λ l. PairsPut (merged_all l rs) s₀ 0 c 0 s' n c' k) (take_all p ls e) a)
