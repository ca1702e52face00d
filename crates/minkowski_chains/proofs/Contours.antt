-- Contours put one after another, in pieces: room for a piece, and the piece put (`piece_room`,
-- `piece_more`), of one contour (`one_piece`) and of four (`four_piece`); corners in a work buffer
-- (`work_corners_lem`); contours put so far (`put_on`, `to_next`). Assumes nothing.
use mathlib.Core.Path.{◌≡◌, refl, sym, subst₂, ◌∙◌, ap, subst, ap₂}
use mathlib.Core.List.{List, [], ◌∷◌, ◌++◌, flatten, append_assoc}
use Prim.Native.Nat.{ℕ, ◌+◌, ◌*◌, ◌<◌, ◌≤◌, ◌^◌}
use native.Mathlib.Omega.{arith}
use lib.IntN.{ℤ}
use Rattle.plane.specs.Plane.{Pt}
use Rattle.minkowski_rows.specs.Rows.{PairsPut, PairsRoom, AllPut}
use lib.ListN.{length, get_or, take, drop, length-take, set, length-append, length-set, take-append-drop}
use lib.Seq.{take-suc, take_all}
use Rattle.integers.specs.Lists.{overlay}
use Rattle.corners.specs.Corners.{points_of, numbers_of}
use Rattle.pair_merge.specs.Putting.{RoomAfter, CornersPut}
use Rattle.pair_walks.specs.Walks.{contours_in}
use Rattle.pair_numbers.specs.Numbers.{Keyed}
use native.Mathlib.Numerals.{add-one}
use Rattle.integers.proofs.Overlay.{overlay_nil, take_overlay}
use Rattle.corners.proofs.Corners.{points_numbers, length_numbers, length_points}
use Rattle.minkowski_rows.proofs.Pairs.{pairs_none, pairs_then, room_next, all_put}
use Rattle.minkowski_order.specs.declared.Place.{Place}
use Rattle.minkowski_order.specs.Order.{Onward, most_edges, More}
use Rattle.minkowski_chains.specs.Contours.{four_from, work_corners, PairRooms, PutOn, PutTo}
use Rattle.minkowski_order.proofs.Order.{order_start}
use Rattle.minkowski_order.proofs.Cut.{contours_same}

-- ---- contours in pieces

-- the next m of some contours
pub record Piece (ps : List (List Pt)) (n m : ℕ) (c : List (List Pt)) : Type 0 where
  pub more : take (n + m) ps ≡ take n ps ++ c
  pub whole : ps ≡ take n ps ++ (c ++ drop (n + m) ps)

piece_whole : {ps : List (List Pt)} {n m : ℕ} {c : List (List Pt)} → take (n + m) ps ≡ take n ps ++ c → Piece ps n m c
piece_whole {ps} {n} {m} {c} e = record { more = e; whole = sym (take-append-drop (n + m) ps) ∙ ap (λ l. l ++ drop (n + m) ps) e ∙ append_assoc (take n ps) c (drop (n + m) ps) }

take_next : (ps : List (List Pt)) {n : ℕ} → n < length ps → take (n + 1) ps ≡ take n ps ++ (get_or ps n [] ∷ [])
take_next ps {n} h = ap (λ m. take m ps) (add-one n) ∙ take-suc ps n [] h

pub one_piece : {ps : List (List Pt)} {n : ℕ} → n < length ps → Piece ps n 1 (get_or ps n [] ∷ [])
one_piece {ps} {n} h = piece_whole (take_next ps h)

pub four_piece : (ps : List (List Pt)) (n : ℕ) → n + 3 < length ps → Piece ps n 4 (four_from ps n)
four_piece ps n h = piece_whole (
    on (n + 3) (n + 4) (omega arith) (omega arith) ∙ ap (λ l. l ++ (get_or ps (n + 3) [] ∷ [])) (
    on (n + 2) (n + 3) (omega arith) (omega arith) ∙ ap (λ l. l ++ (get_or ps (n + 2) [] ∷ [])) (
    on (n + 1) (n + 2) (omega arith) (omega arith) ∙ ap (λ l. l ++ (get_or ps (n + 1) [] ∷ [])) (take_next ps {n = n} (omega arith))))
    ∙ four (take n ps) (get_or ps n []) (get_or ps (n + 1) []) (get_or ps (n + 2) []) (get_or ps (n + 3) []))
  where
    on : (i j : ℕ) → i + 1 ≡ j → i < length ps → take j ps ≡ take i ps ++ (get_or ps i [] ∷ [])
    on i j e h = ap (λ m. take m ps) (sym e) ∙ take_next ps h

    four : {A : Type 0} (l : List A) (a b c d : A) → (((l ++ (a ∷ [])) ++ (b ∷ [])) ++ (c ∷ [])) ++ (d ∷ []) ≡ l ++ (a ∷ b ∷ c ∷ d ∷ [])
    four l a b c d = simp append_assoc

module _ {ps c : List (List Pt)} {n m : ℕ} (e : Piece ps n m c) {s₀ s : List ℕ} {o₀ o : List ℤ} {k : ℕ} (p : PairsPut (take n ps) s₀ 0 o₀ 0 s n o k) where
  pub piece_room : PairsRoom ps s₀ 0 o₀ 0 → PairsRoom c s n o k
  piece_room r = room_next c (drop (n + m) ps) (subst (λ l. PairsRoom l s₀ 0 o₀ 0) e.whole r) p

  pub piece_more : {s' : List ℕ} {o' : List ℤ} {n' k' : ℕ} → PairsPut c s n o k s' n' o' k' → n' ≡ n + m → PairsPut (take n' ps) s₀ 0 o₀ 0 s' n' o' k'
  piece_more {s'} {o'} {n'} {k'} q f = subst (λ l. PairsPut l s₀ 0 o₀ 0 s' n' o' k') (sym (ap (λ j. take j ps) f ∙ e.more)) (pairs_then p q)

-- ---- the first of some contours

module _ {p : List Pt} {ps : List (List Pt)} {s : List ℕ} {n : ℕ} {o : List ℤ} {k : ℕ} (r : PairsRoom (p ∷ ps) s n o k) where
  length_first : length (flatten (p ∷ ps)) ≡ length p + length (flatten ps)
  unfolding flatten
  length_first = length-append p (flatten ps)

  pub first_room : RoomAfter p o k
  first_room = omega (arith, r.for_corners, length_first)

  pub first_starts : n + 1 < length s
  first_starts = omega (arith, r.for_starts)

  pub first_small : {o' : List ℤ} {k' : ℕ} → CornersPut p o k o' k' → k' < 2 ^ 32
  first_small a = omega (arith, r.small, a.count, length_first)

-- ---- corners in a work buffer

-- those put on its front are its first ones
pub work_corners_lem : {p : List Pt} {w w' : List ℤ} {c : ℕ} → CornersPut p w 0 w' c → work_corners c w' ≡ p
unfolding numbers_of
work_corners_lem {p} {w} {w'} {c} a =
    let e : w' ≡ overlay (numbers_of p) w = a.written [] w refl (sym (overlay_nil w)) in
    let z : 2 * c ≡ length (numbers_of p) = omega (arith, a.count, length_numbers p) in
    ap₂ (λ n l. points_of (take n l)) z e ∙ ap points_of (take_overlay (numbers_of p) w) ∙ points_numbers p

pub work_size : {p : List Pt} {w w' : List ℤ} {c : ℕ} → CornersPut p w 0 w' c → RoomAfter p w 0 → 2 * c ≤ length w'
work_size a r = omega (arith, a.count, a.size, r)

pub corners_count : (c : ℕ) (w : List ℤ) → 2 * c ≤ length w → length (work_corners c w) ≡ c
corners_count c w h = omega (arith, length_points (take (2 * c) w), length-take (2 * c) w)

-- contours put from a work buffer
module _ {p : List Pt} {w w' : List ℤ} {c : ℕ} (a : CornersPut p w 0 w' c) {s : List ℕ} {n : ℕ} {o : List ℤ} {k : ℕ} where
  pub copied_room : PairsRoom (p ∷ []) s n o k → PairsRoom (work_corners c w' ∷ []) s n o k
  copied_room r = subst (λ l. PairsRoom (l ∷ []) s n o k) (sym (work_corners_lem a)) r

  pub copied_put : {s' : List ℕ} {n' : ℕ} {o' : List ℤ} {k' : ℕ} → PairsPut (work_corners c w' ∷ []) s n o k s' (n + 1) o' k' → n + 1 ≡ n' → PairsPut (p ∷ []) s n o k s' n' o' k'
  copied_put {s'} {n'} {o'} {k'} q e = subst (λ m. PairsPut (p ∷ []) s n o k s' m o' k') e (subst (λ l. PairsPut (l ∷ []) s n o k s' (n + 1) o' k') (work_corners_lem a) q)

-- ---- contours put so far

-- contours put, and the place after them
pub put_on :
    {left right : ℕ} {m k : ℕ} {new : List (List Pt)} {s r : Place} {starts starts' : List ℕ} {out out' : List ℤ} → Onward left right m k s r → PairsPut new starts s.n out s.k starts' (s.n + m) out' k →
    PutOn left right m new s starts out r starts' out'
put_on {m} {k} {new} {s} {r} {starts} {starts'} {out} {out'} a p = record {
  place = record { order = a.order; number = a.number; corners = refl };
  put = subst₂ (λ n j. PairsPut new starts s.n out s.k starts' n out' j) (sym a.number) (sym a.corners) p;
}

pub to_start : (left right : ℕ) (ps : List (List Pt)) (starts : List ℕ) (out : List ℤ) → PutTo left right ps starts out (record { p = 0; q = 0; n = 0; k = 0 }) starts out
to_start left right ps starts out = record { order = order_start left right 0; some = omega arith; put = pairs_none starts 0 out 0 }

module _ {left right : ℕ} {ps : List (List Pt)} (e : length ps ≡ left * right) (f : left * right < 2 ^ 64) {s₀ s : List ℕ} {o₀ o : List ℤ} {t : Place} (a : PutTo left right ps s₀ o₀ t s o) where
  -- m pairs are left, and the next contours have room
  pub to_more : {m : ℕ} → t.n + m ≤ left * right → More left right m t
  to_more h = record { order = a.order; some = h; few = f }

  pub to_room : {m : ℕ} {c : List (List Pt)} → Piece ps t.n m c → PairsRoom ps s₀ 0 o₀ 0 → PairsRoom c s t.n o t.k
  to_room p r = piece_room p a.put r

  -- they are put
  pub to_next : {m : ℕ} {c : List (List Pt)} {r : Place} {s' : List ℕ} {o' : List ℤ} → Piece ps t.n m c → t.n + m ≤ left * right → PutOn left right m c t s o r s' o' → PutTo left right ps s₀ o₀ r s' o'
  to_next p h b = record { order = b.place.order; some = omega (arith, b.place.number, h); put = piece_more p a.put b.put b.place.number }

  -- all are put
  pub to_end : {s₁ : List ℕ} → left * right ≤ t.n → 0 < length s₁ → s₀ ≡ set s₁ 0 0 → AllPut ps s₁ o₀ s o t.k
  to_end {s₁} h l z = all_put s₁ l z (subst (λ l. PairsPut l s₀ 0 o₀ 0 s t.n o t.k) (take_all t.n ps (omega (arith, e, h))) a.put)

-- whatever was put before, more is put since
pub record Since (left right : ℕ) (ps : List (List Pt)) (t : Place) (s : List ℕ) (o : List ℤ) (t' : Place) (s' : List ℕ) (o' : List ℤ) : Type 0 where
  pub to : {s₀ : List ℕ} {o₀ : List ℤ} → PutTo left right ps s₀ o₀ t s o → PutTo left right ps s₀ o₀ t' s' o'

-- the room is the same once the first start is put
pub room_started : {ps : List (List Pt)} {s : List ℕ} {s₀ : List ℕ} {o : List ℤ} → s₀ ≡ set s 0 0 → PairsRoom ps s 0 o 0 → PairsRoom ps s₀ 0 o 0
room_started {s} e r = record { for_starts = omega (arith, r.for_starts, ap length e, length-set s 0 0); for_corners = r.for_corners; small = r.small }

-- work buffers that are so long
pub rooms_long : {points : List (List ℤ)} {n : ℕ} → 2 * most_edges points ≤ n → {wb wc wd : List ℤ} → length wb ≡ n → length wc ≡ n → length wd ≡ n → PairRooms points wb wc wd
rooms_long h e f g = record { second = omega (arith, h, e); third = omega (arith, h, f); fourth = omega (arith, h, g) }

-- work buffers of the same lengths have the same room
pub rooms_same : {points : List (List ℤ)} {wb wc wd wb' wc' wd' : List ℤ} → PairRooms points wb wc wd → length wb' ≡ length wb → length wc' ≡ length wc → length wd' ≡ length wd → PairRooms points wb' wc' wd'
rooms_same r e f g = record { second = omega (arith, r.second, e); third = omega (arith, r.third, f); fourth = omega (arith, r.fourth, g) }

-- the contours of all pairs put are the same of the buffers cut to the points in use
pub all_same :
    {firsts : List ℕ} {points : List (List ℤ)} {numbers : List ℕ} {left right : ℕ} → Keyed firsts points numbers left right → {n : ℕ} {s s' : List ℕ} {c c' : List ℤ} {m : ℕ} →
    n ≡ get_or firsts (left + right) 0 → AllPut (contours_in firsts (take n points) left right) s c s' c' m → AllPut (contours_in firsts points left right) s c s' c' m
all_same {firsts} {points} {numbers} {left} {right} k {s = s} {s'} {c} {c'} {m} e r =
    subst (λ l. AllPut l s c s' c' m) (ap (λ n. contours_in firsts (take n points) left right) e ∙ contours_same firsts points numbers left right k) r
