-- A point copied after others (`row_appended`), a run of corners one longer (`length_run`,
-- `run_turn`); a part ended (`room_point`, `room_run`, `room_end`, `part_ended`); parts appended in
-- turn (`Partway`: `partway_start`, `partway_room`, `partway_turn`, `partway_end`). Assumes
-- nothing.
use mathlib.Core.Path.{◌≡◌, refl, sym, ◌∙◌, ap, subst}
use mathlib.Core.List.{List, [], ◌∷◌, ◌++◌, map, map-append, flatten, append_assoc, append-nil}
use Prim.Native.Nat.{ℕ, ◌+◌, ◌≤◌, ◌<◌, ◌^◌}
use native.Mathlib.Numerals.{add-one}
use native.Mathlib.Omega.{arith}
use lib.ListN.{length, get_or, set, take, drop, length-drop, length-map, length-set, get_or-map}
use lib.Seq.{take-suc, take-suc-set, get_or-drop, length-take-le}
use lib.IntN.{ℤ}
use Rattle.plane.specs.Plane.{Pt, O}
use Rattle.points.specs.Points.{corner_of, corner_in, Appended, corners_in}
use Rattle.points.proofs.Points.{appended_more}
use Rattle.points.specs.declared.Tally.{Tally}
use Rattle.points.specs.Gathered.{RoomFor, PartsAppended}
use Rattle.points.proofs.Gathering.{none_appended, then_appended, part_appended, room_first, room_rest}
use Rattle.split_chords.specs.Runs.{run_of}

-- ---- a point copied

pub row_appended : (points : List (List ℤ)) {n : ℕ} (row : List ℤ) → n < length points → Appended (corner_of row ∷ []) points n (set points n row) (n + 1)
row_appended points {n} row h = record {
  size = length-set points n row;
  count = refl;
  written = ap (map corner_of) (ap (λ k. take k (set points n row)) (add-one n) ∙ take-suc-set points n row h) ∙ map-append corner_of (take n points) (row ∷ []);
}

-- ---- runs of corners

pub corner_in_lem : (contour : List (List ℤ)) (i : ℕ) → get_or (corners_in contour) i O ≡ corner_in contour i
corner_in_lem contour i = get_or-map corner_of contour i []

pub length_run : (contour : List (List ℤ)) (i n : ℕ) → i + n ≤ length contour → length (run_of contour i n) ≡ n
length_run contour i n h =
    length-take-le n (drop i (corners_in contour)) (omega (arith, length-drop i (corners_in contour), length-map contour corner_of))

-- corners i .. i + n of the contour are corners i .. i + n - 1 and corner i + n
pub run_more : (contour : List (List ℤ)) (i n : ℕ) → i + n < length contour → run_of contour i (n + 1) ≡ run_of contour i n ++ (corner_in contour (i + n) ∷ [])
run_more contour i n h =
    ap (λ k. run_of contour i k) (add-one n) ∙ take-suc (drop i (corners_in contour)) n O (omega (arith, length-drop i (corners_in contour), length-map contour corner_of))
    ∙ ap (λ p. run_of contour i n ++ (p ∷ [])) (get_or-drop i (corners_in contour) n O ∙ corner_in_lem contour (i + n))

module _ (contour : List (List ℤ)) (i : ℕ) {points : List (List ℤ)} {count : ℕ} where
  -- the first k corners of a run are appended, and one more
  pub run_turn : (k : ℕ) {points' points'' : List (List ℤ)} {n m : ℕ} → i + k < length contour → Appended (run_of contour i k) points count points' n → Appended (corner_in contour (i + k) ∷ []) points' n points'' m → Appended (run_of contour i (k + 1)) points count points'' m
  run_turn k {points'' = points''} {m = m} h a b =
      subst (λ l. Appended l points count points'' m) (sym (run_more contour i k h)) (appended_more a b)

-- ---- one part

module _ {s : List ℕ} {p : List (List ℤ)} {t : Tally} where
  room_points : {q : List Pt} → RoomFor s p t (q ∷ []) → t.corners + length q ≤ length p
  unfolding flatten
  room_points {q} r = omega (arith, r.for_points, ap length (append-nil q))

  -- there is room for a part's first point, then for the others
  pub room_point : {a : Pt} {l : List Pt} → RoomFor s p t ((a ∷ l) ∷ []) → t.corners < length p
  room_point {a} {l} r = omega (arith, room_points r)

  pub room_run : {a : Pt} {l : List Pt} {p' : List (List ℤ)} {n : ℕ} → RoomFor s p t ((a ∷ l) ∷ []) → Appended (a ∷ []) p t.corners p' n → n + length l ≤ length p'
  room_run {a} {l} r e = omega (arith, room_points r, e.count, e.size)

  -- the part's end has a number of 32 bits
  pub room_end : {q : List Pt} {p' : List (List ℤ)} {n : ℕ} → RoomFor s p t (q ∷ []) → Appended q p t.corners p' n → n < 2 ^ 32
  room_end {q} r e = omega (arith, room_points r, e.count, r.small)

-- a part's points are put after the others, and the part is ended
pub part_ended : {q : List Pt} {s : List ℕ} {p : List (List ℤ)} {t : Tally} {s' : List ℕ} {p' : List (List ℤ)} {n : ℕ} {r : Tally} → RoomFor s p t (q ∷ []) → Appended q p t.corners p' n → (s' ≡ set s (t.parts + 1) n) × (r ≡ record { parts = t.parts + 1; corners = n }) → PartsAppended (q ∷ []) s p t s' p' r
part_ended {q} {s} {p} {t} {s'} {p'} room a e = subst (PartsAppended (q ∷ []) s p t s' p') (sym e.1) (part_appended s t room.for_starts a e.0)

-- ---- parts appended in turn: of the parts qs, those before rest

pub record Partway (qs rest : List (List Pt)) (s₀ : List ℕ) (p₀ : List (List ℤ)) (t₀ : Tally) (s : List ℕ) (p : List (List ℤ)) (t : Tally) : Type 0 where
  pub done : List (List Pt)
  pub appended : PartsAppended done s₀ p₀ t₀ s p t
  pub whole : done ++ rest ≡ qs

module _ {qs : List (List Pt)} (s₀ : List ℕ) (p₀ : List (List ℤ)) (t₀ : Tally) where
  pub partway_start : {rest : List (List Pt)} → rest ≡ qs → Partway qs rest s₀ p₀ t₀ s₀ p₀ t₀
  partway_start e = record { done = []; appended = none_appended s₀ p₀ t₀; whole = e }

  module _ {s : List ℕ} {p : List (List ℤ)} {t : Tally} where
    -- there is room for the parts that come next
    pub partway_room : (ps rest' : List (List Pt)) {rest : List (List Pt)} → RoomFor s₀ p₀ t₀ qs → Partway qs rest s₀ p₀ t₀ s p t → rest ≡ ps ++ rest' → RoomFor s p t ps
    partway_room ps rest' {rest} r k e =
        room_first ps rest' (subst (RoomFor s p t) e (room_rest rest (subst (RoomFor s₀ p₀ t₀) (sym k.whole) r) k.appended))

    pub partway_turn : {ps : List (List Pt)} {rest rest' : List (List Pt)} {s' : List ℕ} {p' : List (List ℤ)} {t' : Tally} → Partway qs rest s₀ p₀ t₀ s p t → rest ≡ ps ++ rest' → PartsAppended ps s p t s' p' t' → Partway qs rest' s₀ p₀ t₀ s' p' t'
    partway_turn {ps} {rest' = rest'} k e a = record {
      done = k.done ++ ps;
      appended = then_appended k.appended a;
      whole = append_assoc k.done ps rest' ∙ ap (λ l. k.done ++ l) (sym e) ∙ k.whole;
    }

    pub partway_end : {rest : List (List Pt)} → Partway qs rest s₀ p₀ t₀ s p t → rest ≡ [] → PartsAppended qs s₀ p₀ t₀ s p t
    partway_end k e = subst (λ l. PartsAppended l s₀ p₀ t₀ s p t) (sym (append-nil k.done) ∙ ap (λ l. k.done ++ l) (sym e) ∙ k.whole) k.appended
