-- Parts gathered: starts and corners of one part more (`starts_more`, `flatten_more`); one part
-- appended (`part_appended`), none, and some after others (`none_appended`, `then_appended`); room
-- for some of them (`room_first`, `room_rest`). Assumes nothing.
use mathlib.Core.Path.{◌≡◌, refl, sym, ◌∙◌, ap, subst}
use mathlib.Core.List.{List, [], ◌∷◌, ◌++◌, flatten, append_assoc, append-nil}
use Prim.Native.Nat.{ℕ, ◌+◌, ◌≤◌, ◌<◌}
use native.Mathlib.Numerals.{add-one}
use native.Mathlib.Omega.{arith}
use lib.ListN.{length, set, take, length-append, length-set}
use lib.Seq.{take-suc-set}
use lib.IntN.{ℤ}
use Rattle.integers.proofs.Sums.{flatten_append, length_flatten_append}
use Rattle.plane.specs.Plane.{Pt}
use Rattle.table.specs.Table.{starts_from, starts_of}
use Rattle.points.specs.Points.{first_points, Appended}
use Rattle.points.specs.declared.Tally.{Tally}
use Rattle.points.specs.Gathered.{Gathered, RoomFor, PartsAppended}

-- ---- one part more

pub flatten_more : {A : Type 0} (ps : List (List A)) (p : List A) → flatten (ps ++ (p ∷ [])) ≡ flatten ps ++ p
unfolding flatten
flatten_more ps p = flatten_append ps (p ∷ []) ∙ ap (λ l. flatten ps ++ l) (append-nil p)

starts_from_more : (k : ℕ) (ps : List (List Pt)) (p : List Pt) → starts_from k (ps ++ (p ∷ [])) ≡ starts_from k ps ++ ((k + length (flatten ps ++ p)) ∷ [])
unfolding starts_from flatten
starts_from_more k [] p = refl
starts_from_more k (q ∷ ps) p =
    ap (λ l. k ∷ l)
    (starts_from_more (k + length q) ps p
    ∙ ap (λ n. starts_from (k + length q) ps ++ (n ∷ [])) (longer k q (flatten ps) p))
  where
    longer : (k : ℕ) (q l p : List Pt) → k + length q + length (l ++ p) ≡ k + length ((q ++ l) ++ p)
    longer k q l p = omega (arith, length-append q (l ++ p), ap length (append_assoc q l p))

pub starts_more : (ps : List (List Pt)) (p : List Pt) → starts_of (ps ++ (p ∷ [])) ≡ starts_of ps ++ (length (flatten ps ++ p) ∷ [])
unfolding starts_of
starts_more ps p = starts_from_more 0 ps p ∙ ap (λ n. starts_from 0 ps ++ (n ∷ [])) (omega arith)

length_one : (p : List Pt) → length (flatten (p ∷ [])) ≡ length p
unfolding flatten
length_one p = ap length (append-nil p)

-- ---- parts appended

-- the points of a part were put after the others, and the start after it
pub part_appended : {p : List Pt} (starts : List ℕ) {points : List (List ℤ)} (t : Tally) {starts' : List ℕ} {points' : List (List ℤ)} {n : ℕ} → t.parts + 1 < length starts → Appended p points t.corners points' n → starts' ≡ set starts (t.parts + 1) n → PartsAppended (p ∷ []) starts points t starts' points' (record { parts = t.parts + 1; corners = n })
part_appended {p} starts {points} t {starts'} {points'} {n} h a e = record {
  starts_size = ap length e ∙ length-set starts (t.parts + 1) n;
  points_size = a.size;
  parts = refl;
  corners = omega (arith, a.count, length_one p);
  gathered = gathered;
}
  where
    gathered : (ps : List (List Pt)) → Gathered starts points t ps → Gathered starts' points' (record { parts = t.parts + 1; corners = n }) (ps ++ (p ∷ []))
    gathered ps q =
        let count : n ≡ length (flatten ps ++ p) = omega (arith, a.count, q.corners, length-append (flatten ps) p) in
        record {
          parts = omega (arith, q.parts, length-append ps (p ∷ []));
          corners = count ∙ sym (ap length (flatten_more ps p));
          begins =
              ap (take (t.parts + 1 + 1)) e ∙ ap (λ i. take i (set starts (t.parts + 1) n)) (add-one (t.parts + 1)) ∙ take-suc-set starts (t.parts + 1) n h
              ∙ (λ i. q.begins i ++ (count i ∷ [])) ∙ sym (starts_more ps p);
          gathered = a.written ∙ ap (λ l. l ++ p) q.gathered ∙ sym (flatten_more ps p);
        }

pub none_appended : (starts : List ℕ) (points : List (List ℤ)) (t : Tally) → PartsAppended [] starts points t starts points t
unfolding flatten
none_appended starts points t = record {
  starts_size = refl;
  points_size = refl;
  parts = omega arith;
  corners = omega arith;
  gathered = λ ps q. subst (Gathered starts points t) (sym (append-nil ps)) q;
}

pub then_appended : {qs rs : List (List Pt)} {s s' s'' : List ℕ} {p p' p'' : List (List ℤ)} {t t' t'' : Tally} → PartsAppended qs s p t s' p' t' → PartsAppended rs s' p' t' s'' p'' t'' → PartsAppended (qs ++ rs) s p t s'' p'' t''
then_appended {qs} {rs} {s'' = s''} {p'' = p''} {t'' = t''} a b = record {
  starts_size = b.starts_size ∙ a.starts_size;
  points_size = b.points_size ∙ a.points_size;
  parts = omega (arith, a.parts, b.parts, length-append qs rs);
  corners = omega (arith, a.corners, b.corners, length_flatten_append qs rs);
  gathered = λ ps g. subst (Gathered s'' p'' t'') (append_assoc ps qs rs) (b.gathered (ps ++ qs) (a.gathered ps g));
}

-- ---- room for the first of some parts, and for the rest once they are appended

pub room_first : (qs rs : List (List Pt)) {s : List ℕ} {p : List (List ℤ)} {t : Tally} → RoomFor s p t (qs ++ rs) → RoomFor s p t qs
room_first qs rs r = record {
  for_starts = omega (arith, r.for_starts, length-append qs rs);
  for_points = omega (arith, r.for_points, length_flatten_append qs rs);
  small = r.small;
}

pub room_rest : {qs : List (List Pt)} (rs : List (List Pt)) {s : List ℕ} {p : List (List ℤ)} {t : Tally} {s' : List ℕ} {p' : List (List ℤ)} {t' : Tally} → RoomFor s p t (qs ++ rs) → PartsAppended qs s p t s' p' t' → RoomFor s' p' t' rs
room_rest {qs} rs r a = record {
  for_starts = omega (arith, r.for_starts, length-append qs rs, a.parts, a.starts_size);
  for_points = omega (arith, r.for_points, length_flatten_append qs rs, a.corners, a.points_size);
  small = omega (arith, r.small, a.points_size);
}
