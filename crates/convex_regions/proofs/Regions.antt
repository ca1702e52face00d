-- All regions: work arrays with nothing put in yet (`total_blank`); a region gathered
-- (`contour_whole`, `contour_room`, `joined`);
-- a triangle visited (`visited_skip`, `visited_join`); all of them (`Visiting`: `visiting_start`,
-- `visiting_turn`, `visiting_end`). Assumes nothing.
use mathlib.Core.Path.{◌≡◌, refl, sym, ◌∙◌, ap, ap₂, subst}
use mathlib.Core.Bool.{Bool, true, false, cond}
use mathlib.Core.List.{List, [], ◌∷◌, ◌++◌, map, flatten, append_assoc, append-nil}
use Prim.Native.Nat.{ℕ, zero, suc, ◌+◌, ◌*◌, ◌≤◌, ◌<◌}
use native.Mathlib.Numerals.{add-one}
use native.Mathlib.Omega.{arith}
use lib.ListN.{length, get_or, set, take, drop, replicate, length-set, drop_of_length-le}
use lib.Seq.{drop-cons, length-take-le, get_or-take}
use lib.IntN.{ℤ, pos, negsuc, nat_abs}
use Rattle.integers.specs.Lists.{up_to}
use Rattle.integers.proofs.Counting.{length-up_to, get_or-up_to}
use Rattle.integers.specs.Faults.{first_fault}
use Rattle.plane.specs.Plane.{Pt, in_range, on_grid}
use Rattle.mesh.specs.Mesh.{Mesh, mesh_kinds, max_triangles}
use Rattle.mesh.specs.Rows.{rows_mesh}
use Rattle.mesh.proofs.Rows.{length_rows}
use Rattle.mesh.proofs.Accepted.{accepted}
use Rattle.table.specs.Table.{starts_from, starts_of}
use Rattle.convex.specs.Joining.{is_in, without_straight, parts}
use Rattle.convex.specs.Zipper.{Zipper, zipped, regions_z, contour_z, parts_z}
use Rattle.convex.proofs.Sizes.{straight_few}
use Rattle.convex.proofs.Zipped.{parts_zipped}
use Rattle.convex_ring.specs.declared.Progress.{Progress}
use Rattle.points.specs.declared.Tally.{Tally}
use Rattle.points.specs.Gathered.{Gathered}
use Rattle.points.proofs.Gathering.{part_appended}
use Rattle.points.specs.Points.{corner_in, Appended}
use Rattle.convex_ring.specs.Buffers.{free, Marked, RegionBuffers}
use Rattle.convex_grow.specs.Growing.{Grown}
use Rattle.convex_contour.specs.Contour.{contour_at, Whole}
use Rattle.convex_regions.specs.Parts.{total, in_corner, in_edge, in_flag, Fresh, Room, seen_next, parts_next, Joined, Visited}
use Rattle.convex_grow.proofs.Growth.{free_le}
use Rattle.convex_contour.proofs.Contours.{contour_zipper, length_contour}

-- ---- nothing is put in work arrays that are filled with one value

pub total_blank : {A : Type 0} (f : A → ℕ) (a : A) (n : ℕ) → f a ≡ 0 → total f (replicate n a) ≡ 0
total_blank f a zero e = refl
total_blank f a (suc n) e = omega (arith, e, total_blank f a n e)

-- ---- a region gathered

module _ {size : ℕ} {m : Mesh} {k : ℕ} {flags : List Bool} {starts : List ℕ} {points : List (List ℤ)} {t : Tally} (r : Room m flags starts points t) {cs' : List (List ℤ)} {es' : List (List ℕ)} {flags' : List Bool} {p : Progress} (g : Grown size m k flags cs' es' flags' p) where
  fewer : suc (free flags') ≤ free flags
  fewer = omega (arith, g.kept, g.empty, g.sound.three)

  few : length m ≤ max_triangles
  few = (accepted m g.sound.ready.accepted).few

  pub contour_whole : Whole cs' p
  contour_whole = record {
    placed = g.sound.rested g.empty;
    ended = omega (arith, g.sound.ready.corners, g.sound.ended);
    grid = g.sound.ready.grid;
  }

  pub contour_room : t.corners + length cs' ≤ length points + p.done
  contour_room = omega (arith, g.sound.ready.corners, r.for_points, r.corners, g.kept, fewer)

  pub start_room : t.parts + 1 < length starts
  start_room = omega (arith, r.for_starts, r.parts, fewer)

  module _ {points' : List (List ℤ)} {n : ℕ} (a : Appended (without_straight (contour_at cs' p)) points t.corners points' n) where
    corners_room : n + 3 * free flags' ≤ 3 * length m
    corners_room = omega (arith, a.count, straight_few (contour_at cs' p), length_contour contour_whole, g.sound.ready.corners, r.corners, g.kept, fewer)

    pub corners_few : n ≤ 3 * max_triangles
    corners_few = omega (arith, corners_room, few)

    pub joined : {starts' : List ℕ} → starts' ≡ set starts (t.parts + 1) n → Joined size m k flags starts points t cs' es' flags' starts' points' (record { parts = t.parts + 1; corners = n })
    joined {starts'} e = record {
      ready = g.sound.ready;
      starts_size = ap length e ∙ length-set starts (t.parts + 1) n;
      points_size = a.size;
      room = record {
        for_starts = omega (arith, ap length e, length-set starts (t.parts + 1) n, r.for_starts);
        for_points = omega (arith, a.size, r.for_points);
        parts = omega (arith, r.parts, fewer);
        corners = corners_room;
      };
      marked = λ seen h. (g.holds seen h).taken;
      gathered = gathered;
    }
      where
        gathered : (seen : List ℕ) (ps : List (List Pt)) → Marked flags seen → Gathered starts points t ps → Gathered starts' points' (record { parts = t.parts + 1; corners = n }) (ps ++ (contour_z (zipped m seen k) ∷ []))
        gathered seen ps h q =
            let new : without_straight (contour_at cs' p) ≡ contour_z (zipped m seen k) = ap without_straight (sym (contour_zipper g.sound.ready.corners contour_whole.placed (g.holds seen h))) in
            subst (λ l. Gathered starts' points' (record { parts = t.parts + 1; corners = n }) (ps ++ (l ∷ []))) new ((part_appended starts t start_room a e).gathered ps q)

-- ---- a triangle visited

module _ {size : ℕ} {m : Mesh} {k : ℕ} {flags : List Bool} {starts : List ℕ} {points : List (List ℤ)} {t : Tally} (l : k < length flags) where
  pub visited_skip : {cs : List (List ℤ)} {es : List (List ℕ)} → RegionBuffers size m cs es flags → Room m flags starts points t → get_or flags k false ≡ true → Visited size m k flags starts points t cs es flags starts points t
  visited_skip s r f = record {
    ready = s;
    starts_size = refl;
    points_size = refl;
    room = r;
    marked = λ seen h. subst (λ b. Marked flags (cond b seen (seen ++ (zipped m seen k).taken))) (sym f ∙ h.at k l) h;
    gathered = λ seen ps h q. subst (λ b. Gathered starts points t (cond b ps (ps ++ (contour_z (zipped m seen k) ∷ [])))) (sym f ∙ h.at k l) q;
  }

  pub visited_join : {cs' : List (List ℤ)} {es' : List (List ℕ)} {flags' : List Bool} {starts' : List ℕ} {points' : List (List ℤ)} {t' : Tally} → get_or flags k false ≡ false → Joined size m k flags starts points t cs' es' flags' starts' points' t' → Visited size m k flags starts points t cs' es' flags' starts' points' t'
  visited_join {flags' = flags'} {starts' = starts'} {points' = points'} {t' = t'} f j = record {
    ready = j.ready;
    starts_size = j.starts_size;
    points_size = j.points_size;
    room = j.room;
    marked = λ seen h. subst (λ b. Marked flags' (cond b seen (seen ++ (zipped m seen k).taken))) (sym f ∙ h.at k l) (j.marked seen h);
    gathered = λ seen ps h q. subst (λ b. Gathered starts' points' t' (cond b ps (ps ++ (contour_z (zipped m seen k) ∷ [])))) (sym f ∙ h.at k l) (j.gathered seen ps h q);
  }

-- ---- all triangles

-- the parts of the triangles before k are gathered; the buffers have the sizes that they were lent
-- with
pub record Visiting (size starts_size points_size : ℕ) (m : Mesh) (cs : List (List ℤ)) (es : List (List ℕ)) (flags : List Bool) (starts : List ℕ) (points : List (List ℤ)) (t : Tally) (k : ℕ) : Type 0 where
  pub ready : RegionBuffers size m cs es flags
  pub starts_same : length starts ≡ starts_size
  pub points_same : length points ≡ points_size
  pub room : Room m flags starts points t
  pub seen : List ℕ
  pub ps : List (List Pt)
  pub marked : Marked flags seen
  pub gathered : Gathered starts points t ps
  pub rest : ps ++ map contour_z (regions_z m seen (drop k (up_to (length m)))) ≡ parts_z m

first_start : (starts : List ℕ) → 0 < length starts → get_or starts 0 0 ≡ 0 → take (0 + 1) starts ≡ starts_of []
unfolding starts_of starts_from
first_start [] h e = absurd (omega arith)
first_start (s ∷ l) h e = ap (λ n. n ∷ []) e

regions_turn : (m : Mesh) (seen : List ℕ) {k : ℕ} → k < length m → regions_z m seen (drop k (up_to (length m))) ≡ cond (is_in k seen) (regions_z m seen (drop (k + 1) (up_to (length m)))) (zipped m seen k ∷ regions_z m (seen ++ (zipped m seen k).taken) (drop (k + 1) (up_to (length m))))
unfolding regions_z
regions_turn m seen {k} h =
    let d : drop k (up_to (length m)) ≡ k ∷ drop (k + 1) (up_to (length m)) =
    drop-cons (up_to (length m)) k 0 (omega (arith, length-up_to (length m))) ∙ ap₂ ◌∷◌ (get_or-up_to (length m) 0 h) (ap (λ n. drop n (up_to (length m))) (sym (add-one k))) in
    ap (regions_z m seen) d

next_same : (b : Bool) (ps : List (List Pt)) (z : Zipper) (F : List ℕ → List Zipper) (s s' : List ℕ) → cond b ps (ps ++ (contour_z z ∷ [])) ++ map contour_z (F (cond b s s')) ≡ ps ++ map contour_z (cond b (F s) (z ∷ F s'))
next_same true ps z F s s' = refl
next_same false ps z F s s' = append_assoc ps (contour_z z ∷ []) (map contour_z (F s'))

-- a visit is told by the size that its buffer has
visited_there : {size : ℕ} {m : Mesh} {k : ℕ} {cs : List (List ℤ)} {es : List (List ℕ)} {flags : List Bool} {starts : List ℕ} {points : List (List ℤ)} {t : Tally} {cs' : List (List ℤ)} {es' : List (List ℕ)} {flags' : List Bool} {starts' : List ℕ} {points' : List (List ℤ)} {t' : Tally} → RegionBuffers size m cs es flags → Visited (length cs) m k flags starts points t cs' es' flags' starts' points' t' → Visited size m k flags starts points t cs' es' flags' starts' points' t'
visited_there {size} {m} {k} {flags = flags} {starts = starts} {points = points} {t = t} {cs'} {es'} {flags'} {starts'} {points'} {t'} s = subst (λ n. Visited n m k flags starts points t cs' es' flags' starts' points' t') s.corners

pub ready_here : {size : ℕ} {m : Mesh} {cs : List (List ℤ)} {es : List (List ℕ)} {flags : List Bool} → RegionBuffers size m cs es flags → RegionBuffers (length cs) m cs es flags
ready_here {m = m} {cs} {es} {flags} s = subst (λ n. RegionBuffers n m cs es flags) (sym s.corners) s

module _ (size starts_size points_size : ℕ) (m : Mesh) where
  pub visiting_start : {cs : List (List ℤ)} {es : List (List ℕ)} {flags : List Bool} {starts : List ℕ} {points : List (List ℤ)} → RegionBuffers size m cs es flags → Marked flags [] → length starts ≡ starts_size → length points ≡ points_size → length m < starts_size → 3 * length m ≤ points_size → get_or starts 0 0 ≡ 0 → Visiting size starts_size points_size m cs es flags starts points (record { parts = 0; corners = 0 }) 0
  unfolding parts_z flatten
  visiting_start {flags = flags} {starts = starts} s h a b f g e = record {
    ready = s;
    starts_same = a;
    points_same = b;
    room = record { for_starts = omega (arith, a); for_points = omega (arith, b); parts = omega (arith, free_le flags, s.marks); corners = omega (arith, free_le flags, s.marks) };
    seen = [];
    ps = [];
    marked = h;
    gathered = record { parts = refl; corners = refl; begins = first_start starts (omega (arith, a)) e; gathered = refl };
    rest = refl;
  }

  pub visiting_turn : {cs : List (List ℤ)} {es : List (List ℕ)} {flags : List Bool} {starts : List ℕ} {points : List (List ℤ)} {t : Tally} {cs' : List (List ℤ)} {es' : List (List ℕ)} {flags' : List Bool} {starts' : List ℕ} {points' : List (List ℤ)} {t' : Tally} {k : ℕ} → k < length m → Visiting size starts_size points_size m cs es flags starts points t k → Visited (length cs) m k flags starts points t cs' es' flags' starts' points' t' → Visiting size starts_size points_size m cs' es' flags' starts' points' t' (k + 1)
  visiting_turn {k} l v h =
      let w = visited_there v.ready h in
      let z = zipped m v.seen k in
      let d = drop (k + 1) (up_to (length m)) in
      record {
        ready = w.ready;
        starts_same = w.starts_size ∙ v.starts_same;
        points_same = w.points_size ∙ v.points_same;
        room = w.room;
        seen = seen_next m v.seen k;
        ps = parts_next m v.seen k v.ps;
        marked = w.marked v.seen v.marked;
        gathered = w.gathered v.seen v.ps v.marked v.gathered;
        rest = next_same (is_in k v.seen) v.ps z (λ s. regions_z m s d) v.seen (v.seen ++ z.taken) ∙ ap (λ r. v.ps ++ map contour_z r) (sym (regions_turn m v.seen l)) ∙ v.rest;
      }

  pub visiting_end : {cs : List (List ℤ)} {es : List (List ℕ)} {flags : List Bool} {starts : List ℕ} {points : List (List ℤ)} {t : Tally} {k : ℕ} → length m ≤ k → Visiting size starts_size points_size m cs es flags starts points t k → Gathered starts points t (parts m) × (t.parts ≤ length m) × (t.corners ≤ 3 * length m)
  unfolding regions_z
  visiting_end {starts = starts} {points = points} {t = t} {k} h v = (
    subst (Gathered starts points t) (sym (append-nil v.ps) ∙ ap (λ d. v.ps ++ map contour_z (regions_z m v.seen d)) (sym (drop_of_length-le (up_to (length m)) {i = k} (omega (arith, length-up_to (length m))))) ∙ v.rest ∙ parts_zipped (accepted m v.ready.accepted)) v.gathered,
    omega (arith, v.room.parts),
    omega (arith, v.room.corners),
  )

-- ---- the buffers at first: no corner, no edge, no flag

-- numbers that sum to 0 are each 0
total_none : {A : Type 0} (f : A → ℕ) {d : A} → f d ≡ 0 → (l : List A) → total f l ≡ 0 → (i : ℕ) → f (get_or l i d) ≡ 0
total_none f {d} h [] e i = h
total_none f {d} h (a ∷ l) e zero = omega arith
total_none f {d} h (a ∷ l) e (suc i) = total_none f h l (omega arith) i

-- a corner with nothing in it is the origin
at_origin : (x y : ℤ) → nat_abs x + nat_abs y ≡ 0 → on_grid (record { x = x; y = y }) ≡ true
unfolding on_grid in_range
at_origin (pos zero) (pos zero) e = refl
at_origin (pos zero) (pos (suc n)) e = absurd (omega arith)
at_origin (pos zero) (negsuc n) e = absurd (omega arith)
at_origin (pos (suc n)) y e = absurd (omega arith)
at_origin (negsuc n) y e = absurd (omega arith)

not_marked : (b : Bool) → in_flag b ≡ 0 → b ≡ false
not_marked true e = absurd (omega arith)
not_marked false e = refl

module _ (rows : List (List ℤ)) {cs : List (List ℤ)} {es : List (List ℕ)} {flags : List Bool} (u : Fresh (length rows) cs es flags) where
  pub first_flags : length (take (length rows) flags) ≡ length rows
  first_flags = length-take-le (length rows) flags u.for_flags

  pub first_ready : first_fault (mesh_kinds (rows_mesh rows)) ≡ 0 → RegionBuffers (length cs) (rows_mesh rows) cs es (take (length rows) flags)
  first_ready a = record {
    accepted = a;
    enough = omega (arith, u.for_corners, length_rows rows);
    corners = refl;
    edges = u.for_edges;
    marks = first_flags ∙ sym (length_rows rows);
    grid = record { at = λ i. at_origin (corner_in cs i).x (corner_in cs i).y (total_none in_corner refl cs u.no_corners i) };
    across = λ i h some d. omega (arith, total_none in_edge {d = []} refl es u.no_edges i);
  }

  pub first_marked : Marked (take (length rows) flags) []
  unfolding is_in
  first_marked = record { at = λ k h. get_or-take (length rows) flags k false (omega (arith, first_flags)) ∙ not_marked (get_or flags k false) (total_none in_flag refl flags u.no_flags k) }

pub few_rows : (rows : List (List ℤ)) → first_fault (mesh_kinds (rows_mesh rows)) ≡ 0 → length rows ≤ max_triangles
few_rows rows h = omega (arith, (accepted (rows_mesh rows) h).few, length_rows rows)

-- lent rows have as many places as the mesh that they are
pub visited_rows : (rows : List (List ℤ)) {starts : List ℕ} {points : List (List ℤ)} {t : Tally} → Gathered starts points t (parts (rows_mesh rows)) × (t.parts ≤ length (rows_mesh rows)) × (t.corners ≤ 3 * length (rows_mesh rows)) → Gathered starts points t (parts (rows_mesh rows)) × (t.parts ≤ length rows) × (t.corners ≤ 3 * length rows)
visited_rows rows h = (h.0, omega (arith, h.1, length_rows rows), omega (arith, h.2, length_rows rows))
