-- Joined parts split one after another: the parts of equal contours (`at_part`); the parts of the
-- first k contours, one more a turn (`each_more`, `room_at`), and none at first (`first_gathered`);
-- the parts gathered are those that the buffers hold (`parts_in_lem`), so joined parts can be split
-- (`splittable`), into at most twice as many as there are triangles, with six corners for each
-- (`few_in`); there is room for all of them (`room_all`, `holds_all`), and they are the mesh's
-- (`gathered_in`). Assumes an accepted mesh where it says so.
use mathlib.Core.Path.{◌≡◌, refl, sym, ◌∙◌, ap, subst}
use mathlib.Core.List.{List, [], ◌∷◌, ◌++◌, map, flatten, map-append, append-nil}
use Prim.Native.Nat.{ℕ, suc, ◌+◌, ◌*◌, ◌≤◌, ◌<◌, ◌^◌}
use native.Mathlib.Omega.{arith}
use native.Mathlib.Numerals.{add-one}
use lib.ListN.{length, get_or, set, take, drop, take-append-drop}
use lib.Seq.{take-suc, drop-cons, take-suc-set}
use lib.IntN.{ℤ}
use Rattle.integers.specs.Lists.{All}
use Rattle.integers.specs.Faults.{first_fault}
use Rattle.integers.proofs.Elements.{all_get_d}
use Rattle.integers.proofs.Sums.{flatten_append}
use Rattle.plane.specs.Plane.{Pt}
use Rattle.mesh.specs.Mesh.{mesh_kinds}
use Rattle.mesh.specs.Rows.{rows_mesh}
use Rattle.mesh.proofs.Accepted.{accepted}
use Rattle.mesh.proofs.Rows.{length_rows}
use Rattle.table.specs.Table.{starts_from, starts_of, parts_of}
use Rattle.table.proofs.Parts.{parts_starts}
use Rattle.convex.specs.Joining.{parts}
use Rattle.convex.proofs.Sizes.{parts_corners}
use Rattle.points.specs.declared.Tally.{Tally}
use Rattle.points.specs.Gathered.{Gathered, RoomFor, PartsAppended}
use Rattle.points.proofs.Reading.{PartPlaced, enough_starts, part_placed}
use Rattle.points.proofs.Gathering.{then_appended, room_first, room_rest}
use Rattle.split.specs.declared.ConvexSplitStrategy.{ConvexSplitStrategy}
use Rattle.split.specs.Splitting.{raised, split_contour, split_parts}
use Rattle.split.proofs.Sizes.{split_parts_few}
use Rattle.split_centre.specs.Centre.{Summable}
use Rattle.split_pairs.proofs.Joined.{parts_summable}
use Rattle.split_sizes.specs.Parts.{parts_in, Splittable, split_each}

-- ---- one contour

-- of equal contours
pub at_part : (how : ConvexSplitStrategy) (m : ℕ) {l l' : List Pt} {s s' : List ℕ} {p p' : List (List ℤ)} {t t' : Tally} → l ≡ l' → PartsAppended (split_contour how m l) s p t s' p' t' → PartsAppended (split_contour how m l') s p t s' p' t'
at_part how m {s = s} {s' = s'} {p = p} {p' = p'} {t = t} {t' = t'} e a = subst (λ k. PartsAppended (split_contour how m k) s p t s' p' t') e a

-- ---- the first k of some contours

module _ (how : ConvexSplitStrategy) (m : ℕ) (ps : List (List Pt)) {k : ℕ} (h : k < length ps) where
  each_append : (a b : List (List Pt)) → split_each how m (a ++ b) ≡ split_each how m a ++ split_each how m b
  each_append a b = ap flatten (map-append (split_contour how m) a b) ∙ flatten_append (map (split_contour how m) a) (map (split_contour how m) b)

  each_suc : split_each how m (take (k + 1) ps) ≡ split_each how m (take k ps) ++ split_contour how m (get_or ps k [])
  unfolding flatten
  each_suc =
      ap (λ n. split_each how m (take n ps)) (add-one k) ∙ ap (split_each how m) (take-suc ps k [] h) ∙ each_append (take k ps) (get_or ps k [] ∷ [])
      ∙ ap (λ l. split_each how m (take k ps) ++ l) (append-nil (split_contour how m (get_or ps k [])))

  each_whole : split_each how m ps ≡ split_each how m (take k ps) ++ (split_contour how m (get_or ps k []) ++ split_each how m (drop (suc k) ps))
  unfolding flatten
  each_whole = ap (split_each how m) (sym (take-append-drop k ps)) ∙ each_append (take k ps) (drop k ps) ∙ ap (λ l. split_each how m (take k ps) ++ split_each how m l) (drop-cons ps k [] h)

  module _ {s₀ : List ℕ} {p₀ : List (List ℤ)} {t₀ : Tally} {s : List ℕ} {p : List (List ℤ)} {t : Tally} (a : PartsAppended (split_each how m (take k ps)) s₀ p₀ t₀ s p t) where
    -- there is room for contour k's parts after those before it
    pub room_at : RoomFor s₀ p₀ t₀ (split_each how m ps) → RoomFor s p t (split_contour how m (get_or ps k []))
    room_at r =
        let rest = split_each how m (drop (suc k) ps) in
        room_first (split_contour how m (get_or ps k [])) rest
        (room_rest (split_contour how m (get_or ps k []) ++ rest) (subst (RoomFor s₀ p₀ t₀) each_whole r) a)

    pub each_more : {s' : List ℕ} {p' : List (List ℤ)} {t' : Tally} → PartsAppended (split_contour how m (get_or ps k [])) s p t s' p' t' → PartsAppended (split_each how m (take (k + 1) ps)) s₀ p₀ t₀ s' p' t'
    each_more {s'} {p'} {t'} b = subst (λ qs. PartsAppended qs s₀ p₀ t₀ s' p' t') (sym each_suc) (then_appended a b)

-- no parts are gathered at first
pub first_gathered : (s : List ℕ) (p : List (List ℤ)) {s' : List ℕ} → 0 < length s → s' ≡ set s 0 0 → Gathered s' p (record { parts = 0; corners = 0 }) []
unfolding flatten starts_of starts_from
first_gathered s p h e = record { parts = refl; corners = refl; begins = ap (take 1) e ∙ take-suc-set s 0 0 h; gathered = refl }

-- the room is the same once a start is put
pub resized : {s : List ℕ} (s' : List ℕ) {p : List (List ℤ)} {t : Tally} {qs : List (List Pt)} → length s' ≡ length s → RoomFor s p t qs → RoomFor s' p t qs
resized s' e r = record { for_starts = omega (arith, r.for_starts, e); for_points = r.for_points; small = r.small }

-- ---- joined parts

-- the buffers hold just the parts gathered there
pub parts_in_lem : {s : List ℕ} {p : List (List ℤ)} {t : Tally} {ps : List (List Pt)} → Gathered s p t ps → parts_in s p t ≡ ps
parts_in_lem {ps} g = (λ i. parts_of (g.begins i) (g.gathered i)) ∙ parts_starts ps

-- joined part k: where it lies in the buffers, and that its sums fit
module _ {s : List ℕ} {p : List (List ℤ)} {t : Tally} {k : ℕ} (j : Splittable s p t) (h : k < t.parts) where
  pub starts_enough : k + 1 < length s
  starts_enough = omega (arith, h, enough_starts s p t (parts_in s p t) j.gathered)

  pub placed : PartPlaced s p k (get_or (parts_in s p t) k [])
  placed = part_placed s p t (parts_in s p t) j.gathered (omega (arith, h, j.gathered.parts))

  pub sums_fit : Summable (get_or (parts_in s p t) k [])
  sums_fit = all_get_d Summable (parts_in s p t) [] j.summable k (omega (arith, h, j.gathered.parts))

-- those of the mesh that lent rows are
module _ (s : List ℕ) (p : List (List ℤ)) (t : Tally) (rows : List (List ℤ)) (e : first_fault (mesh_kinds (rows_mesh rows)) ≡ 0) (g : Gathered s p t (parts (rows_mesh rows))) where
  pub splittable : Splittable s p t
  splittable =
      let q = sym (parts_in_lem g) in
      record { gathered = subst (Gathered s p t) q g; summable = subst (All Summable) q (parts_summable (rows_mesh rows) e) }

  module _ (how : ConvexSplitStrategy) (m : ℕ) {r : ℕ} (q : r ≡ raised m) where
    -- they split as the mesh's parts do
    pub split_in : split_each how r (parts_in s p t) ≡ split_parts how m (rows_mesh rows)
    unfolding split_parts
    split_in = (λ i. split_each how (q i) (parts_in_lem g i))

    -- Σ 2 (n − 2) parts and Σ 6 (n − 2) corners, and Σ (n − 2) is at most the number of triangles
    pub few_in : (length (split_each how r (parts_in s p t)) ≤ 2 * length rows) × (length (flatten (split_each how r (parts_in s p t))) ≤ 6 * length rows)
    few_in =
        let ok = accepted (rows_mesh rows) e in
        let f = split_parts_few how m ok in
        let c = parts_corners ok in
        let n = length_rows rows in
        (omega (arith, ap length split_in, f.some, c, n), omega (arith, ap (λ qs. length (flatten qs)) split_in, f.corners, c, n))

    pub room_all : (s' : List ℕ) (p' : List (List ℤ)) → 2 * length rows < length s' → 6 * length rows ≤ length p' → length p' < 2 ^ 32 → RoomFor s' p' (record { parts = 0; corners = 0 }) (split_each how r (parts_in s p t))
    room_all s' p' h k b = record { for_starts = omega (arith, h, few_in.0); for_points = omega (arith, k, few_in.1); small = b }

    pub gathered_in : {s' : List ℕ} {p' : List (List ℤ)} {t' : Tally} → Gathered s' p' t' (split_each how r (parts_in s p t)) → Gathered s' p' t' (split_parts how m (rows_mesh rows))
    gathered_in {s'} {p'} {t'} h = subst (Gathered s' p' t') split_in h

    -- and the arrays that they are in, as long as before, hold them
    pub holds_all : {s' : List ℕ} {p' : List (List ℤ)} {t' : Tally} {a b : ℕ} → Gathered s' p' t' (split_each how r (parts_in s p t)) → length s' ≡ a → length p' ≡ b → 2 * length rows < a → 6 * length rows ≤ b → a < 2 ^ 32 → b < 2 ^ 32 → (t'.parts < length s') × (t'.corners ≤ length p') × (length s' < 2 ^ 32) × (length p' < 2 ^ 32)
    holds_all h i j k l v w = (omega (arith, h.parts, i, k, few_in.0), omega (arith, h.corners, j, l, few_in.1), omega (arith, i, v), omega (arith, j, w))
