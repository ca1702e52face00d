-- A file's split parts, as the code goes about them. In order: the fault of splitting into room for
-- any parts is the mesh's own; the rows read are the file's mesh; what a call leaves for a sound
-- header, and for a refused one; what stands on the front of the arrays after success. Assumes
-- nothing.
use mathlib.Core.Path.{◌≡◌, refl, sym, ◌∙◌, ap}
use mathlib.Core.List.{List, ◌++◌, flatten}
use Prim.Native.Nat.{ℕ, zero, suc, ◌+◌, ◌*◌, ◌-◌, ◌<◌, ◌≤◌}
use native.Mathlib.Numerals.{add-one}
use native.Mathlib.Omega.{arith}
use borrow.Author.Tests.{le-ltb}
use lib.Dec.{lit<}
use lib.ListN.{length, take, drop, replicate, length-drop, length-replicate}
use lib.Seq.{take-length, length-take-le}
use lib.IntN.{ℤ}
use Rattle.integers.specs.Lists.{All, overlay}
use Rattle.integers.specs.Faults.{first_fault}
use Rattle.integers.proofs.Faults.{first_next, first_empty, append_some, append_none}
use Rattle.integers.proofs.Overlay.{take_overlay, length_overlay}
use Rattle.plane.specs.Plane.{Pt}
use Rattle.mesh.specs.Mesh.{Mesh, mesh_kinds}
use Rattle.mesh.specs.Rows.{row_bytes, rows_mesh}
use Rattle.table.specs.Stored.{words_of}
use Rattle.table.specs.Table.{starts_of, corners_of, counts_of, written, room_kinds}
use Rattle.table.specs.declared.Counts.{Counts}
use Rattle.table.proofs.Answers.{refused_counts, refused_buffer, accepted_counts, accepted_buffer}
use Rattle.table.proofs.Parts.{length_starts}
use Rattle.corners.proofs.Corners.{length_numbers}
use Rattle.split.specs.declared.ConvexSplitStrategy.{ConvexSplitStrategy}
use Rattle.split.specs.Splitting.{split_parts, split_fault, SplitAnswered}
use Rattle.split.proofs.Sizes.{split_table}
use Rattle.listing.specs.File.{triangle_count, corner_limit, split_number, strategy_of, records_of, mesh_of, header_kinds, file_fault, file_parts}
use Rattle.listing.proofs.File.{header_told, mesh_told, accepted_mesh, sound}
use Rattle.mesh_file.proofs.Records.{mesh_records}
use Rattle.file_parts.specs.Room.{FileRoom, Within}

-- ---- where there is room for any parts, the mesh alone decides

module _ (how : ConvexSplitStrategy) (m : ℕ) (mesh : Mesh) where
  room_enough : first_fault (mesh_kinds mesh) ≡ 0 → first_fault (room_kinds (split_parts how m mesh) 2049 12288) ≡ 0
  room_enough e =
      let s = split_table how m mesh e in
      let n : length (starts_of (split_parts how m mesh)) ≤ 2049 = omega (arith, length_starts (split_parts how m mesh), s.few_parts) in
      first_next 22 _ (le-ltb 2049 (length (starts_of (split_parts how m mesh))) n)
      ∙ first_next 21 _ (le-ltb 6144 (length (flatten (split_parts how m mesh))) s.few_corners) ∙ first_empty

  kinds_positive : All (λ k. 0 < k.0) (mesh_kinds mesh)
  kinds_positive = (lit< tt, (lit< tt, (lit< tt, (lit< tt, (lit< tt, (lit< tt, (lit< tt, tt)))))))

  with_room : {f : ℕ} → f ≡ first_fault (mesh_kinds mesh) → first_fault (mesh_kinds mesh ++ room_kinds (split_parts how m mesh) 2049 12288) ≡ first_fault (mesh_kinds mesh)
  with_room {f = zero} e = append_none (mesh_kinds mesh) _ kinds_positive (sym e) ∙ room_enough (sym e) ∙ e
  with_room {f = suc f} e = append_some (mesh_kinds mesh) _ (λ z. omega (arith, e, z))

  split_fault_lem : split_fault how m mesh 2049 12288 ≡ first_fault (mesh_kinds mesh)
  unfolding split_fault
  split_fault_lem = with_room refl

-- ---- a file whose header is sound

module _ (bytes : List ℕ) (rows : List (List ℤ)) (h : first_fault (header_kinds bytes) ≡ 0) (n : length rows ≡ triangle_count bytes) where
  -- the bytes past the header hold as many records as there are rows
  pub records_there : row_bytes * length rows ≤ length (take (length bytes - 20) (drop 20 bytes))
  records_there =
      let s = sound bytes h in
      let d : length bytes - 20 ≤ length (drop 20 bytes) = omega (arith, length-drop 20 bytes) in
      omega (arith, n, s.whole, length-take-le (length bytes - 20) (drop 20 bytes) d)

  -- the rows read are the file's mesh
  pub rows_read : (rows' : List (List ℤ)) → rows_mesh rows' ≡ records_of (length rows) (words_of (take (length bytes - 20) (drop 20 bytes))) → rows_mesh rows' ≡ mesh_of bytes
  rows_read rows' e =
      let d : length (drop 20 bytes) ≡ length bytes - 20 = length-drop 20 bytes in
      e ∙ (λ t. records_of (n t) (words_of ((ap (λ k. take k (drop 20 bytes)) (sym d) ∙ take-length (drop 20 bytes)) t))) ∙ sym (mesh_records bytes)

-- the fault that counts tell
pub told_fault : (f : ℕ) (ps : List (List Pt)) → (counts_of f ps).fault ≡ f
told_fault zero ps = refl
told_fault (suc f) ps = ap (λ r. r.fault) (refused_counts (λ z. omega (arith, z)) ps)

-- ---- what stands on the front of the arrays after success

module _ (bytes s : List ℕ) (c : List ℤ) {r : Counts} {s' : List ℕ} {c' : List ℤ}
    (counts : r ≡ counts_of (file_fault bytes) (file_parts bytes)) (starts : s' ≡ written (file_fault bytes) (starts_of (file_parts bytes)) s) (corners : c' ≡ written (file_fault bytes) (corners_of (file_parts bytes)) c) where
  fault_told : r.fault ≡ file_fault bytes
  fault_told = ap (λ x. x.fault) counts ∙ told_fault (file_fault bytes) (file_parts bytes)

  module _ (z : r.fault ≡ 0) where
    none : file_fault bytes ≡ 0
    none = sym fault_told ∙ z

    parts_told : r.parts + 1 ≡ length (starts_of (file_parts bytes))
    parts_told = ap (λ x. x.parts + 1) (counts ∙ accepted_counts none (file_parts bytes)) ∙ sym (length_starts (file_parts bytes) ∙ sym (add-one (length (file_parts bytes))))

    corners_told_lem : 2 * r.corners ≡ length (corners_of (file_parts bytes))
    unfolding corners_of
    corners_told_lem = ap (λ x. 2 * x.corners) (counts ∙ accepted_counts none (file_parts bytes)) ∙ sym (length_numbers (flatten (file_parts bytes)))

    starts_there : s' ≡ overlay (starts_of (file_parts bytes)) s
    starts_there = starts ∙ accepted_buffer none (starts_of (file_parts bytes)) s

    corners_there : c' ≡ overlay (corners_of (file_parts bytes)) c
    corners_there = corners ∙ accepted_buffer none (corners_of (file_parts bytes)) c

    starts_few : length s ≡ 2049 → length (starts_of (file_parts bytes)) ≤ length s
    starts_few ls = omega (arith, length_starts (file_parts bytes), (split_table (strategy_of (split_number bytes)) (corner_limit bytes) (mesh_of bytes) (accepted_mesh bytes none)).few_parts)

    corners_few : length c ≡ 12288 → length (corners_of (file_parts bytes)) ≤ length c
    unfolding corners_of
    corners_few lc = omega (arith, length_numbers (flatten (file_parts bytes)), (split_table (strategy_of (split_number bytes)) (corner_limit bytes) (mesh_of bytes) (accepted_mesh bytes none)).few_corners)

    all_within : length s ≡ 2049 → length c ≡ 12288 → Within r s' c'
    all_within ls lc = record {
      starts_in = omega (arith, parts_told, starts_few ls, ap length starts_there, length_overlay (starts_of (file_parts bytes)) s (starts_few ls));
      corners_in = omega (arith, corners_told_lem, corners_few lc, ap length corners_there, length_overlay (corners_of (file_parts bytes)) c (corners_few lc));
    }

-- what a call answers and leaves for a file, in starts and corners that held s and c
abbrev pub Left : List ℕ → List ℕ → List ℤ → Counts → List ℕ → List ℤ → Type 0
Left bytes s c r s' c' =
    (r ≡ counts_of (file_fault bytes) (file_parts bytes)) × ((s' ≡ written (file_fault bytes) (starts_of (file_parts bytes)) s) × ((c' ≡ written (file_fault bytes) (corners_of (file_parts bytes)) c) × (r.fault ≡ 0 → Within r s' c')))

module _ {bytes : List ℕ} {rows : List (List ℤ)} {s : List ℕ} {c : List ℤ} (room : FileRoom bytes rows s c)
    {how : ConvexSplitStrategy} {m : ℕ} (p : how ≡ strategy_of (split_number bytes)) (q : m ≡ corner_limit bytes) (rows' : List (List ℤ))
    (e : rows_mesh rows' ≡ records_of (length rows) (words_of (take (length bytes - 20) (drop 20 bytes)))) where
  parts_of : split_parts how m (rows_mesh rows') ≡ file_parts bytes
  parts_of = λ t. split_parts (p t) (q t) (rows_read bytes rows room.header room.for_rows rows' e t)

  fault_of : split_fault how m (rows_mesh rows') (length s) (length c) ≡ file_fault bytes
  fault_of =
      (λ t. split_fault how m (rows_mesh rows') (room.for_starts t) (room.for_corners t)) ∙ split_fault_lem how m (rows_mesh rows')
      ∙ ap (λ x. first_fault (mesh_kinds x)) (rows_read bytes rows room.header room.for_rows rows' e) ∙ sym (mesh_told bytes room.header)

  pub sound_left : {r : Counts} {s' : List ℕ} {c' : List ℤ} → SplitAnswered how m (rows_mesh rows') s c r s' c' → Left bytes s c r s' c'
  sound_left {r} {s'} {c'} a =
      let counts-are : r ≡ counts_of (file_fault bytes) (file_parts bytes) = a.counts ∙ (λ t. counts_of (fault_of t) (parts_of t)) in
      let starts-are : s' ≡ written (file_fault bytes) (starts_of (file_parts bytes)) s = a.starts ∙ (λ t. written (fault_of t) (starts_of (parts_of t)) s) in
      let corners_are : c' ≡ written (file_fault bytes) (corners_of (file_parts bytes)) c = a.corners ∙ (λ t. written (fault_of t) (corners_of (parts_of t)) c) in (
        counts-are,
        (starts-are, (corners_are, λ z. all_within bytes s c counts-are starts-are corners_are z room.for_starts room.for_corners)),
      )

-- ---- any file

-- the first k of n equal rows
pub length_first : {A : Type 0} {k : ℕ} (n : ℕ) (a : A) → k ≤ n → length (take k (replicate n a)) ≡ k
length_first {k} n a h = length-take-le k (replicate n a) (omega (arith, length-replicate n a))

pub header_left : (bytes s : List ℕ) (c : List ℤ) {f : ℕ} → f ≡ first_fault (header_kinds bytes) → (f ≡ 0 → ⊥) → {r : Counts} → r ≡ record { fault = f; parts = 0; corners = 0 } → Left bytes s c r s c
header_left bytes s c {f} e h er =
    let q : file_fault bytes ≡ f = header_told bytes (λ z. h (e ∙ z)) ∙ sym e in
    let n : file_fault bytes ≡ 0 → ⊥ = λ z. h (sym q ∙ z) in
    (er ∙ (λ t. record { fault = sym q t; parts = 0; corners = 0 }) ∙ sym (refused_counts n (file_parts bytes)), (sym (refused_buffer n _ s), (sym (refused_buffer n _ c), λ z. absurd (h (sym (ap (λ x. x.fault) er) ∙ z)))))

module _ (bytes s : List ℕ) (c : List ℤ) {r : Counts} {s' : List ℕ} {c' : List ℤ} (left : Left bytes s c r s' c') where
  pub fault_is : r.fault ≡ file_fault bytes
  fault_is = fault_told bytes s c left.0 left.1.0 left.1.1.0

  pub starts_in : r.fault ≡ 0 → r.parts + 1 ≤ length s'
  starts_in z = (left.1.1.1 z).starts_in

  pub corners_in : r.fault ≡ 0 → 2 * r.corners ≤ length c'
  corners_in z = (left.1.1.1 z).corners_in

  -- what the counts tell of stands on the front
  pub starts_taken : r.fault ≡ 0 → take (r.parts + 1) s' ≡ starts_of (file_parts bytes)
  starts_taken z = (λ t. take (parts_told bytes s c left.0 left.1.0 left.1.1.0 z t) (starts_there bytes s c left.0 left.1.0 left.1.1.0 z t)) ∙ take_overlay (starts_of (file_parts bytes)) s

  pub corners_taken : r.fault ≡ 0 → take (2 * r.corners) c' ≡ corners_of (file_parts bytes)
  corners_taken z = (λ t. take (corners_told_lem bytes s c left.0 left.1.0 left.1.1.0 z t) (corners_there bytes s c left.0 left.1.0 left.1.1.0 z t)) ∙ take_overlay (corners_of (file_parts bytes)) c
