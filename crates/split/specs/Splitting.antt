-- Splitting (document 01, "Splitting past a limit m"): ear clipping, fan, centroid. Assumes
-- nothing.
use Rattle.std.specs.Prelude.{◌≡◌, Bool, true, false, cond, ℕ, zero, suc, ◌+◌, ◌*◌, ◌-◌, ◌/◌, ◌%◌, ◌≤◌, max, eqb, leb, ltb, length, get_or, take, drop, ℤ, pos, negsuc, neg_ℤ, nat_abs, ◌+ℤ◌, ◌*ℤ◌}
use mathlib.Core.List.{List, [], ◌∷◌, ◌++◌, map, flatten}
use Rattle.std.specs.Int.Signed.{lt_z}
use Rattle.integers.specs.Lists.{All, sumℤ, neighbours}
use Rattle.integers.specs.Faults.{first_fault}
use Rattle.plane.specs.Plane.{Pt, O, ◌+ᵖ◌, ◌-ᵖ◌, cross, area_two}
use Rattle.plane.specs.Contour.{contour_area}
use Rattle.mesh.specs.Mesh.{Mesh, mesh_kinds, mesh_area, max_triangles}
use Rattle.table.specs.declared.Counts.{Counts}
use Rattle.table.specs.Table.{room_kinds, starts_of, corners_of, Answered, table_broken, max_parts}
use Rattle.convex.specs.Joining.{parts}
use Rattle.split.specs.declared.ConvexSplitStrategy.{ConvexSplitStrategy}
use Rattle.split.specs.declared.ConvexSplitStrategy.TheVariants.{EarClipping, Fan, Centroid}

-- ---- shares of a whole

-- a divided by b, rounded up
abbrev pub ceil_div : ℕ → ℕ → ℕ
ceil_div a b = (a + (b - 1)) / b

-- n things in k groups, "the first ones one .. larger where the division leaves a rest": group i
-- and those after it, j in all
unfoldable pub shares_from : ℕ → ℕ → ℕ → ℕ → List ℕ
shares_from n k i zero = []
shares_from n k i (suc j) = (n / k + cond (ltb i (n % k)) 1 0) ∷ shares_from n k (suc i) j

abbrev pub shares : ℕ → ℕ → List ℕ
shares n k = shares_from n k 0 k

-- "ear clipping and fan make ceil((n−2)/(m−2)) parts": how many triangles each has
abbrev pub triangle_shares : ℕ → ℕ → List ℕ
triangle_shares n m = shares (n - 2) (ceil_div (n - 2) (m - 2))

-- ---- ear clipping: "each part starts at the last corner of the one before, and the clipped
-- corners are passed over"

-- l are the corners not yet clipped, from where the next part starts; a part of s triangles has s +
-- 2 corners, and the s between its ends are clipped
unfoldable pub clipped : List ℕ → List Pt → List (List Pt)
clipped [] l = []
clipped (s ∷ ss) l = take (s + 2) l ∷ clipped ss (drop (s + 1) l ++ take 1 l)

abbrev pub ear_parts : ℕ → List Pt → List (List Pt)
ear_parts m l = clipped (triangle_shares (length l) m) l

-- ---- fan: "each part starts with c0"

-- l are the corners from where the next part goes on
unfoldable pub fanned : List ℕ → Pt → List Pt → List (List Pt)
fanned [] c l = []
fanned (s ∷ ss) c l = (c ∷ take (s + 1) l) ∷ fanned ss c (drop s l)

unfoldable pub fan_parts : ℕ → List Pt → List (List Pt)
fan_parts m [] = []
fan_parts m (c ∷ l) = fanned (triangle_shares (suc (length l)) m) c l

-- ---- the centre

-- "rounded to nearest .., halves away from zero"
unfoldable pub rounded : ℤ → ℕ → ℤ
rounded (pos n) d = pos ((2 * n + d) / (2 * d))
rounded (negsuc n) d = neg_ℤ (pos ((2 * suc n + d) / (2 * d)))

-- the sum over neighbouring corners a, b, seen from c0, of (a + b) (a × b), by coordinate
unfoldable pub moment_x : List Pt → ℤ
moment_x l = sumℤ (map (λ e. (e.0.x +ℤ e.1.x) *ℤ cross e.0 e.1) (neighbours l))

unfoldable pub moment_y : List Pt → ℤ
moment_y l = sumℤ (map (λ e. (e.0.y +ℤ e.1.y) *ℤ cross e.0 e.1) (neighbours l))

-- the corners seen from c
abbrev pub seen_from : Pt → List Pt → List Pt
seen_from c l = map (λ p. p -ᵖ c) l

-- the area centroid: a third of the moments over the doubled area, "relative to c0"
unfoldable pub centre_of : Pt → List Pt → Pt
centre_of c l = c +ᵖ record {
  x = rounded (moment_x (seen_from c l)) (3 * nat_abs (contour_area (seen_from c l)));
  y = rounded (moment_y (seen_from c l)) (3 * nat_abs (contour_area (seen_from c l)));
}

-- to the left of each edge
unfoldable pub left_of_all : Pt → List (Pt × Pt) → Bool
left_of_all g [] = true
left_of_all g (e ∷ l) = cond (lt_z (pos 0) (area_two e.0 e.1 g)) (left_of_all g l) false

-- "Fan is used if it isn't strictly inside, or the doubled area exceeds 3,074,457,345,618,258,602."
unfoldable pub centre_serves : Pt → List Pt → Bool
centre_serves g l = cond (lt_z (pos 3074457345618258602) (contour_area l)) false (left_of_all g (neighbours l))

-- ---- centroid

-- how many edges a part takes past its first, of at most r: "a group ends early when the centre,
-- its first corner and the next end make no positive turn"; l are the ends that come next
unfoldable pub taking : Pt → Pt → ℕ → List Pt → ℕ
taking g a zero l = 0
taking g a (suc r) [] = 0
taking g a (suc r) (c ∷ l) = cond (lt_z (pos 0) (area_two g a c)) (suc (taking g a r l)) 0

-- how many of a group's s edges its next part takes. l are the corners from where the part starts:
-- its first edge, from the first corner of l to the second, is always taken; each one after it, up
-- to s in all, is taken while g, the first corner and that edge's end make a positive turn, and the
-- part ends at the first that does not
abbrev pub edges_taken : Pt → ℕ → List Pt → ℕ
edges_taken g s l = suc (taking g (get_or l 0 O) (s - 1) (drop 2 l))

-- the parts of a group of s edges, which start at the corners l; n is how many parts it has at the
-- most
unfoldable pub group_parts : ℕ → Pt → ℕ → List Pt → List (List Pt)
group_parts zero g s l = []
group_parts (suc n) g s l = cond (eqb s 0) [] ((g ∷ take (edges_taken g s l + 1) l) ∷ group_parts n g (s - edges_taken g s l) (drop (edges_taken g s l) l))

-- the groups in turn
unfoldable pub sectors : List ℕ → Pt → List Pt → List (List Pt)
sectors [] g l = []
sectors (s ∷ ss) g l = group_parts s g s l ++ sectors ss g (drop s l)

-- "There are ceil(n/(m−2)) target groups of edges, balanced as above"; the first corner stands once
-- more at the end
abbrev pub centroid_parts : ℕ → Pt → Pt → List Pt → List (List Pt)
centroid_parts m g c l = sectors (shares (length l) (ceil_div (length l) (m - 2))) g (l ++ (c ∷ []))

unfoldable pub centred_parts : ℕ → List Pt → List (List Pt)
centred_parts m [] = []
centred_parts m (c ∷ l) = cond (centre_serves (centre_of c (c ∷ l)) (c ∷ l)) (centroid_parts m (centre_of c (c ∷ l)) c (c ∷ l)) (fan_parts m (c ∷ l))

-- ---- any limit and split

-- "it raises any limit below 3 to 3"
abbrev pub raised : ℕ → ℕ
raised m = max 3 m

abbrev pub split_by : ConvexSplitStrategy → ℕ → List Pt → List (List Pt)
split_by EarClipping m l = ear_parts m l
split_by Fan m l = fan_parts m l
split_by Centroid m l = centred_parts m l

-- "Contours of at most m corners are left unsplit."
unfoldable pub split_contour : ConvexSplitStrategy → ℕ → List Pt → List (List Pt)
split_contour how m l = cond (leb (length l) m) (l ∷ []) (split_by how m l)

-- the parts of a mesh for a limit and a split: `to_convex_polygons_with_max_vertices`
unfoldable pub split_parts : ConvexSplitStrategy → ℕ → Mesh → List (List Pt)
split_parts how m mesh = flatten (map (split_contour how (raised m)) (parts mesh))

-- "Mesh: 1, 2, 3, 4, 5, 6, 11, 22, 21"
unfoldable pub split_fault : ConvexSplitStrategy → ℕ → Mesh → ℕ → ℕ → ℕ
split_fault how m mesh starts corners = first_fault (mesh_kinds mesh ++ room_kinds (split_parts how m mesh) starts corners)

-- what a call answers and leaves in the lent starts and corners, which held s and c
abbrev pub SplitAnswered : ConvexSplitStrategy → ℕ → Mesh → List ℕ → List ℤ → Counts → List ℕ → List ℤ → Type 0
SplitAnswered how m mesh s c r s' c' = Answered (split_fault how m mesh (length s) (length c)) (split_parts how m mesh) s c r s' c'

-- the doubled areas of an accepted mesh's parts add up to the mesh's, for any limit and split
abbrev pub SplitKeepsArea : Type 0
SplitKeepsArea =
    (how : ConvexSplitStrategy) (m : ℕ) (mesh : Mesh) → first_fault (mesh_kinds mesh) ≡ 0 → sumℤ (map contour_area (split_parts how m mesh)) ≡ mesh_area mesh

-- ---- how many

-- each part has from 3 corners to the limit
pub record SplitSized (how : ConvexSplitStrategy) (m : ℕ) (mesh : Mesh) : Type 0 where
  pub sizes : All (λ p. (3 ≤ length p) × (length p ≤ raised m)) (split_parts how m mesh)
  pub few_parts : length (split_parts how m mesh) ≤ max_parts
  pub few_corners : length (flatten (split_parts how m mesh)) ≤ 6 * max_triangles
  pub table : table_broken (starts_of (split_parts how m mesh)) (corners_of (split_parts how m mesh)) ≡ false

-- and the answer is a part table within the limits: 7 never refuses it
abbrev pub SplitTable : Type 0
SplitTable = (how : ConvexSplitStrategy) (m : ℕ) (mesh : Mesh) → first_fault (mesh_kinds mesh) ≡ 0 → SplitSized how m mesh

-- "With n corners .., ear clipping and fan make ceil((n−2)/(m−2)) parts"
abbrev pub SplitCount : Type 0
SplitCount = (m : ℕ) (l : List Pt) → 3 ≤ length l → (length (ear_parts m l) ≡ ceil_div (length l - 2) (m - 2)) × (length (fan_parts m l) ≡ ceil_div (length l - 2) (m - 2))
