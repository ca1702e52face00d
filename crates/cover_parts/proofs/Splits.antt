-- A split keeps what a contour covers, whatever the limit and the strategy (`split_covers`), and so
-- what a mesh does (`split_parts_cover`). Assumes nothing.
use mathlib.Core.List.{List, [], ◌∷◌, map}
use mathlib.Core.Logic.Iff
use mathlib.Core.Logic.{◌↔◌}
use Prim.Native.Nat.{ℕ, ◌≤◌}
use native.Mathlib.Omega.{arith}
use lib.Dec.{leb}
use lib.ListN.{length}
use lib.IntN.{ℤ, pos}
use lib.Signed.{◌<ℤ◌}
use Rattle.integers.specs.Lists.{Any}
use Rattle.integers.proofs.Order.{by_test}
use Rattle.integers.proofs.Elements.{all_map, any_one, any_iff, any_flatten, any_image}
use Rattle.plane.specs.Plane.{Pt}
use Rattle.convex.specs.Joining.{parts}
use Rattle.convex_pairs.proofs.Convexity.{Polygon, test_convex, convex_polygon}
use Rattle.convex_pairs.proofs.Meets.{parts_polygons}
use Rattle.split.specs.declared.ConvexSplitStrategy.{ConvexSplitStrategy}
use Rattle.split.specs.declared.ConvexSplitStrategy.TheVariants.{EarClipping, Fan, Centroid}
use Rattle.split.specs.Splitting.{centre_of, centre_serves, centred_parts, split_by, split_contour, split_parts, raised}
use Rattle.split_pairs.proofs.Theorem.{serves_left}
use Rattle.cover.specs.Inside.{Inside}
use Rattle.cover.specs.Wholes.{Covered}
use Rattle.cover_parts.specs.Parts.{SplitCovers, SplitPartsCover}
use Rattle.cover_parts.proofs.Parts.{parts_cover}
use Rattle.cover_parts.proofs.Chorded.{ear_covers, fan_covers}
use Rattle.cover_parts.proofs.Centred.{centroid_covers}

-- ---- one contour

by_covers : (how : ConvexSplitStrategy) {m : ℕ} {l : List Pt} → 3 ≤ m → Polygon l → {q : ℤ} (z : Pt) → pos 0 <ℤ q → Covered (split_by how m l) q z ↔ Inside l q z
unfolding centred_parts
by_covers EarClipping {m} h p {q} z hq = ear_covers h p z hq
by_covers Fan {m} h p {q} z hq = fan_covers h p z hq
by_covers Centroid {l = []} h p z hq = absurd (omega (arith, p.long))
by_covers Centroid {m} {l = c ∷ l} h p {q} z hq =
    by_test (centre_serves (centre_of c (c ∷ l)) (c ∷ l))
    (λ e. rw e (centroid_covers (centre_of c (c ∷ l)) l h p (serves_left (centre_of c (c ∷ l)) (c ∷ l) e) z hq)) (λ e. rw e (fan_covers h p z hq))

contour_covers : (how : ConvexSplitStrategy) {m : ℕ} {l : List Pt} → 3 ≤ m → Polygon l → {q : ℤ} (z : Pt) → pos 0 <ℤ q → Covered (split_contour how m l) q z ↔ Inside l q z
unfolding split_contour
contour_covers how {m} {l} h p {q} z hq = by_test (leb (length l) m) (λ e. rw e any_one) (λ e. rw e (by_covers how h p z hq))

pub split_covers : SplitCovers
split_covers how m l h s q z hq = Iff.trans (contour_covers how h (convex_polygon (test_convex l s)) z hq) (Iff.symm any_one)

-- ---- a mesh

pub split_parts_cover : SplitPartsCover
unfolding split_parts
split_parts_cover how m mesh h q z hq =
    Iff.trans (any_flatten (λ l. Inside l q z) (map (split_contour how (raised m)) (parts mesh)))
    (Iff.trans (any_image (Any (λ l. Inside l q z)) (split_contour how (raised m)) (parts mesh))
    (Iff.trans (any_iff (λ l. Covered (split_contour how (raised m) l) q z) (λ l. Inside l q z) (parts mesh) (all_map (parts mesh) (λ l p. contour_covers how {m = raised m} (omega arith) p z hq) (parts_polygons mesh h)))
    (parts_cover mesh h q z hq)))
