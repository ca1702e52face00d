-- The bounds of points are the least and greatest of each coordinate (`mesh_bounded`). In order:
-- the least of a coordinate and the greatest; both coordinates; a mesh. Assumes nothing.
use mathlib.Core.Path.{◌≡◌, refl, sym, ◌∙◌, subst}
use mathlib.Core.Bool.{true}
use mathlib.Core.List.{List, [], ◌∷◌}
use mathlib.Core.Logic.{◌⊎◌, inl, inr, ⊎_elim}
use lib.IntN.{ℤ}
use lib.Signed.{◌≤ℤ◌, le_z}
use Rattle.integers.specs.Lists.{All, Any}
use Rattle.integers.proofs.Order.{zarith, by_test, ≤_trans}
use Rattle.integers.proofs.Tests.{le_z-≤, le_z-<, ≤-le_z}
use Rattle.plane.specs.Plane.{Pt}
use Rattle.table.specs.declared.IntRect.{IntRect}
use Rattle.table.specs.Table.{within_bounds}
use Rattle.mesh_bounds.specs.Bounds.{lesser, greater, widened, widened_by, point_bounds, vertices_of, bounds_of, Bounding, MeshBounded}

-- ---- two numbers

module _ (a b : ℤ) where
  lesser_below : (lesser a b ≤ℤ a) × (lesser a b ≤ℤ b)
  lesser_below = by_test (le_z a b) (λ e. rw e (omega zarith, le_z-≤ a b e)) (λ e. rw e (let k = le_z-< a b e in omega zarith, omega zarith))

  lesser_one : (lesser a b ≡ a) ⊎ (lesser a b ≡ b)
  lesser_one = by_test (le_z a b) (λ e. rw e (inl refl)) (λ e. rw e (inr refl))

  greater_above : (a ≤ℤ greater a b) × (b ≤ℤ greater a b)
  greater_above = by_test (le_z a b) (λ e. rw e (le_z-≤ a b e, omega zarith)) (λ e. rw e (omega zarith, let k = le_z-< a b e in omega zarith))

  greater_one : (greater a b ≡ a) ⊎ (greater a b ≡ b)
  greater_one = by_test (le_z a b) (λ e. rw e (inr refl)) (λ e. rw e (inl refl))

-- ---- a coordinate of points

module _ (f : Pt → ℤ) where
  abbrev least_from : ℤ → List Pt → ℤ
  least_from a [] = a
  least_from a (p ∷ l) = least_from (lesser a (f p)) l

  abbrev greatest_from : ℤ → List Pt → ℤ
  greatest_from a [] = a
  greatest_from a (p ∷ l) = greatest_from (greater a (f p)) l

  least_below : (a : ℤ) (l : List Pt) → (least_from a l ≤ℤ a) × All (λ p. least_from a l ≤ℤ f p) l
  least_below a [] = (omega zarith, tt)
  least_below a (p ∷ l) = let r = least_below (lesser a (f p)) l in let k = lesser_below a (f p) in (≤_trans r.0 k.0, (≤_trans r.0 k.1, r.1))

  greatest_above : (a : ℤ) (l : List Pt) → (a ≤ℤ greatest_from a l) × All (λ p. f p ≤ℤ greatest_from a l) l
  greatest_above a [] = (omega zarith, tt)
  greatest_above a (p ∷ l) = let r = greatest_above (greater a (f p)) l in let k = greater_above a (f p) in (≤_trans k.0 r.0, (≤_trans k.1 r.0, r.1))

  least_some : (a : ℤ) (l : List Pt) → (least_from a l ≡ a) ⊎ Any (λ p. f p ≡ least_from a l) l
  least_some a [] = inl refl
  least_some a (p ∷ l) = ⊎_elim (λ e. ⊎_elim (λ k. inl (e ∙ k)) (λ k. inr (inl (sym (e ∙ k)))) (lesser_one a (f p))) (λ r. inr (inr r)) (least_some (lesser a (f p)) l)

  greatest_some : (a : ℤ) (l : List Pt) → (greatest_from a l ≡ a) ⊎ Any (λ p. f p ≡ greatest_from a l) l
  greatest_some a [] = inl refl
  greatest_some a (p ∷ l) = ⊎_elim (λ e. ⊎_elim (λ k. inl (e ∙ k)) (λ k. inr (inl (sym (e ∙ k)))) (greater_one a (f p))) (λ r. inr (inr r)) (greatest_some (greater a (f p)) l)

-- ---- both coordinates

abbrev extremes : IntRect → List Pt → IntRect
extremes b l = record {
  min_x = least_from (λ p. p.x) b.min_x l;
  max_x = greatest_from (λ p. p.x) b.max_x l;
  min_y = least_from (λ p. p.y) b.min_y l;
  max_y = greatest_from (λ p. p.y) b.max_y l;
}

widened_extremes : (b : IntRect) (l : List Pt) → widened_by b l ≡ extremes b l
unfolding widened_by
widened_extremes b [] = refl
widened_extremes b (p ∷ l) = widened_extremes (widened b p) l

pub within_all : {b : IntRect} {p : Pt} → b.min_x ≤ℤ p.x → p.x ≤ℤ b.max_x → b.min_y ≤ℤ p.y → p.y ≤ℤ b.max_y → within_bounds b p ≡ true
unfolding within_bounds
within_all h k l m = rw (≤-le_z h, ≤-le_z k, ≤-le_z l, ≤-le_z m)

-- what four properties give, of each point
all_four : {A B C D : Pt → Type 0} {E : Pt → Type 0} (l : List Pt) → ((p : Pt) → A p → B p → C p → D p → E p) → All A l → All B l → All C l → All D l → All E l
all_four [] f a b c d = tt
all_four {E} (p ∷ l) f a b c d = (f p a.0 b.0 c.0 d.0, all_four l f a.1 b.1 c.1 d.1)

extremes_bound : (p : Pt) (l : List Pt) → Bounding (extremes (point_bounds p) (p ∷ l)) (p ∷ l)
extremes_bound p l = record {
  within = all_four (p ∷ l) (λ q a b c d. within_all a b c d) (least_below (λ q. q.x) p.x (p ∷ l)).1 (greatest_above (λ q. q.x) p.x (p ∷ l)).1 (least_below (λ q. q.y) p.y (p ∷ l)).1 (greatest_above (λ q. q.y) p.y (p ∷ l)).1;
  least_x = ⊎_elim (λ e. inl (sym e)) (λ r. r) (least_some (λ q. q.x) p.x (p ∷ l));
  greatest_x = ⊎_elim (λ e. inl (sym e)) (λ r. r) (greatest_some (λ q. q.x) p.x (p ∷ l));
  least_y = ⊎_elim (λ e. inl (sym e)) (λ r. r) (least_some (λ q. q.y) p.y (p ∷ l));
  greatest_y = ⊎_elim (λ e. inl (sym e)) (λ r. r) (greatest_some (λ q. q.y) p.y (p ∷ l));
}

pub bounds_bound : (p : Pt) (l : List Pt) → Bounding (bounds_of (p ∷ l)) (p ∷ l)
unfolding bounds_of
bounds_bound p l = subst (λ b. Bounding b (p ∷ l)) (sym (widened_extremes (point_bounds p) (p ∷ l))) (extremes_bound p l)

pub mesh_bounded : MeshBounded
unfolding vertices_of
mesh_bounded t m = bounds_bound t.v0 (t.v1 ∷ t.v2 ∷ vertices_of m)
