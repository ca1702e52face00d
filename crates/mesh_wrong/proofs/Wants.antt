-- What a field should be, by the tests that the code makes. In order: of the first line; of a
-- triangle's; one field after another. Assumes nothing.
use mathlib.Core.Path.{◌≡◌, sym, ◌∙◌, ap}
use mathlib.Core.Bool.{Bool, true, false, cond}
use mathlib.Core.List.{List}
use Prim.Native.Nat.{ℕ, suc, ◌+◌, ◌-◌, ◌≤◌, ◌<◌}
use native.Mathlib.Omega.{arith}
use borrow.Author.Tests.{eq-eqb, ne_eqb, lt-ltb, le-ltb}
use Rattle.fields.specs.Fields.{field_of}
use Rattle.mesh_wrong.specs.declared.Wanted.{Wanted}
use Rattle.mesh_wrong.specs.declared.Wanted.TheVariants as wanted
use Rattle.mesh_wrong.specs.Wanted.{wanted_at, is_wanted, wrong_field_from}

-- ---- of the first line

module _ {k j : ℕ} (e : k ≡ 0) where
  pub name_wanted : j ≡ 0 → wanted.Name ≡ wanted_at k j
  unfolding wanted_at
  name_wanted f = rw (eq-eqb k 0 e, eq-eqb j 0 f)

  module _ (f : j ≡ 0 → ⊥) where
    pub limit_wanted : j ≡ 1 → wanted.Limit ≡ wanted_at k j
    unfolding wanted_at
    limit_wanted g = rw (eq-eqb k 0 e, ne_eqb j 0 f, eq-eqb j 1 g)

    module _ (g : j ≡ 1 → ⊥) where
      pub split_wanted : j ≡ 2 → wanted.Split ≡ wanted_at k j
      unfolding wanted_at
      split_wanted h = rw (eq-eqb k 0 e, ne_eqb j 0 f, ne_eqb j 1 g, eq-eqb j 2 h)

      pub head_ends : (j ≡ 2 → ⊥) → wanted.End ≡ wanted_at k j
      unfolding wanted_at
      head_ends h = rw (eq-eqb k 0 e, ne_eqb j 0 f, ne_eqb j 1 g, ne_eqb j 2 h)

-- ---- of a triangle's

module _ {k j : ℕ} (e : k ≡ 0 → ⊥) where
  pub point_wanted : j < 3 → wanted.Point ≡ wanted_at k j
  unfolding wanted_at
  point_wanted f = rw (ne_eqb k 0 e, lt-ltb j 3 f)

  module _ (f : 3 ≤ j) where
    pub neighbour_wanted : j < 6 → wanted.Neighbour ≡ wanted_at k j
    unfolding wanted_at
    neighbour_wanted g = rw (ne_eqb k 0 e, le-ltb j 3 f, lt-ltb j 6 g)

    pub triangle_ends : 6 ≤ j → wanted.End ≡ wanted_at k j
    unfolding wanted_at
    triangle_ends g = rw (ne_eqb k 0 e, le-ltb j 3 f, le-ltb j 6 g)

-- ---- one field after another

pub field_tested : (k : ℕ) (l : List ℕ) (j : ℕ) {w : Wanted} {e : List ℕ} {r b : Bool} → w ≡ wanted_at k j → e ≡ field_of j l → r ≡ is_wanted w e → r ≡ b
    → is_wanted (wanted_at k j) (field_of j l) ≡ b
field_tested k l j p q s t = sym (λ i. is_wanted (p i) (q i)) ∙ sym s ∙ t

module _ (k : ℕ) (l : List ℕ) (j : ℕ) where
  step : (n : ℕ) {b : Bool} → is_wanted (wanted_at k j) (field_of j l) ≡ b → wrong_field_from (suc n) k l j ≡ cond b (wrong_field_from n k l (j + 1)) j
  unfolding wrong_field_from
  step n e = ap (λ b. cond b (wrong_field_from n k l (j + 1)) j) e

  module _ (h : j < 7) where
    left : 7 - j ≡ suc (7 - (j + 1))
    left = omega arith

    pub field_right : is_wanted (wanted_at k j) (field_of j l) ≡ true → wrong_field_from (7 - j) k l j ≡ wrong_field_from (7 - (j + 1)) k l (j + 1)
    field_right e = ap (λ n. wrong_field_from n k l j) left ∙ step (7 - (j + 1)) e

    pub field_wrong : is_wanted (wanted_at k j) (field_of j l) ≡ false → wrong_field_from (7 - j) k l j ≡ j
    field_wrong e = ap (λ n. wrong_field_from n k l j) left ∙ step (7 - (j + 1)) e

  pub fields_over : 7 ≤ j → wrong_field_from (7 - j) k l j ≡ j
  unfolding wrong_field_from
  fields_over h = let z : 7 - j ≡ 0 = omega arith in ap (λ n. wrong_field_from n k l j) z
