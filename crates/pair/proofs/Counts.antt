-- Counts of the pairs that pass a test (`how_many` of specs/Premise.antt), and the neighbours round
-- a list of edges. In order: none pass, all pass; the same tests; mapped; the last and the first as
-- one pair before the others (`perm_last`); sorted lists. Assumes nothing.
use mathlib.Core.Path.{◌≡◌, refl, sym, ◌∙◌, ap, ap₂, subst}
use mathlib.Core.Bool.{Bool, true, false, not, cond}
use mathlib.Core.List.Permᴰ
use mathlib.Core.List.{List, [], ◌∷◌, ◌++◌, map, map-map, Permᴰ}
use Prim.Native.Nat.{ℕ, ◌+◌}
use native.Mathlib.Omega.{arith}
use borrow.Author.Tests.{not-false}
use Rattle.integers.specs.Lists.{All, sumℕ, links, neighbours}
use Rattle.integers.proofs.Elements.{all_map}
use Rattle.plane.specs.Plane.{Pt, angle_cmp, is_greater}
use Rattle.plane.proofs.Edges.{links_last}
use Rattle.plane.proofs.Directions.{Le, before, beside, after, angle_cases, clash}
use Rattle.pair.specs.Premise.{how_many}
use Rattle.plane.specs.Contour.{last_of}
use Rattle.pair.specs.Demand.{ascending}
use Rattle.pair.proofs.Convex.{Sorted}

-- 1 where a test passes
abbrev pub bit : Bool → ℕ
bit b = cond b 1 0

module _ (t : Pt × Pt → Bool) where
  -- one pair more
  pub count_cons : (c : Pt × Pt) (l : List (Pt × Pt)) → how_many t (c ∷ l) ≡ bit (t c) + how_many t l
  unfolding how_many
  count_cons c l = refl

  -- the count is a sum of ones
  pub count_sum : (l : List (Pt × Pt)) → how_many t l ≡ sumℕ (map (λ c. bit (t c)) l)
  unfolding how_many sumℕ
  count_sum [] = refl
  count_sum (c ∷ l) = ap (λ n. bit (t c) + n) (count_sum l)

  -- none pass
  pub all_count : (l : List (Pt × Pt)) → how_many t l ≡ 0 → All (λ c. t c ≡ false) l
  all_count [] h = tt
  all_count (c ∷ l) h = (fails (t c) (how_many t l) (sym (count_cons c l) ∙ h), all_count l (omega (arith, count_cons c l)))
    where
      fails : (b : Bool) (n : ℕ) → bit b + n ≡ 0 → b ≡ false
      fails true n h = absurd (omega arith)
      fails false n h = refl

  -- and conversely
  pub count_all : (l : List (Pt × Pt)) → All (λ c. t c ≡ false) l → how_many t l ≡ 0
  unfolding how_many
  count_all [] h = refl
  count_all (c ∷ l) h = ap₂ (λ b n. bit b + n) h.0 (count_all l h.1)

-- all pass
pub all_pass : (t : Pt × Pt → Bool) (l : List (Pt × Pt)) → how_many (λ c. not (t c)) l ≡ 0 → All (λ c. t c ≡ true) l
all_pass t l h = all_map l (λ c k. not-false (t c) k) (all_count (λ c. not (t c)) l h)

pub pass_all : (t : Pt × Pt → Bool) (l : List (Pt × Pt)) → All (λ c. t c ≡ true) l → how_many (λ c. not (t c)) l ≡ 0
pass_all t l h = count_all (λ c. not (t c)) l (all_map l (λ c k. ap not k) h)

-- tests that agree
pub count_same : (t u : Pt × Pt → Bool) (l : List (Pt × Pt)) → All (λ c. t c ≡ u c) l → how_many t l ≡ how_many u l
unfolding how_many
count_same t u [] h = refl
count_same t u (c ∷ l) h = ap₂ (λ b n. bit b + n) h.0 (count_same t u l h.1)

-- the count over f's images
pub count_map : (t : Pt × Pt → Bool) (f : Pt × Pt → Pt × Pt) (l : List (Pt × Pt)) → how_many t (map f l) ≡ how_many (λ c. t (f c)) l
count_map t f l = count_sum t (map f l) ∙ ap sumℕ (map-map (λ c. bit (t c)) f l) ∙ sym (count_sum (λ c. t (f c)) l)

-- ---- the last and the first

-- round e ∷ l: from the last to e, then along the list
pub perm_last : (e : Pt) (l : List Pt) → Permᴰ (neighbours (e ∷ l)) ((last_of e l, e) ∷ links e l)
unfolding neighbours
perm_last e l = subst (λ r. Permᴰ r ((last_of e l, e) ∷ links e l)) (sym (links_last e l e)) (Permᴰ.append_comm (links e l) ((last_of e l, e) ∷ []))

-- the last of e ∷ l is one of them
pub all_last : (P : Pt → Type 0) {e : Pt} (l : List Pt) → All P (e ∷ l) → P (last_of e l)
unfolding last_of
all_last P {e} [] h = h.0
all_last P {e} (f ∷ l) h = all_last P l h.1

-- neighbours of a sorted list
pub links_sorted : (R : Pt → Pt → Type 0) (e : Pt) (l : List Pt) → Sorted R (e ∷ l) → All (λ c. R c.0 c.1) (links e l)
unfolding links
links_sorted R e [] s = tt
links_sorted R e (f ∷ l) s = (s.0.0, links_sorted R f l s.1)

-- no direction of a weakly ascending list comes after the next one's
pub ascending_sorted : (l : List Pt) → Sorted Le l → ascending l ≡ true
unfolding ascending
ascending_sorted [] s = refl
ascending_sorted (e ∷ []) s = refl
ascending_sorted (e ∷ f ∷ l) s = ap₂ (λ b r. cond b false r) (not_after s.0.0) (ascending_sorted (f ∷ l) s.1)
  where
    not_after : Le e f → is_greater (angle_cmp e f) ≡ false
    not_after h = elim (angle_cases e f) [ before t k ↦ ap is_greater t | beside t k ↦ ap is_greater t | after t k ↦ absurd (clash k h) ]
