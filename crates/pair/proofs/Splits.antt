-- A sorted list of edges in two parts (`Split`), to walk along it with the edges before as a bag;
-- and the corners of a strictly ascending list: each is the first plus the cut at the edge out of
-- it (`corners_cuts`), and an edge goes from its own cut to the next one's (`cut_next`). Assumes
-- nothing.
use mathlib.Core.Path.{◌≡◌, refl, sym, ◌∙◌, ap, ap₂}
use mathlib.Core.Bool.{Bool, true}
use mathlib.Core.List.Permᴰ
use mathlib.Core.List.{List, [], ◌∷◌, ◌++◌, map, Permᴰ}
use Rattle.integers.specs.Lists.{All, links, neighbours}
use Rattle.integers.proofs.Elements.{all_map, all_append, all_perm}
use Rattle.plane.specs.Plane.{Pt, O, ◌+ᵖ◌}
use Rattle.plane.proofs.Vectors.{+ᵖ_comm, +ᵖ-zero}
use Rattle.plane.proofs.Directions.{Lt, lt_le, le_refl}
use Rattle.pair.specs.Demand.{sumᵖ}
use Rattle.pair.specs.Berg.{corners_from}
use Rattle.plane.proofs.Sides.{+ᵖ_next}
use Rattle.pair.proofs.Convex.{Sorted}
use Rattle.pair.proofs.Totals.{total, total_sum, total_append, total_perm, cut, cut_none, cut_whole, sum_cons}

-- M is A, in some order, before B
pub record Split (R : Pt → Pt → Type 0) (M A B : List Pt) : Type 0 where
  pub perm : Permᴰ (A ++ B) M
  pub link : All (λ a. All (R a) B) A
  pub sorted : Sorted R B

-- nothing before
pub split_start : {R : Pt → Pt → Type 0} {M : List Pt} → Sorted R M → Split R M [] M
split_start {M} s = record { perm = Permᴰ.refl M; link = tt; sorted = s }

module _ {R : Pt → Pt → Type 0} {M A B : List Pt} where
  -- one edge on
  pub split_next : {b : Pt} → Split R M A (b ∷ B) → Split R M (b ∷ A) B
  split_next {b} s = record {
    perm = Permᴰ.trans (Permᴰ.symm (Permᴰ.middle b A B)) s.perm;
    link = (s.sorted.0, all_map A (λ a k. k.1) s.link);
    sorted = s.sorted.1;
  }

  -- all before b stand in R to b
  pub split_before : {b : Pt} → Split R M A (b ∷ B) → All (λ a. R a b) A
  split_before s = all_map A (λ a k. k.0) s.link

  -- what holds of all of M holds of both parts, and conversely
  pub split_all : (P : Pt → Type 0) → Split R M A B → All P M → All P A × All P B
  split_all P s h = (all_append P A B).0 (all_perm P (Permᴰ.symm s.perm) h)

  -- and of both parts, so of all
  pub all_split : (P : Pt → Type 0) → Split R M A B → All P A → All P B → All P M
  all_split P s h k = all_perm P s.perm ((all_append P A B).1 (h, k))

  -- the totals of both parts add
  pub split_total : (p : Pt → Bool) → Split R M A B → total p A +ᵖ total p B ≡ total p M
  split_total p s = sym (total_append p A B) ∙ total_perm p s.perm

  -- and the sums
  pub split_sum : Split R M A B → sumᵖ A +ᵖ sumᵖ B ≡ sumᵖ M
  split_sum s = (λ i. sym (total_sum A) i +ᵖ sym (total_sum B) i) ∙ split_total (λ e. true) s ∙ total_sum M

-- ---- the corners of a strictly ascending list

-- the sum of one
sum_one : (a : Pt) → sumᵖ (a ∷ []) ≡ a
unfolding sumᵖ
sum_one a = +ᵖ-zero a

module _ {M : List Pt} where
  -- the edges before b's direction are those before b
  pub cut_split : {A B : List Pt} {b : Pt} → Split Lt M A (b ∷ B) → cut b M ≡ sumᵖ A
  cut_split {A} {B} {b} s =
      sym (split_total _ s) ∙ (λ i. cut_whole b A (split_before s) i +ᵖ cut_none b (b ∷ B) (le_refl b, all_map B (λ a k. lt_le k) s.sorted.0) i)
      ∙ +ᵖ-zero (sumᵖ A)

  -- of the corners from q = P + ΣA on
  corners_from_lem : (P : Pt) {q : Pt} {A B : List Pt} → Split Lt M A B → q ≡ P +ᵖ sumᵖ A → corners_from q B ≡ map (λ b. P +ᵖ cut b M) B
  unfolding corners_from
  corners_from_lem P {B = []} s e = refl
  corners_from_lem P {q = q} {A = A} {B = b ∷ B} s e =
      ap₂ ◌∷◌ (e ∙ ap (λ v. P +ᵖ v) (sym (cut_split s)))
      (corners_from_lem P {q = q +ᵖ b} {A = b ∷ A} {B = B} (split_next s) (ap (λ v. v +ᵖ b) e ∙ +ᵖ_next P (sumᵖ A) b ∙ ap (λ v. P +ᵖ v) (sym (sum_cons b A))))

  -- along the list from a, and to the first edge f at its end
  cuts_from : (f : Pt) → cut f M ≡ O → sumᵖ M ≡ O → {A : List Pt} {a : Pt} (B : List Pt) → Split Lt M A (a ∷ B) → All (λ c. cut c.1 M ≡ c.0 +ᵖ cut c.0 M) (links a (B ++ (f ∷ [])))
  unfolding links
  cuts_from f e z {A} {a} [] s =
      (e ∙ sym z ∙ sym (split_sum s) ∙ +ᵖ_comm (sumᵖ A) (sumᵖ (a ∷ [])) ∙ ap₂ ◌+ᵖ◌ (sum_one a) (sym (cut_split s)), tt)
  cuts_from f e z {A} {a} (b ∷ B) s =
      (cut_split (split_next s) ∙ sum_cons a A ∙ ap (λ v. a +ᵖ v) (sym (cut_split s)), cuts_from f e z B (split_next s))

-- each corner is the first one plus the cut at the edge out of it
pub corners_cuts : (P : Pt) (M : List Pt) → Sorted Lt M → corners_from P M ≡ map (λ b. P +ᵖ cut b M) M
unfolding sumᵖ
corners_cuts P M s = corners_from_lem P (split_start s) (sym (+ᵖ-zero P))

-- an edge goes from the cut at it to the cut at the next, round a closed list
pub cut_next : (M : List Pt) → Sorted Lt M → sumᵖ M ≡ O → All (λ c. cut c.1 M ≡ c.0 +ᵖ cut c.0 M) (neighbours M)
unfolding neighbours
cut_next [] s z = tt
cut_next (e ∷ l) s z = cuts_from e (cut_split (split_start s) ∙ (unfold sumᵖ in refl)) z l (split_start s)
