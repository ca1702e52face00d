-- Sums of edges. In order: `sumᵖ`; the sum over the edges whose direction passes a test (`total`),
-- and over those before a direction r (`cut`); on which side of r a sum lies, from the sides of its
-- edges; sums of integers at least 0. Assumes nothing.
use mathlib.Core.Path.{◌≡◌, refl, sym, ◌∙◌, ap, subst}
use mathlib.Core.Bool.{Bool, true, false, cond}
use mathlib.Core.List.{List, [], ◌∷◌, ◌++◌, map, Permᴰ}
use native.Mathlib.Omega.{arith}
use lib.IntN.{ℤ, pos, ◌+ℤ◌, +ℤ_invl}
use lib.Signed.{◌≤ℤ◌, ≤ℤ_refl}
use Rattle.integers.specs.Lists.{All, sumℤ}
use Rattle.integers.proofs.Ring.{con, pt}
use Rattle.integers.proofs.Order.{zarith, add_parts}
use Rattle.integers.proofs.Arith.{◌:=◌, ◌⇒◌, arithℤ}
use Rattle.integers.proofs.Sums.{sum_cons as sumℤ-cons}
use Rattle.integers.proofs.Elements.{all_map, all_image}
use Rattle.plane.specs.Plane.{Pt, O, ◌+ᵖ◌, negᵖ, cross, angle_cmp, is_less}
use Rattle.plane.proofs.Terms.{neg_e, cross_e}
use Rattle.plane.proofs.Vectors.{+ᵖ_assoc, +ᵖ-zero, zero-+ᵖ, cross_add_l, cross_add_r, cross_swap}
use Rattle.plane.specs.Halves.{Nz}
use Rattle.plane.proofs.Directions.{Le, Lt, Same, clash}
use Rattle.pair.specs.Demand.{sumᵖ}
use Rattle.plane.proofs.Sides.{+ᵖ_left, cross_zero_l, cross_zero_r, cross_neg_swap_r, Line, ahead, behind, ahead_cases, ahead_same}

-- ---- sums

-- one edge more
pub sum_cons : (e : Pt) (l : List Pt) → sumᵖ (e ∷ l) ≡ e +ᵖ sumᵖ l
unfolding sumᵖ
sum_cons e l = refl

module _ {P : Pt → Type 0} (add : (a b : Pt) → P a → P b → P (a +ᵖ b)) where
  -- what holds of all and of sums of two holds of the sum
  pub sum_all : P O → (l : List Pt) → All P l → P (sumᵖ l)
  unfolding sumᵖ
  sum_all z [] h = z
  sum_all z (e ∷ l) h = add e (sumᵖ l) h.0 (sum_all z l h.1)

  -- of at least one edge, without P of 0
  pub sum_some : {e : Pt} (l : List Pt) → All P (e ∷ l) → P (sumᵖ (e ∷ l))
  unfolding sumᵖ
  sum_some {e} [] h = subst P (sym (+ᵖ-zero e)) h.0
  sum_some {e} (f ∷ l) h = add e (sumᵖ (f ∷ l)) h.0 (sum_some l h.1)

-- ---- the edges whose direction passes a test

-- an edge that passes, else 0
abbrev pub one : (Pt → Bool) → Pt → Pt
one p e = cond (p e) e O

-- the sum of those that pass
unfoldable pub total : (Pt → Bool) → List Pt → Pt
total p [] = O
total p (e ∷ l) = one p e +ᵖ total p l

-- all of them
pub total_sum : (l : List Pt) → total (λ e. true) l ≡ sumᵖ l
unfolding total sumᵖ
total_sum [] = refl
total_sum (e ∷ l) = ap (λ v. e +ᵖ v) (total_sum l)

module _ (p : Pt → Bool) where
  -- of two lists, one after the other
  pub total_append : (l m : List Pt) → total p (l ++ m) ≡ total p l +ᵖ total p m
  unfolding total
  total_append [] m = sym (zero-+ᵖ (total p m))
  total_append (e ∷ l) m = ap (λ v. one p e +ᵖ v) (total_append l m) ∙ sym (+ᵖ_assoc (one p e) (total p l) (total p m))

  -- in another order
  pub total_perm : {l m : List Pt} → Permᴰ l m → total p l ≡ total p m
  unfolding total
  total_perm Permᴰ.nil = refl
  total_perm (Permᴰ.cons e h) = λ i. one p (e i) +ᵖ total_perm h i
  total_perm (Permᴰ.swap {a = a} {b = b} {l = l} e f) =
      +ᵖ_left (one p a) (one p b) (total p l) ∙ +ᵖ_assoc (one p b) (one p a) (total p l) ∙ (λ i. one p (f i) +ᵖ (one p (e i) +ᵖ total p l))
  total_perm (Permᴰ.trans h k) = total_perm h ∙ total_perm k

-- a set of directions: a test that does not tell two of one direction apart
abbrev pub Dirs : (Pt → Bool) → Type 0
Dirs p = (a b : Pt) → Nz a → Nz b → Same a b → p a ≡ p b

-- ---- the edges before r

-- e's direction comes before r's
abbrev pub ahead_of : Pt → Pt → Bool
ahead_of r e = is_less (angle_cmp e r)

-- the sum of the edges before r
abbrev pub cut : Pt → List Pt → Pt
cut r l = total (ahead_of r) l

-- the directions before r are such a set
pub dirs_ahead : {r : Pt} → Nz r → Dirs (ahead_of r)
dirs_ahead {r} nr a b na nb s = ahead_same na nb nr s

-- an edge before r counts
pub cut_take : (r e : Pt) (l : List Pt) → ahead_of r e ≡ true → cut r (e ∷ l) ≡ e +ᵖ cut r l
unfolding total
cut_take r e l h = ap (λ b. cond b e O +ᵖ cut r l) h

-- another does not
pub cut_skip : (r e : Pt) (l : List Pt) → ahead_of r e ≡ false → cut r (e ∷ l) ≡ cut r l
unfolding total
cut_skip r e l h = ap (λ b. cond b e O +ᵖ cut r l) h ∙ zero-+ᵖ (cut r l)

-- none before r, and all before r
pub cut_none : (r : Pt) (l : List Pt) → All (Le r) l → cut r l ≡ O
cut_none r [] h = unfold total in refl
cut_none r (e ∷ l) h = elim (ahead_cases e r) [ ahead t k ↦ absurd (clash k h.0) | behind t k ↦ cut_skip r e l t ∙ cut_none r l h.1 ]

-- all before r
pub cut_whole : (r : Pt) (l : List Pt) → All (λ e. Lt e r) l → cut r l ≡ sumᵖ l
unfolding sumᵖ
cut_whole r [] h = unfold total in refl
cut_whole r (e ∷ l) h = elim (ahead_cases e r) [ ahead t k ↦ cut_take r e l t ∙ ap (λ v. e +ᵖ v) (cut_whole r l h.1) | behind t k ↦ absurd (clash h.0 k) ]

-- ---- sides

-- a sum of two at least 0
nn_add' : {a b : ℤ} {s : ℤ} → s ≡ a +ℤ b → pos 0 ≤ℤ a → pos 0 ≤ℤ b → pos 0 ≤ℤ s
nn_add' {a} {b} e h k = omega (zarith, add_parts a b)

module _ (r : Pt) where
  -- edges left of r add up left of it
  pub sum_left : (l : List Pt) → All (λ e. pos 0 ≤ℤ cross e r) l → pos 0 ≤ℤ cross (sumᵖ l) r
  sum_left = sum_all (λ a b h k. nn_add' (cross_add_l a b r) h k)
      (subst (λ z. pos 0 ≤ℤ z) (sym (cross_zero_l r)) (≤ℤ_refl (pos 0)))

  -- and those right of it right
  pub sum_right : (l : List Pt) → All (λ e. pos 0 ≤ℤ cross r e) l → pos 0 ≤ℤ cross r (sumᵖ l)
  sum_right = sum_all (λ a b h k. nn_add' (cross_add_r r a b) h k)
      (subst (λ z. pos 0 ≤ℤ z) (sym (cross_zero_r r)) (≤ℤ_refl (pos 0)))

  -- the edges before r lie left of it, so their sum does
  pub cut_left : (l : List Pt) → All (λ e. Lt e r → pos 0 ≤ℤ cross e r) l → pos 0 ≤ℤ cross (cut r l) r
  cut_left [] h = unfold total in subst (λ z. pos 0 ≤ℤ z) (sym (cross_zero_l r)) (≤ℤ_refl (pos 0))
  cut_left (e ∷ l) h = elim (ahead_cases e r) [
    | ahead t k ↦ nn_add' (ap (λ v. cross v r) (cut_take r e l t) ∙ cross_add_l e (cut r l) r) (h.0 k) (cut_left l h.1)
    | behind t k ↦ subst (λ v. pos 0 ≤ℤ cross v r) (sym (cut_skip r e l t)) (cut_left l h.1)
  ]

  -- the same added to both sides
  more : (e : ℤ) {s c : ℤ} {s' c' : ℤ} → s' ≡ e +ℤ s → c' ≡ e +ℤ c → s ≤ℤ c → s' ≤ℤ c'
  more e {s} {c} p q h = omega (zarith, add_parts e s, add_parts e c)

  -- what is at most 0 added to the lesser side
  less : (e : ℤ) {f s c : ℤ} {s' : ℤ} → s' ≡ e +ℤ s → (e +ℤ f) ≡ pos 0 → pos 0 ≤ℤ f → s ≤ℤ c → s' ≤ℤ c
  less e {f} {s} p q h k = omega (zarith, add_parts e s, add_parts e f)

  -- the others lie right of it, so leaving them out loses nothing
  pub cut_most : (l : List Pt) → All (λ e. Le r e → pos 0 ≤ℤ cross r e) l → cross (sumᵖ l) r ≤ℤ cross (cut r l) r
  unfolding sumᵖ
  cut_most [] h = unfold total in ≤ℤ_refl (cross O r)
  cut_most (e ∷ l) h = elim (ahead_cases e r) [
    | ahead t k ↦
        more (cross e r)
        (cross_add_l e (sumᵖ l) r) (ap (λ v. cross v r) (cut_take r e l t) ∙ cross_add_l e (cut r l) r) (cut_most l h.1)
    | behind t k ↦
        subst (λ v. cross (e +ᵖ sumᵖ l) r ≤ℤ cross v r) (sym (cut_skip r e l t))
        (less (cross e r) (cross_add_l e (sumᵖ l) r) (opposite e) (h.0 k) (cut_most l h.1))
  ]
    where
      opposite : (e : Pt) → cross e r +ℤ cross r e ≡ pos 0
      opposite e = ap (λ k. k +ℤ cross r e) (cross_swap e r) ∙ +ℤ_invl (cross r e)

-- ---- sums of integers at least 0

-- a sum of terms at least 0
pub nn_sum : (l : List ℤ) → All (λ k. pos 0 ≤ℤ k) l → pos 0 ≤ℤ sumℤ l
nn_sum [] h = unfold sumℤ in ≤ℤ_refl (pos 0)
nn_sum (k ∷ l) h = nn_add' (sumℤ-cons k l) h.0 (nn_sum l h.1)

-- a sum not above 0 has each term 0
pub zero_sum : (l : List ℤ) → All (λ k. pos 0 ≤ℤ k) l → sumℤ l ≤ℤ pos 0 → All (λ k. k ≡ pos 0) l
zero_sum [] h z = tt
zero_sum (k ∷ l) h z = let r = apart (sumℤ-cons k l) h.0 (nn_sum l h.1) z in (r.0, zero_sum l h.1 r.1)
  where
    apart : {k m : ℤ} {s : ℤ} → s ≡ k +ℤ m → pos 0 ≤ℤ k → pos 0 ≤ℤ m → s ≤ℤ pos 0 → (k ≡ pos 0) × (m ≤ℤ pos 0)
    apart {k} {m} e h n z = (omega (zarith, add_parts k m), omega (zarith, add_parts k m))

-- edges none of which lies right of v, and that add up to 0, lie along v
pub all_line_left : (v : Pt) (l : List Pt) → All (λ g. pos 0 ≤ℤ cross g v) l → sumᵖ l ≡ O → All (Line v) l
unfolding sumᵖ sumℤ
all_line_left v l h z =
    (all_image (λ k. k ≡ pos 0) (λ g. cross g v) l).0
    (zero_sum (map (λ g. cross g v) l) ((all_image (λ k. pos 0 ≤ℤ k) (λ g. cross g v) l).1 h) (at_most (sym (crosses l) ∙ ap (λ s. cross s v) z ∙ cross_zero_l v)))
  where
    crosses : (l : List Pt) → cross (sumᵖ l) v ≡ sumℤ (map (λ g. cross g v) l)
    crosses [] = cross_zero_l v
    crosses (e ∷ l) = cross_add_l e (sumᵖ l) v ∙ ap (λ k. cross e v +ℤ k) (crosses l)

    at_most : {k : ℤ} → k ≡ pos 0 → k ≤ℤ pos 0
    at_most e = omega zarith

-- nor left of it
pub all_line_right : (v : Pt) (l : List Pt) → All (λ g. pos 0 ≤ℤ cross v g) l → sumᵖ l ≡ O → All (Line v) l
all_line_right v l h z =
    all_map l (λ g k. line_of v g k)
    (all_line_left (negᵖ v) l (all_map l (λ g k. subst (λ m. pos 0 ≤ℤ m) (sym (cross_neg_swap_r g v)) k) h) z)
  where
    line_of : (v g : Pt) → cross g (negᵖ v) ≡ pos 0 → cross g v ≡ pos 0
    line_of = arithℤ (pt ∷ pt ∷ []) (λ v g. cross_e g (neg_e v) := con (pos 0) ⇒ cross_e g v := con (pos 0)) (omega arith)
