-- The nonzero edges of a list: laws of `live` of specs/Demand.antt. In order: with a zero edge and
-- with another in front; length; in two parts, rotated, backwards, negated; by cases (`live_by`),
-- nonzero, all where none is zero, their sum. Assumes nothing.
use mathlib.Core.Path.{◌≡◌, refl, sym, ◌∙◌, ap, subst}
use mathlib.Core.Bool.{true, false}
use mathlib.Core.List.{List, [], ◌∷◌, ◌++◌, map, append-nil, reverse, reverse-cons}
use Prim.Native.Nat.{ℕ, ◌≤◌}
use native.Mathlib.Omega.{arith}
use lib.ListN.{length, take, drop, take-append-drop}
use Rattle.integers.specs.Lists.{All, rotate}
use Rattle.integers.proofs.Order.{by_test}
use Rattle.integers.proofs.Rotation.{rotate_eq, rotate_append}
use Rattle.plane.specs.Plane.{Pt, O, ◌+ᵖ◌, negᵖ, is_zero}
use Rattle.plane.proofs.Vectors.{zero-+ᵖ, negᵖ_negᵖ, is_zero_true}
use Rattle.plane.specs.Halves.{Nz}
use Rattle.plane.proofs.Directions.{nz_of_test, nz_not_zero}
use Rattle.pair.specs.Demand.{live, sumᵖ}

-- a zero edge goes, another stays
pub live_zero : (e : Pt) (l : List Pt) → is_zero e ≡ true → live (e ∷ l) ≡ live l
unfolding live
live_zero e l h = rw h

pub live_keep : (e : Pt) (l : List Pt) → is_zero e ≡ false → live (e ∷ l) ≡ e ∷ live l
unfolding live
live_keep e l h = rw h

-- no more than there were
pub length_live : (l : List Pt) → length (live l) ≤ length l
length_live [] = unfold live in omega arith
length_live (e ∷ l) = by_test (is_zero e)
    (λ z. omega (arith, ap length (live_zero e l z), length_live l)) (λ z. omega (arith, ap length (live_keep e l z), length_live l))

-- of two parts, part by part
pub live_append : (l m : List Pt) → live (l ++ m) ≡ live l ++ live m
live_append [] m = unfold live in refl
live_append (e ∷ l) m = by_test (is_zero e)
    (λ z. live_zero e (l ++ m) z ∙ live_append l m ∙ ap (λ r. r ++ live m) (sym (live_zero e l z)))
    (λ z. live_keep e (l ++ m) z ∙ ap (λ r. e ∷ r) (live_append l m) ∙ ap (λ r. r ++ live m) (sym (live_keep e l z)))

-- begun after its first k edges: after those of the first k that are not zero
pub live_rotate : (k : ℕ) (l : List Pt) → live (rotate k l) ≡ rotate (length (live (take k l))) (live l)
live_rotate k l =
    ap live (rotate_eq k l) ∙ live_append (drop k l) (take k l) ∙ sym (rotate_append (live (take k l)) (live (drop k l)))
    ∙ ap (rotate (length (live (take k l)))) (sym (live_append (take k l) (drop k l)) ∙ ap live (take-append-drop k l))

-- backwards
pub live_reverse : (l : List Pt) → live (reverse l) ≡ reverse (live l)
live_reverse [] = unfold live in refl
live_reverse (e ∷ l) =
    ap live (reverse-cons e l) ∙ live_append (reverse l) (e ∷ []) ∙ ap (λ r. r ++ live (e ∷ [])) (live_reverse l)
    ∙ by_test (is_zero e)
    (λ z. ap (λ r. reverse (live l) ++ r) (live_zero e [] z ∙ nil) ∙ append-nil (reverse (live l)) ∙ ap reverse (sym (live_zero e l z)))
    (λ z. ap (λ r. reverse (live l) ++ r) (live_keep e [] z ∙ ap (λ r. e ∷ r) nil) ∙ sym (reverse-cons e (live l)) ∙ ap reverse (sym (live_keep e l z)))
  where
    nil : live [] ≡ []
    nil = unfold live in refl

-- -v is zero exactly where v is
is_zero_negᵖ : (v : Pt) → is_zero (negᵖ v) ≡ is_zero v
is_zero_negᵖ v = by_test (is_zero v)
    (λ z. ap (λ u. is_zero (negᵖ u)) (is_zero_true v z) ∙ ap is_zero (sym (is_zero_true v z)))
    (λ z. by_test (is_zero (negᵖ v)) (λ y. ap is_zero (is_zero_true (negᵖ v) y ∙ sym (ap negᵖ (is_zero_true (negᵖ v) y)) ∙ negᵖ_negᵖ v)) (λ y. y ∙ sym z))

-- negated
pub live_negᵖ : (l : List Pt) → live (map negᵖ l) ≡ map negᵖ (live l)
live_negᵖ [] = unfold live in refl
live_negᵖ (e ∷ l) = by_test (is_zero e)
    (λ z. live_zero (negᵖ e) (map negᵖ l) (is_zero_negᵖ e ∙ z) ∙ live_negᵖ l ∙ ap (map negᵖ) (sym (live_zero e l z)))
    (λ z. live_keep (negᵖ e) (map negᵖ l) (is_zero_negᵖ e ∙ z) ∙ ap (λ r. negᵖ e ∷ r) (live_negᵖ l) ∙ ap (map negᵖ) (sym (live_keep e l z)))

-- either
pub live_by : {e : Pt} (l : List Pt) (Q : List Pt → Type 0) → (e ≡ O → Q (live l)) → (Nz e → Q (e ∷ live l)) → Q (live (e ∷ l))
live_by {e} l Q f g =
    by_test (is_zero e) (λ h. subst Q (sym (live_zero e l h)) (f (is_zero_true e h))) (λ h. subst Q (sym (live_keep e l h)) (g (nz_of_test e h)))

-- they are nonzero
pub live_nz : (l : List Pt) → All Nz (live l)
live_nz [] = unfold live in tt
live_nz (e ∷ l) = live_by l (All Nz) (λ h. live_nz l) (λ h. (h, live_nz l))

-- they are all where none is zero
pub live_all : {l : List Pt} → All Nz l → live l ≡ l
live_all {l = []} n = unfold live in refl
live_all {l = e ∷ l} n = live_by l (λ r. r ≡ e ∷ l) (λ h. absurd (nz_not_zero n.0 h)) (λ h. ap (λ r. e ∷ r) (live_all {l = l} n.1))

-- zero edges add nothing
pub sum_live : (l : List Pt) → sumᵖ (live l) ≡ sumᵖ l
unfolding sumᵖ
sum_live [] = unfold live in refl
sum_live (e ∷ l) =
    live_by l (λ r. sumᵖ r ≡ e +ᵖ sumᵖ l) (λ h. sum_live l ∙ sym (ap (λ v. v +ᵖ sumᵖ l) h ∙ zero-+ᵖ (sumᵖ l)))
    (λ h. ap (λ v. e +ᵖ v) (sum_live l))
