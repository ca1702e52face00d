-- Joining ends: twice the triangles not yet taken, and the edges on the stack, are fewer with each
-- edge taken from the top (`step_less`), so `enough` edges are taken at the most and the stack is
-- empty then (`region_ends`), and more would change nothing (`grow_done`). Assumes nothing.
use mathlib.Core.Path.{◌≡◌, refl, sym, ◌∙◌, ap, subst}
use mathlib.Core.Bool.{Bool, true, false, cond}
use mathlib.Core.List.{List, [], ◌∷◌, ◌++◌, append_assoc}
use Prim.Native.Nat.{ℕ, zero, suc, ◌+◌, ◌*◌, ◌≤◌, ◌<◌}
use native.Mathlib.Omega.{arith}
use borrow.Author.Tests.{ltb-true, ltb-false}
use lib.Dec.{eqb, ltb}
use lib.ListN.{length, get_or, get_or-eq_default}
use Rattle.integers.proofs.Order.{by_test}
use Rattle.mesh.specs.Mesh.{Triangle, Mesh, none, vertex, neighbour, after, before, triangle_at, no_triangle, opposite}
use Rattle.convex.specs.Joining.{Corner, Edge, Region, stacked, start, joined, joins_at, is_in, dropped, step, grow, enough, region}
use Rattle.convex.proofs.Taken.{is_in_append, untaken, untaken_le, untaken_take, untaken_out}

-- how much is left to do
abbrev pub left : Mesh → List ℕ → Region → ℕ
left m seen r = 2 * untaken (length m) (seen ++ r.taken) + length r.stack

-- ---- the stack grows by no more than one

stacked_le : (i x a b : ℕ) (s : List Edge) → length (stacked i x a b s) ≤ length s + 1
unfolding stacked
stacked_le i x a b s = by_test (eqb x none) (λ e. rw e (omega arith)) (λ e. rw e (omega arith))

neighbour_nothing : (i : ℕ) → neighbour no_triangle i ≡ none
unfolding neighbour
neighbour_nothing zero = refl
neighbour_nothing (suc zero) = refl
neighbour_nothing (suc (suc i)) = refl

stacked_nothing : (i j a b : ℕ) (s : List Edge) → stacked i (neighbour no_triangle j) a b s ≡ s
unfolding stacked
stacked_nothing i j a b s = rw (neighbour_nothing j)

-- two edges stacked, whichever they are
two_stacked : (i x y a b c d : ℕ) (s : List Edge) {q : List Edge} → q ≡ stacked i x a b (stacked i y c d s) → length q ≤ length s + 2
two_stacked i x y a b c d s e = omega (arith, ap length e, stacked_le i x a b (stacked i y c d s), stacked_le i y c d s)

-- across from no triangle none is
none_stacked : (i j k a b c d : ℕ) {t : Triangle} (s : List Edge) {q : List Edge} → t ≡ no_triangle → q ≡ stacked i (neighbour t j) a b (stacked i (neighbour t k) c d s) → q ≡ s
none_stacked i j k a b c d {t} s h e =
    e ∙ ap (λ t. stacked i (neighbour t j) a b (stacked i (neighbour t k) c d s)) h ∙ stacked_nothing i j a b _ ∙ stacked_nothing i k c d s

-- ---- each edge taken leaves less to do

module _ (m : Mesh) (seen : List ℕ) {e : Edge} {s : List Edge} (r : Region) (h : r.stack ≡ e ∷ s) where
  abbrev u : Triangle
  u = triangle_at m e.across

  abbrev v : ℕ
  v = opposite u e.inside

  dropped_less : left m seen (dropped s r) < left m seen r
  dropped_less = omega (arith, ap length h)

  abbrev next : Region
  next = joined e u v s r.contour r.taken

  joined_less : is_in e.across (seen ++ r.taken) ≡ false → left m seen next < left m seen r
  unfolding joined
  joined_less f = by_test (ltb e.across (length m)) (λ t. inside (ltb-true _ _ t)) (λ t. outside (ltb-false _ _ t))
    where
      grouped : seen ++ (r.taken ++ (e.across ∷ [])) ≡ (seen ++ r.taken) ++ (e.across ∷ [])
      grouped = sym (append_assoc seen r.taken (e.across ∷ []))

      two : length next.stack ≤ length s + 2
      two = two_stacked _ _ _ _ _ _ _ s refl

      inside : e.across < length m → left m seen next < left m seen r
      inside g = rw grouped (omega (arith, untaken_take e.across (seen ++ r.taken) f (length m) g, two, ap length h))

      outside : length m ≤ e.across → left m seen next < left m seen r
      outside g =
          let q : triangle_at m e.across ≡ no_triangle = get_or-eq_default m no_triangle g in
          let none-new : next.stack ≡ s = none_stacked _ _ _ _ _ _ _ s q refl in
          rw grouped (omega (arith, untaken_out e.across (seen ++ r.taken) f g, ap length none-new, ap length h))

  pub step_less : left m seen (step m seen e s r) < left m seen r
  unfolding step
  step_less =
      by_test (is_in e.across (seen ++ r.taken)) (λ t. rw t dropped_less)
      (λ t. rw t (by_test (joins_at e u v r.contour) (λ j. rw j (joined_less t)) (λ j. rw j dropped_less)))

-- ---- so the stack is empty at the end

-- with no edge left nothing changes
pub grow_done : (n : ℕ) (m : Mesh) (seen : List ℕ) (r : Region) → r.stack ≡ [] → grow n m seen r ≡ r
unfolding grow
grow_done zero m seen r h = refl
grow_done (suc n) m seen r h = rw h

-- the top edge is taken first
pub grow_step : (n : ℕ) (m : Mesh) (seen : List ℕ) {e : Edge} {s : List Edge} (r : Region) → r.stack ≡ e ∷ s → grow (suc n) m seen r ≡ grow n m seen (step m seen e s r)
unfolding grow
grow_step n m seen r h = rw h

by_stack : {X : Type 0} (r : Region) {s : List Edge} → r.stack ≡ s → (r.stack ≡ [] → X) → ((e : Edge) (s : List Edge) → r.stack ≡ e ∷ s → X) → X
by_stack r {s = []} h f g = f h
by_stack r {s = e ∷ s} h f g = g e s h

pub grow_ends : (n : ℕ) (m : Mesh) (seen : List ℕ) (r : Region) → left m seen r ≤ n → (grow n m seen r).stack ≡ []
grow_ends zero m seen r h =
    by_stack r refl (λ e. ap (λ t. t.stack) (grow_done zero m seen r e) ∙ e) (λ x s e. absurd (omega (arith, ap length e)))
grow_ends (suc n) m seen r h =
    by_stack r refl
    (λ e. ap (λ t. t.stack) (grow_done (suc n) m seen r e) ∙ e)
    (λ x s e. ap (λ t. t.stack) (grow_step n m seen r e) ∙ grow_ends n m seen (step m seen x s r) (omega (arith, step_less m seen r e)))

start_few : (k : ℕ) (t : Triangle) → length (start k t).stack ≤ 3
unfolding start
start_few k t =
    omega (
      arith,
      stacked_le k (neighbour t 1) 2 0 (stacked k (neighbour t 0) 1 2 (stacked k (neighbour t 2) 0 1 [])),
      stacked_le k (neighbour t 0) 1 2 (stacked k (neighbour t 2) 0 1 []),
      stacked_le k (neighbour t 2) 0 1 [],
    )

pub start_left : (m : Mesh) (seen : List ℕ) (k : ℕ) → left m seen (start k (triangle_at m k)) ≤ enough m
start_left m seen k = omega (arith, start_few k (triangle_at m k), untaken_le (length m) (seen ++ (start k (triangle_at m k)).taken))

pub region_ends : (m : Mesh) (seen : List ℕ) (k : ℕ) → (region m seen k).stack ≡ []
region_ends m seen k =
    grow_ends (enough m) m seen (start k (triangle_at m k)) (start_left m seen k)
