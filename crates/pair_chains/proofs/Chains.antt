-- Chains a turn at a time: the next place (`chain_next`), the end (`chain_end`), that a turn goes
-- on (`onward`), how many places there are at most (`chain_short`); where a lane stands (`Stands`),
-- from its start (`stands_start`) by turns (`stands_room`, `stands_next`) to its end
-- (`stands_end`). Assumes nothing.
use mathlib.Core.Path.{◌≡◌, refl, sym, ◌∙◌, ap, subst}
use mathlib.Core.Bool.{Bool, true, false, cond}
use mathlib.Core.List.{List, [], ◌∷◌, append-nil}
use Prim.Native.Nat.{ℕ, zero, suc, ◌+◌, ◌-◌, ◌≤◌, ◌<◌}
use native.Mathlib.Omega.{arith}
use borrow.Author.Tests.{lt-ltb, le-ltb, le-leb, leb-false}
use lib.Dec.{ltb, leb}
use lib.ListN.{length, get_or}
use lib.IntN.{ℤ}
use Rattle.integers.specs.Lists.{All}
use Rattle.integers.proofs.Order.{by_test}
use Rattle.plane.specs.Plane.{Pt, ◌+ᵖ◌}
use Rattle.points.specs.Points.{corner_in}
use Rattle.pair_merge.specs.Putting.{RoomAfter, CornersPut, Reached}
use Rattle.pair_merge.proofs.Placing.{reached_start, reached_more, reached_end, reached_room}
use Rattle.direction_keys.specs.Marks.{step_over}
use Rattle.pair_chains.specs.declared.Lane.{Lane}
use Rattle.pair_chains.specs.Chains.{left_after, right_after, chain_for, chain, along, contour_from, Runs}

-- ---- steps

-- a walk steps by one at most
pub step_small : (x y : ℕ) → step_over x y ≤ 1
step_small x y = at (leb x y)
  where
    at : (t : Bool) → cond t 1 0 ≤ 1
    at true = omega arith
    at false = omega arith

-- and one of the two does: x ≤ y or y ≤ x
step_some : (x y : ℕ) → 1 ≤ step_over x y + step_over y x
step_some x y =
    by_test (leb x y)
    (λ e. rw e (omega arith))
    (λ e. rw (le-leb y x (omega (arith, leb-false x y e))) (omega arith))

pub onward : (numbers : List ℕ) (i j : ℕ) → i + j < left_after numbers i j + right_after numbers i j
onward numbers i j = omega (arith, step_some (get_or numbers i 0) (get_or numbers j 0))

-- ---- places

module _ (numbers : List ℕ) (end : ℕ) where
  -- n turns are enough where n is at least what is left
  enough : (m n i j : ℕ) → end - (i + j) ≤ m → end - (i + j) ≤ n → chain_for numbers end m i j ≡ chain_for numbers end n i j
  unfolding chain_for
  enough zero zero i j h k = refl
  enough zero (suc n) i j h k = rw (le-ltb (i + j) end (omega arith))
  enough (suc m) zero i j h k = rw (le-ltb (i + j) end (omega arith))
  enough (suc m) (suc n) i j h k =
      let o = onward numbers i j in
      ap (λ l. cond (ltb (i + j) end) ((i, j) ∷ l) []) (enough m n (left_after numbers i j) (right_after numbers i j) (omega (arith, o)) (omega (arith, o)))

  pub chain_end : (i j : ℕ) → end ≤ i + j → chain numbers end i j ≡ []
  unfolding chain_for
  chain_end i j h = let z : end - (i + j) ≡ 0 = omega arith in ap (λ n. chain_for numbers end n i j) z

  pub chain_next : (i j : ℕ) → i + j < end → chain numbers end i j ≡ (i, j) ∷ chain numbers end (left_after numbers i j) (right_after numbers i j)
  unfolding chain_for
  chain_next i j h =
      let z : end - (i + j) ≡ suc (end - (i + j) - 1) = omega arith in
      ap (λ n. chain_for numbers end n i j) z ∙ rw (lt-ltb (i + j) end h) (ap (λ l. (i, j) ∷ l)
      (enough (end - (i + j) - 1) (end - (left_after numbers i j + right_after numbers i j)) (left_after numbers i j) (right_after numbers i j) (omega (arith, onward numbers i j)) (omega arith)))

  pub chain_short : (n i j : ℕ) → length (chain_for numbers end n i j) ≤ n
  unfolding chain_for
  chain_short zero i j = omega arith
  chain_short (suc n) i j =
      by_test (ltb (i + j) end)
      (λ e. rw e (omega (arith, chain_short n (left_after numbers i j) (right_after numbers i j))))
      (λ e. rw e (omega arith))

  -- a chain that stays among some places: so do the places now, and the rest
  pub record Turned (n i j : ℕ) : Type 0 where
    pub left : i < n
    pub right : j < n
    pub rest : Runs n numbers end (left_after numbers i j) (right_after numbers i j)

  pub runs_next : {n i j : ℕ} → Runs n numbers end i j → i + j < end → Turned n i j
  runs_next {n} {i} {j} r h =
      let s = subst (All (λ p. (p.0 < n) × (p.1 < n))) (chain_next i j h) r.inside in
      record {
        left = s.0.0;
        right = s.0.1;
        rest = record { left = omega (arith, s.0.0, step_small (get_or numbers i 0) (get_or numbers j 0)); right = omega (arith, s.0.1, step_small (get_or numbers j 0) (get_or numbers i 0)); inside = s.1 };
      }

-- ---- where a lane stands

-- of the corners `whole`, put into `out₀` after the first k₀, those from the lane's places on are
-- still to come
pub record Stands (points : List (List ℤ)) (numbers : List ℕ) (end : ℕ) (whole : List Pt) (out₀ : List ℤ) (k₀ : ℕ) (s : Lane) (out : List ℤ) : Type 0 where
  pub runs : Runs (length points) numbers end s.i s.j
  pub put : Reached whole (contour_from points numbers end s.i s.j) out₀ k₀ out s.k

module _ (points : List (List ℤ)) (numbers : List ℕ) (end : ℕ) where
  abbrev corner_of : Lane → Pt
  corner_of s = corner_in points s.i +ᵖ corner_in points s.j

  abbrev after : Lane → Lane
  after s = record { i = left_after numbers s.i s.j; j = right_after numbers s.i s.j; k = s.k + 1 }

  pub stands_start : (s : Lane) (out : List ℤ) → Runs (length points) numbers end s.i s.j → Stands points numbers end (contour_from points numbers end s.i s.j) out s.k s out
  stands_start s out r = record { runs = r; put = reached_start (contour_from points numbers end s.i s.j) out s.k }

  -- what is left to add falls
  pub lane_less : (s : Lane) {r : Lane} → s.i + s.j < end → r ≡ after s → end - (r.i + r.j) < end - (s.i + s.j)
  lane_less s h e = subst (λ r. end - (r.i + r.j) < end - (s.i + s.j)) (sym e) (omega (arith, onward numbers s.i s.j))

  module _ {whole : List Pt} {out₀ out : List ℤ} {k₀ : ℕ} {s : Lane} (a : Stands points numbers end whole out₀ k₀ s out) where
    comes : s.i + s.j < end → contour_from points numbers end s.i s.j ≡ corner_of s ∷ contour_from points numbers end (left_after numbers s.i s.j) (right_after numbers s.i s.j)
    comes h = ap (along points) (chain_next numbers end s.i s.j h)

    -- there is room for the corner
    pub stands_room : s.i + s.j < end → RoomAfter whole out₀ k₀ → RoomAfter (corner_of s ∷ []) out s.k
    stands_room h f = omega (arith, reached_room a.put f, ap length (comes h))

    -- it is put, and the lane goes on
    pub stands_next : {out' : List ℤ} {r : Lane} → s.i + s.j < end → r ≡ after s → CornersPut (corner_of s ∷ []) out s.k out' (s.k + 1) → Stands points numbers end whole out₀ k₀ r out'
    stands_next {out'} h e p = subst (λ r. Stands points numbers end whole out₀ k₀ r out') (sym e) (record {
      runs = (runs_next numbers end a.runs h).rest;
      put = reached_more (contour_from points numbers end (left_after numbers s.i s.j) (right_after numbers s.i s.j)) (subst (λ l. Reached whole l out₀ k₀ out s.k) (comes h) a.put) p;
    })

    pub stands_end : end ≤ s.i + s.j → CornersPut whole out₀ k₀ out s.k
    stands_end h = reached_end (subst (λ l. Reached whole l out₀ k₀ out s.k) (ap (along points) (chain_end numbers end s.i s.j h)) a.put)

    -- what is still to come has room
    pub stands_left : RoomAfter whole out₀ k₀ → RoomAfter (contour_from points numbers end s.i s.j) out s.k
    stands_left f = reached_room a.put f

    -- and once it is put, all is
    pub stands_rest : {out' : List ℤ} {k : ℕ} → CornersPut (contour_from points numbers end s.i s.j) out s.k out' k → CornersPut whole out₀ k₀ out' k
    stands_rest p =
        let left = contour_from points numbers end s.i s.j in
        reached_end (reached_more [] (subst (λ l. Reached whole l out₀ k₀ out s.k) (sym (append-nil left)) a.put) p)
