-- Lanes of pairs, each with what its calls ask and tell: one that puts corners (`Of`: `of_start`,
-- `of_turn`, `of_next`, `of_rest`, `of_done`), and one that counts them (`Counting`, with the
-- same). Loops over two and four lanes use these alone. Assumes nothing.
use mathlib.Core.Path.{◌≡◌, sym, ◌∙◌, ap, subst}
use mathlib.Core.Bool.{Bool, true, false, cond}
use mathlib.Core.List.{List, [], ◌∷◌}
use Prim.Native.Nat.{ℕ, ◌+◌, ◌-◌, ◌<◌, ◌^◌}
use native.Mathlib.Omega.{arith}
use borrow.Author.Tests.{ltb-true, ltb-false}
use lib.Dec.{ltb}
use lib.ListN.{length}
use lib.IntN.{ℤ}
use Rattle.integers.proofs.Tests.{both_true}
use Rattle.plane.specs.Plane.{Pt, ◌+ᵖ◌}
use Rattle.points.specs.Points.{corner_in}
use Rattle.pair_merge.specs.Putting.{RoomAfter, CornersPut}
use Rattle.pair_chains.specs.declared.Lane.{Lane}
use Rattle.pair_chains.specs.declared.Pair.{Pair}
use Rattle.pair_chains.specs.Chains.{left_after, right_after, chain, chain_of, contour_from, chain_contour, lane_of, is_going, both_going, Buffers, Runs, Low, Fits, Countable}
use Rattle.pair_chains.proofs.Chains.{chain_next, chain_end, chain_short, runs_next, Stands, stands_start, lane_less, stands_room, stands_next, stands_left, stands_rest}

abbrev after : List ℕ → Lane → Lane
after numbers s = record { i = left_after numbers s.i s.j; j = right_after numbers s.i s.j; k = s.k + 1 }

-- tests of four lanes apart
pub two_going : {r : Bool} (a : Lane) (x : Pair) (b : Lane) (y : Pair) → r ≡ both_going a x b y → r ≡ true → (is_going a x ≡ true) × (is_going b y ≡ true)
two_going a x b y e t = both_true (is_going a x) (is_going b y) (sym e ∙ t)

pub four_going :
    {r : Bool} (a : Lane) (x : Pair) (b : Lane) (y : Pair) (c : Lane) (z : Pair) (d : Lane) (w : Pair) → r ≡ cond (both_going a x b y) (both_going c z d w) false → r ≡ true →
    (is_going a x ≡ true) × (is_going b y ≡ true) × (is_going c z ≡ true) × (is_going d w ≡ true)
four_going a x b y c z d w e t =
    let p = both_true (both_going a x b y) (both_going c z d w) (sym e ∙ t) in
    let q = both_true (is_going a x) (is_going b y) p.0 in
    let r = both_true (is_going c z) (is_going d w) p.1 in
    (q.0, q.1, r.0, r.1)

low : {numbers : List ℕ} {n end : ℕ} (s : Lane) → n < 2 ^ 32 → Runs n numbers end s.i s.j → Low s
low s h r = record { left = omega (arith, h, r.left); right = omega (arith, h, r.right) }

-- ---- corners put

module _ (points : List (List ℤ)) (numbers : List ℕ) (x : Pair) where
  abbrev pub Of : List ℤ → ℕ → Lane → List ℤ → Type 0
  Of out₀ k₀ s out = Stands points numbers x.end (chain_contour points numbers x) out₀ k₀ s out

  abbrev corner_of : Lane → List Pt
  corner_of s = (corner_in points s.i +ᵖ corner_in points s.j) ∷ []

  pub of_start : {s : Lane} {out : List ℤ} {k : ℕ} → Fits points numbers x out k → s ≡ lane_of x k → Of out k s out
  of_start {out} {k} f e = subst (λ s. Of out k s out) (sym e) (stands_start points numbers x.end (lane_of x k) out f.runs)

  module _ {out₀ out : List ℤ} {k₀ : ℕ} {s : Lane} (a : Of out₀ k₀ s out) where
    pub of_low : Buffers points numbers → Low s
    of_low b = low s b.few a.runs

    pub of_turn : Buffers points numbers → Fits points numbers x out₀ k₀ → is_going s x ≡ true → Buffers points numbers × (s.i < length points) × (s.j < length points) × RoomAfter (corner_of s) out s.k
    of_turn b f t =
        let h = ltb-true (s.i + s.j) x.end t in
        let n = runs_next numbers x.end a.runs h in
        (b, n.left, n.right, stands_room points numbers x.end a h f.room)

    pub of_next : {out' : List ℤ} {r : Lane} → is_going s x ≡ true → r ≡ after numbers s → CornersPut (corner_of s) out s.k out' (s.k + 1) → Of out₀ k₀ r out'
    of_next t e p = stands_next points numbers x.end a (ltb-true (s.i + s.j) x.end t) e p

    pub of_rest : Buffers points numbers → Fits points numbers x out₀ k₀ → Buffers points numbers × Runs (length points) numbers x.end s.i s.j × RoomAfter (contour_from points numbers x.end s.i s.j) out s.k
    of_rest b f = (b, a.runs, stands_left points numbers x.end a f.room)

    pub of_done : {out' : List ℤ} {k : ℕ} → CornersPut (contour_from points numbers x.end s.i s.j) out s.k out' k → CornersPut (chain_contour points numbers x) out₀ k₀ out' k
    of_done p = stands_rest points numbers x.end a p

-- what is left to add falls
pub of_less : (numbers : List ℕ) (end : ℕ) (s : Lane) {r : Lane} → ltb (s.i + s.j) end ≡ true → r ≡ after numbers s → end - (r.i + r.j) < end - (s.i + s.j)
of_less numbers end s t e = lane_less [] numbers end s (ltb-true (s.i + s.j) end t) e

-- ---- corners counted

-- of `total` corners those from the lane's places on are still to be counted
pub record Counting (numbers : List ℕ) (end total : ℕ) (s : Lane) : Type 0 where
  pub runs : Runs (length numbers) numbers end s.i s.j
  pub count : s.k + length (chain numbers end s.i s.j) ≡ total

module _ {numbers : List ℕ} {end total : ℕ} (few : length numbers < 2 ^ 32) (small : total < 2 ^ 63) {s : Lane} (a : Counting numbers end total s) where
  pub counting_low : Low s
  counting_low = low s few a.runs

  pub counting_turn : ltb (s.i + s.j) end ≡ true → (s.i < length numbers) × (s.j < length numbers) × (s.k + 1 < 2 ^ 64)
  counting_turn t =
      let n = runs_next numbers end a.runs (ltb-true (s.i + s.j) end t) in
      (n.left, n.right, omega (arith, a.count, small))

  pub counting_next : {r : Lane} → ltb (s.i + s.j) end ≡ true → r ≡ after numbers s → Counting numbers end total r
  counting_next t e =
      let h = ltb-true (s.i + s.j) end t in
      subst (Counting numbers end total) (sym e) (record {
        runs = (runs_next numbers end a.runs h).rest;
        count = omega (arith, a.count, ap length (chain_next numbers end s.i s.j h));
      })

  pub counting_rest : (length numbers < 2 ^ 32) × Runs (length numbers) numbers end s.i s.j × (s.k + length (chain numbers end s.i s.j) < 2 ^ 63)
  counting_rest = (few, a.runs, omega (arith, a.count, small))

  pub counting_end : ltb (s.i + s.j) end ≡ false → s.k ≡ total
  counting_end t = omega (arith, a.count, ap length (chain_end numbers end s.i s.j (ltb-false (s.i + s.j) end t)))

-- those of a pair, from its start
module _ {numbers : List ℕ} {x : Pair} (z : Countable numbers x) where
  pub count_small : length (chain_of numbers x) < 2 ^ 63
  count_small = omega (arith, z.short, chain_short numbers x.end (x.end - (x.i + x.j)) x.i x.j)

  pub counting_start : {s : Lane} → s ≡ lane_of x 0 → Counting numbers x.end (length (chain_of numbers x)) s
  counting_start e = subst (Counting numbers x.end (length (chain_of numbers x))) (sym e) (record { runs = z.runs; count = omega arith })
