-- All pairs in one list, in order: how many (`pairs_length`), and pair p, q of them (`pairs_at`);
-- so the contours and edges of two operands' walks (`contours_length`, `is_pair`), and a pair's
-- corners as pair_chains has them (`as_fits`, `as_put`, `as_count`). Assumes nothing.
use mathlib.Core.Path.{◌≡◌, refl, sym, ◌∙◌, ap, subst, ap₂}
use mathlib.Core.List.{List, [], ◌∷◌, map, ◌++◌, flatten}
use Prim.Native.Nat.{ℕ, zero, suc, ◌+◌, ◌*◌, ◌<◌, ◌-◌, ◌≤◌}
use native.Mathlib.Omega.{arith}
use lib.IntN.{ℤ}
use Rattle.plane.specs.Plane.{Pt, ◌+ᵖ◌}
use lib.ListN.{length, get_or, length-take, length-drop, length-map, length-append, get_or-append}
use lib.Seq.{get_or-take, get_or-drop, get_or-append-add}
use Rattle.points.specs.Points.{corner_in}
use Rattle.pair_points.specs.Points.{merged_of}
use Rattle.pair_merge.specs.Putting.{RoomAfter, CornersPut}
use Rattle.pair_walks.specs.Walks.{walks_in, walk_in, lefts_in, rights_in, contours_in}
use Rattle.pair_numbers.specs.Numbers.{Keyed}
use Rattle.pair_chains.specs.declared.Pair.{Pair}
use Rattle.pair_chains.specs.Chains.{chain_of, chain_contour, Fits}
use Rattle.pair_chains.proofs.Chains.{chain_short}
use Rattle.minkowski_order.specs.Order.{pair_at, edges_of, edge_counts, PairAs, IsPair, PairRoom}
use Rattle.minkowski_order.proofs.Held.{pair_held, pair_short}

-- ---- all pairs in a list

module _ {A B C : Type 0} (f : A → B → C) (rs : List B) where
  abbrev pairs : List A → List C
  pairs ls = flatten (map (λ a. map (f a) rs) ls)

  pub pairs_length : (ls : List A) → length (pairs ls) ≡ length ls * length rs
  unfolding flatten
  pairs_length [] = omega arith
  pairs_length (a ∷ ls) = omega (arith, length-append (map (f a) rs) (pairs ls), length-map rs (f a), pairs_length ls)

  pub pairs_at : (ls : List A) (p : ℕ) {q : ℕ} (x : A) (y : B) (d : C) → p < length ls → q < length rs → get_or (pairs ls) (p * length rs + q) d ≡ f (get_or ls p x) (get_or rs q y)
  unfolding flatten
  pairs_at [] p {q} x y d h k = absurd (omega arith)
  pairs_at (a ∷ ls) zero {q} x y d h k =
      let z : 0 * length rs + q ≡ q = omega arith in
      ap (λ n. get_or (map (f a) rs ++ pairs ls) n d) z ∙ get_or-append (map (f a) rs) (pairs ls) d q (omega (arith, length-map rs (f a)))
      ∙ in_row (f a) rs q y d k
    where
      in_row : {B C : Type 0} (g : B → C) (l : List B) (i : ℕ) (y : B) (d : C) → i < length l → get_or (map g l) i d ≡ g (get_or l i y)
      in_row g [] i y d h = absurd (omega arith)
      in_row g (b ∷ l) zero y d h = refl
      in_row g (b ∷ l) (suc i) y d h = in_row g l i y d (omega arith)
  pairs_at (a ∷ ls) (suc p) {q} x y d h k =
      let z : suc p * length rs + q ≡ length (map (f a) rs) + (p * length rs + q) = omega (arith, length-map rs (f a)) in
      ap (λ n. get_or (map (f a) rs ++ pairs ls) n d) z ∙ get_or-append-add (map (f a) rs) (pairs ls) (p * length rs + q) d ∙ pairs_at ls p x y d (omega arith) k

-- ---- those of two operands' walks

module _ {firsts : List ℕ} {points : List (List ℤ)} {numbers : List ℕ} {left right : ℕ} (k : Keyed firsts points numbers left right) where
  abbrev ws : List (List Pt)
  ws = walks_in firsts points (left + right)

  lefts : length (lefts_in firsts points left right) ≡ left
  lefts = omega (arith, length-take left ws, k.walks.gathered.parts)

  rights : length (rights_in firsts points left right) ≡ right
  rights = omega (arith, length-drop left ws, k.walks.gathered.parts)

  pub contours_length : length (contours_in firsts points left right) ≡ left * right
  contours_length = pairs_length merged_of (rights_in firsts points left right) (lefts_in firsts points left right) ∙ ap₂ ◌*◌ lefts rights

  pub edges_length : length (edge_counts firsts points left right) ≡ left * right
  edges_length = pairs_length edges_of (rights_in firsts points left right) (lefts_in firsts points left right) ∙ ap₂ ◌*◌ lefts rights

  module _ {p q n : ℕ} (hp : p < left) (hq : q < right) (e : n ≡ p * right + q) where
    -- of any definition over two walks
    at : {C : Type 0} (f : List Pt → List Pt → C) (d : C) → get_or (pairs f (rights_in firsts points left right) (lefts_in firsts points left right)) n d ≡ f (walk_in firsts points (left + right) p) (walk_in firsts points (left + right) (left + q))
    at f d =
        ap (λ n. get_or (pairs f (rights_in firsts points left right) (lefts_in firsts points left right)) n d) (e ∙ ap (λ r. p * r + q) (sym rights))
        ∙ pairs_at f (rights_in firsts points left right) (lefts_in firsts points left right) p [] [] d (omega (arith, lefts)) (omega (arith, rights))
        ∙ ap₂ f (get_or-take left ws p [] hp) (get_or-drop left ws q [])

    pub is_pair : {x : Pair} → x ≡ pair_at firsts left p q → IsPair firsts points numbers left right n x
    is_pair ex =
        let h = pair_held k hp hq in
        subst (IsPair firsts points numbers left right n) (sym ex) (record {
          runs = h.runs;
          contour = h.contour ∙ sym (at merged_of []);
          ordered = h.ordered;
          edges = h.edges ∙ sym (at edges_of 0);
          short = omega (arith, at edges_of 0, pair_short k hp hq);
        })

-- ---- a pair as pair_chains takes it

module _ {points : List (List ℤ)} {numbers : List ℕ} {c : List Pt} {e : ℕ} {x : Pair} (a : PairAs points numbers c e x) where
  pub as_fits : {o : List ℤ} {k : ℕ} → RoomAfter c o k → Fits points numbers x o k
  as_fits {o} {k} r = record { runs = a.runs; room = subst (λ l. RoomAfter l o k) (sym a.contour) r }

  pub as_put : {o o' : List ℤ} {k k' : ℕ} → CornersPut (chain_contour points numbers x) o k o' k' → CornersPut c o k o' k'
  as_put {o} {o'} {k} {k'} r = subst (λ l. CornersPut l o k o' k') a.contour r

  -- no more corners than edges
  pub as_count : length (chain_of numbers x) ≡ length c
  as_count = sym (length-map (chain_of numbers x) (λ p. corner_in points p.0 +ᵖ corner_in points p.1)) ∙ ap length a.contour

  pub as_few : length c ≤ e
  as_few = omega (arith, as_count, a.edges, chain_short numbers x.end (x.end - (x.i + x.j)) x.i x.j)

  pub as_work : (w : List ℤ) → PairRoom points w → RoomAfter c w 0
  as_work w h = omega (arith, h, as_few, a.short)
