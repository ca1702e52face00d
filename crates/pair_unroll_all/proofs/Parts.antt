-- All parts of a table unrolled. In order: a part's numbers are a contour of sound length and range
-- (`part_short`, `part_unrollable`); the loop over the parts (`Unrolling`: `unrolling_start`,
-- `unrolling_leaves`, `unrolling_turn`, `unrolling_end`); how many points (`unrolled_few`); every
-- point in range (`parts_ranged`). Assumes nothing.
use Rattle.std.specs.Prelude.{Option}
use mathlib.Core.Path.{◌≡◌, refl, sym, ◌∙◌, ap, subst}
use mathlib.Core.Bool.{Bool, true, false, cond}
use mathlib.Core.List.{List, [], ◌∷◌, ◌++◌, map-append, flatten}
use Prim.Native.Nat.{ℕ, suc, ◌+◌, ◌-◌, ◌*◌, ◌/◌, ◌%◌, ◌≤◌, ◌<◌}
use native.Mathlib.Numerals.{add-one}
use native.Mathlib.Omega.{arith}
use borrow.Author.Tests.{eq-eqb, le-ltb}
use lib.ListN.{length, get_or, set, take, drop, length-append, drop_of_length-le}
use lib.Seq.{slice, length-slice, take-suc, take_all, drop-cons}
use lib.IntN.{ℤ}
use Rattle.integers.specs.Lists.{All}
use Rattle.integers.proofs.Tests.{differ}
use Rattle.integers.proofs.Elements.{all_image, get_or_all}
use Rattle.plane.specs.Plane.{Pt}
use Rattle.corners.specs.Corners.{off_range}
use Rattle.table.specs.Table.{table_parts, table_broken, part_count, max_contour}
use Rattle.table.specs.Shown.{part_numbers}
use Rattle.table.proofs.Rules.{sound, count_parts}
use Rattle.table.proofs.Shown.{part_is, part_ranged}
use Rattle.pair.specs.Walk.{winding_leaves}
use Rattle.walk.specs.Calls.{length_broken}
use Rattle.points.specs.Gathered.{PartsAppended}
use Rattle.points.proofs.Gathering.{part_appended, none_appended, then_appended}
use Rattle.pair_points.specs.Points.{unrolled}
use Rattle.pair_points.proofs.Merged.{length_unrolled}
use Rattle.minkowski.specs.Pairs.{some_winding_leaves}
use Rattle.pair_unroll.specs.Unroll.{Ranged, Unrollable, UnrolledTo, UnrolledBy}
use Rattle.pair_unroll.proofs.Contours.{unrolled_ranged}
use Rattle.pair_unroll_all.specs.Parts.{unrolled_parts, tally_at, PartAt, AllUnrolled}

-- ---- a part's numbers

even_short : (l : List ℤ) (n : ℕ) → length l ≡ 2 * n → n ≤ max_contour → length_broken l ≡ false
unfolding length_broken
even_short l n e h = rw (eq-eqb (length l % 2) 0 (omega arith), le-ltb max_contour (length l / 2) (omega arith))

pub part_short : (starts : List ℕ) (corners : List ℤ) {k : ℕ} → table_broken starts corners ≡ false → k < part_count starts → length_broken (part_numbers starts corners k) ≡ false
unfolding part_numbers
part_short s c {k} e h =
    let t = sound s c e in
    let a = get_or s k 0 in
    let b = get_or s (suc k) 0 in
    let rises : a ≤ b = t.rises k (omega arith) in
    let fits : 2 * b ≤ length c = omega (arith, t.bounded (suc k) (omega arith)) in
    even_short (slice (2 * a) (2 * b) c) (b - a) (omega (arith, length-slice (2 * a) (2 * b) c fits, rises)) (omega (arith, t.short k (omega arith), rises))

pub part_unrollable : {starts : List ℕ} {corners : List ℤ} {p : ℕ} {points : List (List ℤ)} {from : ℕ} → PartAt starts corners p points from → Unrollable (part_numbers starts corners p) points from
part_unrollable {starts} {corners} {p} {points} {from} a = record {
  short = part_short starts corners a.whole a.inside;
  ranged = part_ranged starts corners p a.ranged;
  room = omega (arith, a.room, ap length (part_is starts corners a.inside));
}

-- of the numbers as the code takes them
pub unrollable_at : {starts : List ℕ} {corners l : List ℤ} {p : ℕ} {points : List (List ℤ)} {from : ℕ} → l ≡ part_numbers starts corners p → PartAt starts corners p points from → Unrollable l points from
unrollable_at {points = points} {from = from} e a = subst (λ l. Unrollable l points from) (sym e) (part_unrollable a)

pub unrolled_at : {reflected : Bool} {l m : List Pt} {points : List (List ℤ)} {from : ℕ} {points' : List (List ℤ)} {r : Option ℕ} → l ≡ m → UnrolledBy reflected l points from points' r → UnrolledBy reflected m points from points' r
unrolled_at {reflected} {points = points} {from = from} {points' = points'} {r = r} e u = subst (λ l. UnrolledBy reflected l points from points' r) e u

-- ---- the loop: the first p parts are unrolled after `done` walks, and none of their windings
-- leaves

pub record Unrolling (reflected : Bool) (ps : List (List Pt)) (done : ℕ) (points₀ : List (List ℤ)) (firsts₀ : List ℕ) (points : List (List ℤ)) (firsts : List ℕ) (count p : ℕ) : Type 0 where
  pub within : p ≤ length ps
  pub few : count + length (flatten (drop p ps)) ≤ get_or firsts₀ done 0 + length (flatten ps) + p
  pub told : some_winding_leaves reflected ps ≡ some_winding_leaves reflected (drop p ps)
  pub appended : PartsAppended (unrolled_parts reflected (take p ps)) firsts₀ points₀ (tally_at firsts₀ done) firsts points (record { parts = done + p; corners = count })

module _ (reflected : Bool) (ps : List (List Pt)) (done : ℕ) where
  pub unrolling_start : (points : List (List ℤ)) (firsts : List ℕ) → Unrolling reflected ps done points firsts points firsts (get_or firsts done 0) 0
  unrolling_start points firsts = record {
    within = omega arith;
    few = omega arith;
    told = refl;
    appended = subst (λ n. PartsAppended [] firsts points (tally_at firsts done) firsts points (record { parts = n; corners = get_or firsts done 0 })) (omega arith) (none_appended firsts points (tally_at firsts done));
  }

  -- the part at hand and those after it
  rest_at : {p : ℕ} → p < length ps → length (flatten (drop p ps)) ≡ length (get_or ps p []) + length (flatten (drop (suc p) ps))
  unfolding flatten
  rest_at {p} h = ap (λ l. length (flatten l)) (drop-cons ps p [] h) ∙ length-append (get_or ps p []) (flatten (drop (suc p) ps))

  leaves_at : {p : ℕ} → p < length ps → some_winding_leaves reflected (drop p ps) ≡ cond (winding_leaves reflected (get_or ps p [])) true (some_winding_leaves reflected (drop (suc p) ps))
  unfolding some_winding_leaves
  leaves_at {p} h = ap (some_winding_leaves reflected) (drop-cons ps p [] h)

  module _ {points₀ : List (List ℤ)} {firsts₀ : List ℕ} {points : List (List ℤ)} {firsts : List ℕ} {count p : ℕ} (k : Unrolling reflected ps done points₀ firsts₀ points firsts count p) where
    -- there is room for the part at hand, in less than n places
    pub unrolling_room : {n : ℕ} → p < length ps → get_or firsts₀ done 0 + length (flatten ps) + length ps ≤ n → count + length (get_or ps p []) < n
    unrolling_room h g = omega (arith, k.few, rest_at h)

    pub unrolling_leaves : p < length ps → winding_leaves reflected (get_or ps p []) ≡ true → true ≡ some_winding_leaves reflected ps
    unrolling_leaves h t = sym (k.told ∙ leaves_at h ∙ rw t)

    module _ {points' : List (List ℤ)} {n : ℕ} (h : p < length ps) (a : UnrolledTo reflected (get_or ps p []) points count points' n) where
      -- a point more than corners, a part
      pub unrolling_count : n + length (flatten (drop (suc p) ps)) ≤ get_or firsts₀ done 0 + length (flatten ps) + suc p
      unrolling_count = omega (arith, k.few, rest_at h, a.appended.count, length_unrolled reflected (get_or ps p []))

      pub unrolling_turn : {firsts' : List ℕ} → done + (p + 1) < length firsts → firsts' ≡ set firsts (done + (p + 1)) n → Unrolling reflected ps done points₀ firsts₀ points' firsts' n (p + 1)
      unrolling_turn {firsts'} room e =
          let s : suc p ≡ p + 1 = sym (add-one p) in
          let z : done + (p + 1) ≡ done + p + 1 = omega arith in
          record {
            within = omega arith;
            few = omega (arith, unrolling_count, ap (λ m. length (flatten (drop m ps))) s);
            told = k.told ∙ leaves_at h ∙ rw a.stays (ap (λ m. some_winding_leaves reflected (drop m ps)) s);
            appended =
                subst (λ m. PartsAppended (unrolled_parts reflected (take (p + 1) ps)) firsts₀ points₀ (tally_at firsts₀ done) firsts' points' (record { parts = m; corners = n })) (sym z)
                (subst (λ qs. PartsAppended qs firsts₀ points₀ (tally_at firsts₀ done) firsts' points' (record { parts = done + p + 1; corners = n })) (sym more)
                (then_appended k.appended
                (part_appended firsts (record { parts = done + p; corners = count }) (omega (arith, room)) a.appended (e ∙ ap (λ m. set firsts m n) z))));
          }
        where
          more : unrolled_parts reflected (take (p + 1) ps) ≡ unrolled_parts reflected (take p ps) ++ (unrolled reflected (get_or ps p []) ∷ [])
          more = ap (λ m. unrolled_parts reflected (take m ps)) (add-one p) ∙ ap (unrolled_parts reflected) (take-suc ps p [] h) ∙ map-append (unrolled reflected) (take p ps) (get_or ps p [] ∷ [])

    pub unrolling_end : length ps ≤ p → AllUnrolled reflected ps done points₀ firsts₀ points firsts false
    unfolding some_winding_leaves
    unrolling_end h = record {
      told = sym (k.told ∙ ap (some_winding_leaves reflected) (drop_of_length-le ps h));
      appended = λ t.
          let e : p ≡ length ps = omega (arith, k.within) in
          let all : unrolled_parts reflected (take p ps) ≡ unrolled_parts reflected ps = ap (unrolled_parts reflected) (take_all p ps h) in
          let n : count ≡ get_or firsts₀ done 0 + length (flatten (unrolled_parts reflected ps)) = k.appended.corners ∙ ap (λ qs. get_or firsts₀ done 0 + length (flatten qs)) all in
          subst (λ qs. PartsAppended qs firsts₀ points₀ (tally_at firsts₀ done) firsts points (record { parts = done + length ps; corners = get_or firsts₀ done 0 + length (flatten (unrolled_parts reflected ps)) })) all
          (subst (λ t. PartsAppended (unrolled_parts reflected (take p ps)) firsts₀ points₀ (tally_at firsts₀ done) firsts points t) (λ i. record { parts = done + e i; corners = n i }) k.appended);
    }

-- a point more than corners, a part
pub unrolled_few : (reflected : Bool) (ps : List (List Pt)) → length (flatten (unrolled_parts reflected ps)) ≤ length (flatten ps) + length ps
unfolding flatten
unrolled_few reflected [] = omega arith
unrolled_few reflected (p ∷ ps) =
    omega (arith, length-append (unrolled reflected p) (flatten (unrolled_parts reflected ps)), length-append p (flatten ps), length_unrolled reflected p, unrolled_few reflected ps)

-- a winding leaves
pub some_leaves :
    {reflected : Bool} {ps : List (List Pt)} {done : ℕ} {points : List (List ℤ)} {firsts : List ℕ} {points' : List (List ℤ)} {firsts' : List ℕ} → true ≡ some_winding_leaves reflected ps →
    AllUnrolled reflected ps done points firsts points' firsts' true
some_leaves e = record { told = e; appended = λ t. differ (sym t) }

-- ---- every point of every part is in range

every_part : (reflected : Bool) (starts : List ℕ) (corners : List ℤ) → off_range corners ≡ false → {k : ℕ} → k < part_count starts → All Ranged (unrolled reflected (get_or (table_parts starts corners) k []))
every_part reflected starts corners h {k} l = subst (λ m. All Ranged (unrolled reflected m)) (part_is starts corners l) (unrolled_ranged reflected (part_numbers starts corners k) (part_ranged starts corners k h))

pub parts_ranged : (reflected : Bool) (starts : List ℕ) (corners : List ℤ) → table_broken starts corners ≡ false → off_range corners ≡ false → All (All Ranged) (unrolled_parts reflected (table_parts starts corners))
parts_ranged reflected starts corners e h =
    (all_image (All Ranged) (unrolled reflected) (table_parts starts corners)).1
    (get_or_all (λ m. All Ranged (unrolled reflected m)) (table_parts starts corners) [] (λ k l. every_part reflected starts corners h (omega (arith, count_parts starts corners e))))
