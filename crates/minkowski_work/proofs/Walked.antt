-- Two operands as walks in work buffers: a refusal before (`call_refused`), buffers that hold any
-- two (`large`), the one unrolled after the other (`left_unrollable`, `right_unrollable`,
-- `walked`), whose pairs are the pairs of parts (`contours_in_lem`), and so the answer
-- (`unrolleds`, `answered`). Assumes nothing.
use mathlib.Core.Path.{◌≡◌, refl, sym, ◌∙◌, ap, ap₂, subst}
use mathlib.Core.Bool.{Bool, false}
use mathlib.Core.List.{List, [], ◌∷◌, ◌++◌, flatten}
use Prim.Native.Nat.{ℕ, ◌+◌, ◌*◌, ◌/◌, ◌≤◌, ◌<◌}
use native.Mathlib.Omega.{arith}
use lib.ListN.{length, get_or, set, take, length-append, length-map, length-set}
use lib.Seq.{take-suc-set}
use lib.IntN.{ℤ}
use Rattle.integers.specs.Lists.{All}
use Rattle.integers.specs.Faults.{first_fault}
use Rattle.integers.proofs.Elements.{all_append}
use Rattle.plane.specs.Plane.{Pt}
use Rattle.table.specs.declared.IntRect.{IntRect}
use Rattle.table.specs.Table.{starts_from, starts_of, room_kinds, part_count, max_contour}
use Rattle.table.proofs.Rules.{sound, count_parts, count_corners, sound_limits}
use Rattle.pair_points.specs.Points.{Turning, unrolled}
use Rattle.pair_points.proofs.Merged.{turning_unrolled, length_unrolled}
use Rattle.points.specs.declared.Tally.{Tally}
use Rattle.points.specs.Gathered.{Gathered}
use Rattle.pair_unroll_all.specs.Parts.{unrolled_parts, Unrollables, AllUnrolled}
use Rattle.pair_unroll_all.proofs.Parts.{parts_ranged, unrolled_few}
use Rattle.minkowski.specs.declared.PairCounts.{PairCounts}
use Rattle.minkowski.specs.Pairs.{Operand, operand_parts, pair_contours, result_bounds}
use Rattle.pair_walks.specs.Walks.{walks_in, Walks, merged_all, contours_in}
use Rattle.pair_walks.proofs.Walks.{last_place, gathered_walks, gathered_walks_in, merged_pairs}
use Rattle.pair_walks.proofs.Operands.{both_lefts, both_rights}
use Rattle.minkowski_faults.specs.Kinds.{operand_kinds}
use Rattle.minkowski_answer.specs.Answer.{refusal_of, Unrolleds, PairsAnswered, WalksAnswered}
use Rattle.minkowski_answer.proofs.Answer.{refused}
use Rattle.minkowski_work.specs.Scratch.{Call, Accepted, Answers, Scratch, AcceptedWithRoom, BothWalked}
use Rattle.minkowski_work.proofs.Faults.{Judged, judged, operands_refused}
use Rattle.minkowski_work.proofs.Counted.{few_pairs, few_contours, few_left, few_right}

-- ---- buffers that hold any two operands: 20,480 = 2 · (8,192 + 2,048) points

pub large : {x : Call} {points : List (List ℤ)} {firsts : List ℕ} → Accepted x → length points ≡ 20480 → length firsts ≡ 4098 → AcceptedWithRoom x points firsts
large {x} e h k =
    let j = judged x.left x.right e in
    let s = sound x.left.starts x.left.corners j.0.sound in
    let t = sound x.right.starts x.right.corners j.1.sound in
    record {
      accepted = e;
      room = record {
        for_points = omega (arith, h, s.few_corners, s.few_parts, t.few_corners, t.few_parts);
        for_firsts = omega (arith, k, s.few_parts, t.few_parts);
        small = omega (arith, h);
      };
    }

-- ---- 7, 2 and 9 told

pub call_refused :
    (x : Call) (s : List ℕ) (c : List ℤ) {f : ℕ} {r : PairCounts} → f ≡ first_fault (operand_kinds x.left x.right) → (f ≡ 0 → ⊥) → r ≡ refusal_of f → Answers x s c r s c
call_refused x s c e d h =
    refused (pair_contours x.reflected x.left x.right) (result_bounds x.reflected x.left.bounds x.right.bounds) s c (operands_refused x.reflected x.left x.right (length s) (length c) e d) d h

-- ---- parts unrolled

abbrev tally_of : List (List Pt) → Tally
tally_of ps = record { parts = length ps; corners = length (flatten ps) }

-- parts gathered have that tally
retally : {firsts : List ℕ} {points : List (List ℤ)} {t : Tally} {ps : List (List Pt)} → Gathered firsts points t ps → Gathered firsts points (tally_of ps) ps
retally {firsts} {points} {t} {ps} g = subst (λ u. Gathered firsts points u ps) (λ i. record { parts = g.parts i; corners = g.corners i }) g

-- none yet
none_gathered : (firsts : List ℕ) (points : List (List ℤ)) {firsts' : List ℕ} → 0 < length firsts → firsts' ≡ set firsts 0 0 → Gathered firsts' points (tally_of []) []
unfolding flatten starts_of starts_from
none_gathered firsts points h e = record { parts = refl; corners = refl; begins = ap (take 1) e ∙ take-suc-set firsts 0 0 h; gathered = refl }

-- parts unrolled after those gathered
then_gathered :
    {reflected : Bool} {us qs : List (List Pt)} {done : ℕ} {points : List (List ℤ)} {firsts : List ℕ} {points' : List (List ℤ)} {firsts' : List ℕ} → done ≡ length us → Gathered firsts points (tally_of us) us →
    AllUnrolled reflected qs done points firsts points' firsts' false → Gathered firsts' points' (tally_of (us ++ unrolled_parts reflected qs)) (us ++ unrolled_parts reflected qs)
then_gathered {us} {done} {points} {firsts} n g u =
    let last : get_or firsts done 0 ≡ length (flatten us) = ap (λ k. get_or firsts k 0) n ∙ last_place firsts points us g in
    retally ((u.appended refl).gathered us (subst (λ t. Gathered firsts points t us) (λ i. record { parts = sym n i; corners = sym last i }) g))

-- as a test tells that no winding leaves
pub settled :
    {reflected : Bool} {qs : List (List Pt)} {done : ℕ} {points : List (List ℤ)} {firsts : List ℕ} {points' : List (List ℤ)} {firsts' : List ℕ} {b : Bool} →
    AllUnrolled reflected qs done points firsts points' firsts' b → b ≡ false → AllUnrolled reflected qs done points firsts points' firsts' false
settled {reflected} {qs} {done} {points} {firsts} {points'} {firsts'} u e = subst (AllUnrolled reflected qs done points firsts points' firsts') e u

-- every point of every part is in range; each turns, and has one more point than corners
all_turning : (reflected : Bool) (ps : List (List Pt)) → All Turning (unrolled_parts reflected ps)
all_turning reflected [] = tt
all_turning reflected (p ∷ ps) = (turning_unrolled reflected p, all_turning reflected ps)

all_short : (reflected : Bool) (ps : List (List Pt)) → All (λ p. length p ≤ max_contour) ps → All (λ w. length w ≤ (max_contour + 1)) (unrolled_parts reflected ps)
all_short reflected [] h = tt
all_short reflected (p ∷ ps) h = (omega (arith, length_unrolled reflected p, h.0), all_short reflected ps h.1)

-- ---- the operands of a call

module _ (x : Call) (e : Accepted x) where
  abbrev l : Operand
  l = x.left

  abbrev r : Operand
  r = x.right

  abbrev us : List (List Pt)
  us = unrolled_parts false (operand_parts l)

  abbrev vs : List (List Pt)
  vs = unrolled_parts x.reflected (operand_parts r)

  pub left_judged : Judged l
  left_judged = (judged l r e).0

  pub right_judged : Judged r
  right_judged = (judged l r e).1

  count_lefts : length us ≡ part_count l.starts
  count_lefts = length-map (operand_parts l) (unrolled false) ∙ count_parts l.starts l.corners left_judged.sound

  count_rights : length vs ≡ part_count r.starts
  count_rights = length-map (operand_parts r) (unrolled x.reflected) ∙ count_parts r.starts r.corners right_judged.sound

  module _ {points₀ : List (List ℤ)} {firsts₀ : List ℕ} (s : Scratch x points₀ firsts₀) where
    pub some_firsts : 0 < length firsts₀
    some_firsts = omega (arith, s.for_firsts, (sound l.starts l.corners left_judged.sound).some, (sound r.starts r.corners right_judged.sound).some)

    module _ {firsts₁ : List ℕ} (z : firsts₁ ≡ set firsts₀ 0 0) where
      none : Gathered firsts₁ points₀ (tally_of []) []
      none = none_gathered firsts₀ points₀ some_firsts z

      size₁ : length firsts₁ ≡ length firsts₀
      size₁ = ap length z ∙ length-set firsts₀ 0 0

      -- the left operand from the first place on
      pub left_unrollable : Unrollables l.starts l.corners 0 points₀ firsts₁
      unfolding flatten
      left_unrollable =
          let k : get_or firsts₁ 0 0 ≡ 0 = last_place firsts₁ points₀ [] none in
          record {
            whole = left_judged.sound;
            ranged = left_judged.ranged;
            for_points = omega (arith, k, s.for_points);
            for_firsts = omega (arith, size₁, s.for_firsts, (sound r.starts r.corners right_judged.sound).some);
            small = s.small;
          }

      module _ {points₂ : List (List ℤ)} {firsts₂ : List ℕ} (u : AllUnrolled false (operand_parts l) 0 points₀ firsts₁ points₂ firsts₂ false) where
        lefts_gathered : Gathered firsts₂ points₂ (tally_of us) us
        lefts_gathered = then_gathered refl none u

        -- and the right one after it
        pub right_unrollable : Unrollables r.starts r.corners (part_count l.starts) points₂ firsts₂
        right_unrollable =
            let k : get_or firsts₂ (part_count l.starts) 0 ≡ length (flatten us) = ap (λ n. get_or firsts₂ n 0) (sym count_lefts) ∙ last_place firsts₂ points₂ us lefts_gathered in
            let m = unrolled_few false (operand_parts l) in
            let c = count_corners l.starts l.corners left_judged.sound in
            let n = count_parts l.starts l.corners left_judged.sound in
            let a = u.appended refl in
            record {
              whole = right_judged.sound;
              ranged = right_judged.ranged;
              for_points = omega (arith, k, m, c, n, s.for_points, a.points_size);
              for_firsts = omega (arith, size₁, a.starts_size, s.for_firsts, (sound l.starts l.corners left_judged.sound).some);
              small = omega (arith, s.small, a.points_size);
            }

        module _ {points₃ : List (List ℤ)} {firsts₃ : List ℕ} (v : AllUnrolled x.reflected (operand_parts r) (part_count l.starts) points₂ firsts₂ points₃ firsts₃ false) where
          both_gathered : Gathered firsts₃ points₃ (tally_of (us ++ vs)) (us ++ vs)
          both_gathered = then_gathered (sym count_lefts) lefts_gathered v

          both_count : length (us ++ vs) ≡ part_count l.starts + part_count r.starts
          both_count = length-append us vs ∙ ap₂ ◌+◌ count_lefts count_rights

          pub walked : BothWalked x points₃ firsts₃
          walked =
              let same : walks_in firsts₃ points₃ (part_count l.starts + part_count r.starts) ≡ us ++ vs = ap (walks_in firsts₃ points₃) (sym both_count) ∙ gathered_walks_in firsts₃ points₃ (us ++ vs) both_gathered in
              record {
                walks =
                    subst (Walks firsts₃ points₃) both_count
                    (gathered_walks firsts₃ points₃ (us ++ vs) both_gathered
                    ((all_append _ us vs).1 (parts_ranged false l.starts l.corners left_judged.sound left_judged.ranged, parts_ranged x.reflected r.starts r.corners right_judged.sound right_judged.ranged))
                    ((all_append _ us vs).1 (all_turning false (operand_parts l), all_turning x.reflected (operand_parts r)))
                    ((all_append _ us vs).1 (all_short false (operand_parts l) (sound_limits l.starts l.corners left_judged.sound).contours, all_short x.reflected (operand_parts r) (sound_limits r.starts r.corners right_judged.sound).contours)));
                lefts = both_lefts firsts₃ points₃ (part_count l.starts) (part_count r.starts) us vs count_lefts same;
                rights = both_rights firsts₃ points₃ (part_count l.starts) (part_count r.starts) us vs count_lefts same;
              }

-- ---- all pairs of both

module _ (x : Call) {points : List (List ℤ)} {firsts : List ℕ} (w : BothWalked x points firsts) where
  abbrev left : ℕ
  left = part_count x.left.starts

  abbrev right : ℕ
  right = part_count x.right.starts

  pub contours_in_lem : contours_in firsts points left right ≡ pair_contours x.reflected x.left x.right
  contours_in_lem = ap₂ merged_all w.lefts w.rights ∙ merged_pairs x.reflected (operand_parts x.left) (operand_parts x.right)

  pub unrolleds : Accepted x → {most : ℕ} → most ≡ right * (length x.left.corners / 2) + left * (length x.right.corners / 2) → Unrolleds firsts points left right most
  unrolleds e m =
      let j = (left_judged x e).sound in
      let k = (right_judged x e).sound in
      let ls = x.left.starts in
      let lc = x.left.corners in
      let rs = x.right.starts in
      let rc = x.right.corners in
      record {
        walks = w.walks;
        corners = omega (arith, m, ap (λ ps. length (flatten ps)) contours_in_lem, few_pairs x.reflected x.left x.right j k);
        few_corners = omega (arith, m, few_left ls lc rs rc j k, few_right ls lc rs rc j k);
        few_contours = omega (arith, few_contours ls lc rs rc j k);
      }

  -- the answer for the walks is that for the operands
  pub answered :
      {b b' : IntRect} {s : List ℕ} {c : List ℤ} {F : ℕ} {y : PairCounts} {s' : List ℕ} {c' : List ℤ} → F ≡ first_fault (room_kinds (pair_contours x.reflected x.left x.right) (length s) (length c)) → b ≡ b' →
      WalksAnswered firsts points left right b s c y s' c' → PairsAnswered F (pair_contours x.reflected x.left x.right) b' s c y s' c'
  answered {b} {b'} {s} {c} {F} {y} {s'} {c'} e d a =
      let ps = pair_contours x.reflected x.left x.right in
      subst (λ f. PairsAnswered f ps b' s c y s' c') (sym e)
      (subst (λ z. PairsAnswered (first_fault (room_kinds ps (length s) (length c))) ps z s c y s' c') d
      (subst (λ qs. PairsAnswered (first_fault (room_kinds qs (length s) (length c))) qs b s c y s' c') contours_in_lem a))
