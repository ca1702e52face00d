-- `split_centre::sums_of` meets its contract. The loop's invariant: the sums are those of the
-- wedges before corner i, and a is corner i - 1 seen from the first; the measure is the corners
-- left. Assumes nothing.
use mathlib.Core.Path.{◌≡◌, sym, ◌∙◌, ap, ap₂, subst}
use mathlib.Core.List.{List, map}
use Prim.Native.Nat.{ℕ, ◌+◌, ◌≤◌, ◌<◌}
use native.Mathlib.Omega.{arith}
use lib.ListN.{length, get_or, length-map}
use lib.IntN.{ℤ}
use Rattle.plane.specs.declared.IntVector.{IntVector}
use Rattle.plane.specs.Plane.{Pt, O, ◌-ᵖ◌, cross}
use Rattle.plane.specs.Machine.{vector, Short}
use Rattle.points.specs.Points.{corner_of}
use Rattle.split_centre.specs.declared.Sums.{Sums}
use Rattle.split_centre.specs.Centre.{Summable, Roomy, Added, Summed}
use Rattle.split_centre.proofs.Reading.{grid_of, vector_read}
use Rattle.split_centre.proofs.Fan.{Sofar, sofar_start, sofar_turn, sofar_room, sofar_end, no_sums}
use Rattle.split_centre.proofs.sums_of.Invariants.{Going}
use Rattle.split_centre.proofs.sums_of.Goals as goal

module _ (cs : List (List ℤ)) where
  abbrev l : List Pt
  l = map corner_of cs

  starts : {a : IntVector} → 3 ≤ length cs → vector a ≡ get_or l 1 O -ᵖ get_or l 0 O → Short a → Going cs no_sums a 2
  starts h e f = record { from = omega arith; upto = omega arith; sums = sofar_start (get_or l 0 O) l; here = e; short = f }

  module _ {s : Sums} {a b : IntVector} {i : ℕ} (k : i < length cs) (g : Going cs s a i) (e : vector b ≡ get_or l i O -ᵖ get_or l 0 O) where
    in_list : i < length l
    in_list = omega (arith, k, length-map cs corner_of)

    room : Summable l → Roomy s (cross (vector a) (vector b))
    room h = subst (Roomy s) (sym (ap₂ cross g.here e)) (sofar_room h g.from in_list g.sums)

    turns : {r : Sums} → Short b → Added s (vector a) (vector b) r → Going cs r b (i + 1)
    turns {r} f q = record {
      from = omega (arith, g.from);
      upto = omega (arith, k);
      sums = sofar_turn (get_or l 0 O) l g.from in_list g.sums (rw (g.here, e) at q);
      here = e ∙ ap (λ n. get_or l n O -ᵖ get_or l 0 O) (omega arith);
      short = f;
    }

  ends : {s : Sums} {a : IntVector} {i : ℕ} → length cs ≤ i → Going cs s a i → Summed l s
  ends {s} {a} {i} k g =
      sofar_end (omega (arith, length-map cs corner_of, g.from, g.upto)) (subst (λ n. Sofar (get_or l 0 O) l n s) (omega (arith, length-map cs corner_of, g.upto)) g.sums)

pub point_at-origin-requires : goal.point_at-origin-requires
point_at-origin-requires c = (omega (arith, c.requires.1), grid_of c.args.contour.now c.requires.0.grid)

pub point_at-requires : goal.point_at-requires
point_at-requires c = (omega (arith, c.requires.1), grid_of c.args.contour.now c.requires.0.grid)

pub loop-i-init : goal.loop-i-init
loop-i-init c = starts c.args.contour.now c.requires.1 (vector_read c.args.contour.now 1 0 c.subtract-a.ensures.0 c.point_at.ensures.0 c.point_at-origin.ensures.0) c.subtract-a.ensures.1

pub point_at-requires-in-loop-i : goal.point_at-requires-in-loop-i
point_at-requires-in-loop-i c = (omega arith, grid_of c.args.contour.now c.requires.0.grid)

pub add_edge-s-requires : goal.add_edge-s-requires
add_edge-s-requires c = let e = vector_read c.args.contour.now c.loop-i.i 0 c.subtract-b.ensures.0 c.point_at-in-loop-i.ensures.0 c.point_at-origin.ensures.0 in
    let g = c.loop-i.invariant in
    (room c.args.contour.now (omega arith) g e c.requires.0, g.short, c.subtract-b.ensures.1)

pub loop-i-preserved : goal.loop-i-preserved
loop-i-preserved c = let e = vector_read c.args.contour.now c.loop-i.i 0 c.subtract-b.ensures.0 c.point_at-in-loop-i.ensures.0 c.point_at-origin.ensures.0 in
    turns c.args.contour.now (omega arith) c.loop-i.invariant e c.subtract-b.ensures.1 c.add_edge-s.ensures

pub returns : goal.returns
returns c = ends c.args.contour.now (omega arith) c.loop-i.invariant
