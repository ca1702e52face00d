-- `split_sizes::split_all` meets its contract: after k turns the parts of the first k contours are
-- appended. Assumes nothing.
use mathlib.Core.Path.{◌≡◌, ◌∙◌, ap, subst}
use mathlib.Core.List.{[], flatten}
use Prim.Native.Nat.{◌<◌}
use native.Mathlib.Omega.{arith}
use lib.ListN.{length, take, length-set}
use lib.Seq.{take_all}
use Rattle.points.specs.Gathered.{Gathered}
use Rattle.points.proofs.Gathering.{none_appended}
use Rattle.split_sizes.specs.Parts.{parts_in, split_each}
use Rattle.split_sizes.proofs.Each.{room_at, each_more, first_gathered, resized}
use Rattle.split_sizes.proofs.split_all.Goals as goal

pub loop-k-init : goal.loop-k-init
unfolding flatten
loop-k-init c = let g = c.args in
    none_appended _ g.points.now (record { parts = 0; corners = 0 })

pub append_part-t-requires : goal.append_part-t-requires
append_part-t-requires c = let g = c.args in
    let k : c.loop-k.k < length (parts_in g.begins.now g.joined.now g.u) = omega (arith, c.requires.0.gathered.parts) in
    let r = resized _ (ap length c.put_start.ensures ∙ simp length-set) c.requires.2 in
    (c.requires.0, omega arith, c.requires.1, room_at g.strategy g.limit (parts_in g.begins.now g.joined.now g.u) k c.loop-k.invariant r)

pub loop-k-preserved : goal.loop-k-preserved
loop-k-preserved c = let g = c.args in
    each_more g.strategy g.limit (parts_in g.begins.now g.joined.now g.u) (omega (arith, c.requires.0.gathered.parts)) c.loop-k.invariant c.append_part-t.ensures

pub returns : goal.returns
returns c = let g = c.args in
    let ps = parts_in g.begins.now g.joined.now g.u in
    let e : take c.loop-k.k ps ≡ ps = take_all c.loop-k.k ps (omega (arith, c.requires.0.gathered.parts)) in
    let f = first_gathered g.starts.now g.points.now (omega (arith, c.requires.2.for_starts)) c.put_start.ensures in
    subst (λ qs. Gathered c.loop-k.starts c.loop-k.points c.loop-k.t (split_each g.strategy g.limit qs)) e (c.loop-k.invariant.gathered [] f)
