-- `split_sectors::append_group` meets its contract: the parts before corner at are appended.
-- Assumes nothing.
use native.Mathlib.Omega.{arith}
use mathlib.Core.Path.{refl}
use mathlib.Core.List.{[], ◌∷◌}
use Prim.Native.Nat.{◌+◌, ◌-◌}
use Rattle.plane.specs.Machine.{point}
use Rattle.split_chords.proofs.Appending.{partway_start, partway_room, partway_turn, partway_end}
use Rattle.split_sectors.specs.Arcs.{arc_of}
use Rattle.split_sectors.proofs.Turns.{group_from, group_none, group_turn, sector_some, sector_within}
use Rattle.split_sectors.proofs.append_group.Goals as goal

pub loop-at-init : goal.loop-at-init
loop-at-init c = let g = c.args in
    (c.requires.0, partway_start g.starts.now g.points.now g.t refl)

pub append_sector-tally-requires : goal.append_sector-tally-requires
append_sector-tally-requires c = let g = c.args in
    let l = c.loop-at in
    let h = c.loop-at-test.true in
    let e = c.sector_end-end.ensures in
    let end = c.sector_end-end.result in
    let a = sector_some g.contour.now (point g.centre) g.target l.at h e in
    let b = sector_within g.contour.now (point g.centre) g.target l.at h e in
    (omega (arith, h, c.requires.1), omega (arith, a, b, c.requires.1), partway_room g.starts.now g.points.now g.t ((point g.centre ∷ arc_of g.contour.now l.at (end - l.at + 1)) ∷ []) (group_from g.contour.now (point g.centre) g.target end) c.requires.4 l.invariant.1 (group_turn g.contour.now (point g.centre) g.target l.at h e))

pub loop-at-preserved : goal.loop-at-preserved
loop-at-preserved c = let g = c.args in
    let l = c.loop-at in
    let h = c.loop-at-test.true in
    let e = c.sector_end-end.ensures in (
      sector_within g.contour.now (point g.centre) g.target l.at h e,
      partway_turn g.starts.now g.points.now g.t
          l.invariant.1
          (group_turn g.contour.now (point g.centre) g.target l.at h e) c.append_sector-tally.ensures,
    )

pub returns : goal.returns
returns c = let g = c.args in
    partway_end g.starts.now g.points.now g.t c.loop-at.invariant.1 (group_none g.contour.now (point g.centre) g.target c.loop-at.at c.loop-at-test.false)
