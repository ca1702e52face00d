-- `points::point_at` meets its contract. Assumes nothing.
use borrow.Author.Rules.{rules}
use mathlib.Core.List.{[]}
use lib.ListN.{get_or}
use lib.IntN.{pos}
use mir.Syntax.{w32}
use Rattle.integers.proofs.Bits.{kept}
use Rattle.plane.proofs.Vectors.{pt_eq}
use Rattle.points.proofs.Points.{on_grid_of}
use Rattle.points.proofs.point_at.Goals as goal

pub returns : goal.returns
returns c = let row = get_or c.args.points.now c.args.i [] in
    let e = pt_eq (kept {w = w32} {z = get_or row 0 (pos 0)} (search rules)) (kept {w = w32} {z = get_or row 1 (pos 0)} (search rules)) in
    (e, on_grid_of e (c.requires.1.at c.args.i))
