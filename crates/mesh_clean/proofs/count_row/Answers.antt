-- `mesh_clean::count_row` meets its contract: the cases of Tests. Assumes nothing.
use Rattle.mesh_clean.proofs.Tests.{looked, row_first, row_second, row_third}
use Rattle.mesh_clean.proofs.count_row.Goals as goal

pub returns-then-not-s0 : goal.returns-then-not-s0
returns-then-not-s0 c = let rows = c.args.mesh.now in
    let k = c.args.k in
    row_first rows k c.requires.0 (looked rows k c.requires.0 c.neighbor_of.ensures c.packed_of-v1.ensures c.packed_of-v2.ensures c.count_side-s0.ensures) c.if-not-s0.true

pub returns-then-not-s1 : goal.returns-then-not-s1
returns-then-not-s1 c = let rows = c.args.mesh.now in
    let k = c.args.k in
    row_second rows k c.requires.0 (looked rows k c.requires.0 c.neighbor_of.ensures c.packed_of-v1.ensures c.packed_of-v2.ensures c.count_side-s0.ensures)
    c.if-not-s0.false (looked rows k c.requires.0 c.neighbor_of-2.ensures c.packed_of-v2.ensures c.packed_of-v0.ensures c.count_side-s1.ensures) c.if-not-s1.true

pub returns : goal.returns
returns c = let rows = c.args.mesh.now in
    let k = c.args.k in
    row_third rows k c.requires.0 (looked rows k c.requires.0 c.neighbor_of.ensures c.packed_of-v1.ensures c.packed_of-v2.ensures c.count_side-s0.ensures)
    c.if-not-s0.false (looked rows k c.requires.0 c.neighbor_of-2.ensures c.packed_of-v2.ensures c.packed_of-v0.ensures c.count_side-s1.ensures)
    c.if-not-s1.false (looked rows k c.requires.0 c.neighbor_of-3.ensures c.packed_of-v0.ensures c.packed_of-v1.ensures c.count_side.ensures)
