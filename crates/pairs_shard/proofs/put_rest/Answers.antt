-- `pairs_shard::put_rest` meets its contract: the corners, and what stands behind the left table.
-- Assumes nothing.
use mathlib.Core.Path.{◌≡◌, ◌∙◌, ap}
use Prim.Native.Nat.{◌+◌, ◌*◌}
use native.Mathlib.Omega.{arith}
use lib.ListN.{length, drop}
use lib.Seq.{slice}
use Rattle.corners.proofs.Corners.{take-drop}
use Rattle.text.proofs.Puts.{put_length, put_as, put_after_lem}
use Rattle.pairs_job.specs.Job.{table_words}
use Rattle.pairs_shard.proofs.Known.{known}
use Rattle.pairs_shard.proofs.Putting.{length_taken, rest_taken}
use Rattle.pairs_shard.proofs.put_rest.Goals as goal

pub word_at-parts-requires : goal.word_at-parts-requires
word_at-parts-requires c = let k = known _ _ _ c.requires.0 in
    omega arith

pub word_at-count-requires : goal.word_at-count-requires
word_at-count-requires c = let k = known _ _ _ c.requires.0 in
    omega arith

pub word_at-requires : goal.word_at-requires
word_at-requires c = let k = known _ _ _ c.requires.0 in
    omega arith

pub word_at-requires-2 : goal.word_at-requires-2
word_at-requires-2 c = let k = known _ _ _ c.requires.0 in
    omega arith

pub slice_bounds-put_bytes-count : goal.slice_bounds-put_bytes-count
slice_bounds-put_bytes-count c = let k = known _ _ _ c.requires.0 in
    omega (arith, c.word_at-2.ensures, c.word_at.ensures, c.word_at-parts.ensures)

pub slice_bounds-put_bytes-start : goal.slice_bounds-put_bytes-start
slice_bounds-put_bytes-start c = let k = known _ _ _ c.requires.0 in
    omega (arith, c.word_at-2.ensures, c.word_at.ensures, c.word_at-parts.ensures)

pub slice_bounds-put_bytes-end : goal.slice_bounds-put_bytes-end
slice_bounds-put_bytes-end c = let k = known _ _ _ c.requires.0 in
    omega (arith, c.word_at-2.ensures, c.word_at.ensures, c.word_at-parts.ensures)

pub put_bytes-after-requires : goal.put_bytes-after-requires
put_bytes-after-requires c = let B = c.args.bytes.now in
    let k = known _ _ _ c.requires.0 in
    let p = c.word_at-parts.ensures in
    let a = c.word_at.ensures in
    let e = c.word_at-2.ensures in
    let n = length_taken (4 * (8 + c.word_at-parts.result + 2 * c.word_at.result)) (4 * (8 + c.word_at-parts.result + 2 * c.word_at-2.result)) B (omega arith) in
    omega (arith, n, c.requires.1, c.requires.2)

pub slice_bounds-put_bytes-count-2 : goal.slice_bounds-put_bytes-count-2
slice_bounds-put_bytes-count-2 c = let k = known _ _ _ c.requires.0 in
    omega (arith, c.word_at-count.ensures, c.word_at-parts.ensures)

pub slice_bounds-put_bytes-start-2 : goal.slice_bounds-put_bytes-start-2
slice_bounds-put_bytes-start-2 c = let k = known _ _ _ c.requires.0 in
    omega (arith, c.word_at-count.ensures, c.word_at-parts.ensures)

pub put_bytes-requires : goal.put_bytes-requires
put_bytes-requires c = let B = c.args.bytes.now in
    let k = known _ _ _ c.requires.0 in
    let p = c.word_at-parts.ensures in
    let q = c.word_at-count.ensures in
    let a = c.word_at.ensures in
    let e = c.word_at-2.ensures in
    let n = length_taken (4 * (8 + c.word_at-parts.result + 2 * c.word_at.result)) (4 * (8 + c.word_at-parts.result + 2 * c.word_at-2.result)) B (omega arith) in
    let t = c.put_bytes-after.ensures in
    let m = put_length t (omega (arith, n, c.requires.1, c.requires.2)) in
    let z = length_taken (4 * (8 + c.word_at-parts.result + 2 * c.word_at-count.result)) (length B) B (omega arith) in
    omega (arith, n, m, z, t.after, c.requires.1, c.requires.2)

pub returns : goal.returns
returns c = let B = c.args.bytes.now in
    let k = known _ _ _ c.requires.0 in
    let p = c.word_at-parts.ensures in
    let q = c.word_at-count.ensures in
    let a = c.word_at.ensures in
    let e = c.word_at-2.ensures in
    let x = take-drop (4 * (8 + c.word_at-parts.result + 2 * c.word_at.result)) (4 * (8 + c.word_at-parts.result + 2 * c.word_at-2.result)) B (omega arith) in
    let y = rest_taken (4 * (8 + c.word_at-parts.result + 2 * c.word_at-count.result)) B in
    let z : 4 * (8 + c.word_at-parts.result + 2 * c.word_at-count.result) ≡ 4 * (5 + table_words B 5) = omega arith in
    put_after_lem (omega (arith, c.requires.1, c.requires.2)) (put_as (x ∙ (λ i. slice (4 * (8 + p i + 2 * a i)) (4 * (8 + p i + 2 * e i)) B)) c.put_bytes-after.ensures)
    (put_as (y ∙ ap (λ m. drop m B) z) c.put_bytes.ensures)
