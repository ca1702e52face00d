-- Reading the stored parts gives them back (`parts_read_back`); more input changes nothing
-- (`more_input`). Assumes nothing.
use mathlib.Core.Path.{◌≡◌, sym, ◌∙◌, ap}
use mathlib.Core.List.{List, ◌++◌, flatten}
use Prim.Native.Nat.{ℕ, ◌*◌, ◌-◌, ◌/◌}
use native.Mathlib.Omega.{arith}
use borrow.Author.Tests.{eq-eqb, ne_eqb}
use lib.ListN.{length, length-append, replicate, length-replicate}
use Rattle.table.specs.Table.{starts_of, corners_of}
use Rattle.table.proofs.Parts.{length_starts}
use Rattle.corners.proofs.Corners.{length_numbers}
use Rattle.table_write.specs.Written.{answer_written, fault_written}
use Rattle.table_stored.proofs.RoundTrip.{read_back, bytes_told_lem}
use Rattle.table_read.specs.Read.{counts_read, starts_read, corners_read}
use Rattle.listing.specs.File.{file_fault, file_parts}
use Rattle.file_parts.proofs.More.{too_long_refused, more_fault}
use Rattle.parts_file.specs.Parts.{parts_bytes, parts_answer}
use Rattle.parts_file.specs.ReadBack.{PartsReadBack}
use Rattle.parts_file.specs.MoreInput.{MoreInput}
use Rattle.parts_file.proofs.Stored.{parts_written}

-- as if written into bytes of the longest answer's length
pub parts_read_back : PartsReadBack
unfolding parts_bytes corners_of
parts_read_back bytes os oc e hs hc =
    let ps = file_parts bytes in
    let old : List ℕ = replicate 57356 0 in
    let f : fault_written (starts_of ps) (corners_of ps) old ≡ 0 = parts_written bytes e (omega (arith, length-replicate {A = ℕ} 57356 0)) in
    let n = length_starts ps in
    let k : length (corners_of ps) ≡ 2 * length (flatten ps) = length_numbers (flatten ps) in
    let b = bytes_told_lem (starts_of ps) (corners_of ps) old f in
    let r = read_back (starts_of ps) (corners_of ps) old os oc (rw (eq-eqb (fault_written (starts_of ps) (corners_of ps) old) 0 f)) (omega (arith, n)) (omega (arith, k)) in
    let p : length (starts_of ps) - 1 ≡ length ps = omega (arith, n) in
    let q : length (corners_of ps) / 2 ≡ length (flatten ps) = omega (arith, k) in
    record {
      counts = ap (λ x. counts_read x os oc) (sym b) ∙ r.counts ∙ (λ i. record { fault = 0; parts = p i; corners = q i });
      starts = ap (λ x. starts_read x os oc) (sym b) ∙ r.starts;
      corners = ap (λ x. corners_read x os oc) (sym b) ∙ r.corners;
    }

pub more_input : MoreInput
more_input bytes more e =
    let h = more_fault bytes more e in
    rw (ne_eqb (file_fault bytes) 0 (too_long_refused bytes (omega arith)), ne_eqb (file_fault (bytes ++ more)) 0 (too_long_refused (bytes ++ more) (omega (arith, length-append bytes more))))
    (λ i. record { fault = h i; length = 0 })
