-- What is printed of two mesh files (`contours_printed`), and by which numbers they are refused
-- (`refused_by_number`). Assumes nothing.
use mathlib.Core.Path.{◌≡◌, refl, sym, ◌∙◌, ap, subst}
use mathlib.Core.Bool.{Bool, true, false, cond}
use mathlib.Core.List.{List, [], ◌∷◌, ◌++◌, map}
use mathlib.Core.Logic.{◌⊎◌, inl, inr, ⊎_elim}
use Prim.Native.Nat.{ℕ}
use native.Mathlib.Omega.{arith}
use borrow.Author.Tests.{eqb-true}
use lib.Dec.{eqb, ltb}
use lib.ListN.{length, drop}
use Rattle.integers.specs.Lists.{All, Any}
use Rattle.integers.specs.Faults.{Kind, first_fault}
use Rattle.integers.proofs.Order.{by_test}
use Rattle.integers.proofs.Elements.{any_map}
use Rattle.mesh.specs.Mesh.{mesh_kinds}
use Rattle.table.specs.Stored.{word_at}
use Rattle.table.specs.Table.{bounds_list, part_count}
use Rattle.corners.specs.Corners.{off_range}
use Rattle.text.specs.Text.{refusal}
use Rattle.minkowski.specs.Pairs.{Operand, result_bounds}
use Rattle.listing.specs.File.{mesh_of, header_kinds, file_fault}
use Rattle.mesh_pair.specs.Files.{left_file, right_file, files_fault, left_operand, right_operand}
use Rattle.pairs_job.specs.Job.{reflected_of, left_of, right_of, job_fault, pairs_text}
use Rattle.meshes_job.specs.Job.{operation_fault, meshes_fault, job_of, contours_text}
use Rattle.meshes_job.specs.Printed.{result_fault, contours_fault, printed_of, ContoursPrinted, refusal_numbers, RefusedByNumber}
use Rattle.meshes_job.proofs.ReadBack.{job_read_back}

-- ---- what is printed

-- the pairs program's text of a job, by what it reads of it
pairs_text_lem : (job : List ℕ) {t : Bool} {l r : Operand} {f : ℕ} → reflected_of job ≡ t → left_of job ≡ l → right_of job ≡ r → job_fault job ≡ f → pairs_text job ≡ cond (eqb f 0) (printed_of t l r) (refusal f)
unfolding pairs_text printed_of
pairs_text_lem job et el er ef = λ i. cond (eqb (ef i) 0) (printed_of (et i) (el i) (er i)) (refusal (ef i))

pub contours_printed : ContoursPrinted
unfolding contours_text contours_fault
contours_printed bytes =
    by_test (eqb (meshes_fault bytes) 0)
    (λ t. let b = job_read_back bytes (eqb-true (meshes_fault bytes) 0 t) in
    rw t (pairs_text_lem (job_of bytes) b.operation b.left b.right b.fault))
    (λ t. rw (t, t))

-- ---- by which numbers

-- none, or one of some numbers
abbrev Of : List ℕ → ℕ → Type 0
Of ns f = (f ≡ 0) ⊎ Any (λ n. f ≡ n) ns

first_of : (ks : List Kind) → Of (map (λ k. k.0) ks) (first_fault ks)
unfolding first_fault
first_of [] = inl refl
first_of (k ∷ ks) =
    by_test k.1 (λ t. rw t (inr (inl refl))) (λ t. subst (Of (map (λ x. x.0) (k ∷ ks))) (let e : first_fault ks ≡ first_fault (k ∷ ks) = rw t refl in e) (⊎_elim (λ z. inl z) (λ a. inr (inr a)) (first_of ks)))

-- of numbers that all stand in `refusal_numbers`
listed : {f : ℕ} (ns : List ℕ) → All (λ n. Any (λ m. n ≡ m) refusal_numbers) ns → Of ns f → Of refusal_numbers f
listed [] h (inl z) = inl z
listed [] h (inr a) = absurd a
listed (n ∷ ns) h (inl z) = inl z
listed {f} (n ∷ ns) h (inr (inl e)) = inr (any_map {P = λ m. n ≡ m} {Q = λ m. f ≡ m} refusal_numbers (λ m d. e ∙ d) h.0)
listed (n ∷ ns) h (inr (inr a)) = listed ns h.1 (inr a)

-- of two faults, the first that there is
either_listed : {a b : ℕ} → Of refusal_numbers a → Of refusal_numbers b → Of refusal_numbers (cond (eqb a 0) b a)
either_listed {a} p q = by_test (eqb a 0) (λ t. rw t q) (λ t. rw t p)

abbrev At : ℕ → Type 0
At n = Any (λ m. n ≡ m) refusal_numbers

n13 : At 13
n13 = inl refl

n1 : At 1
n1 = inr (inl refl)

n2 : At 2
n2 = inr (inr (inl refl))

n3 : At 3
n3 = inr (inr (inr (inl refl)))

n4 : At 4
n4 = inr (inr (inr (inr (inl refl))))

n5 : At 5
n5 = inr (inr (inr (inr (inr (inl refl)))))

n6 : At 6
n6 = inr (inr (inr (inr (inr (inr (inl refl))))))

n11 : At 11
n11 = inr (inr (inr (inr (inr (inr (inr (inl refl)))))))

n10 : At 10
n10 = inr (inr (inr (inr (inr (inr (inr (inr (inl refl))))))))

n20 : At 20
n20 = inr (inr (inr (inr (inr (inr (inr (inr (inr (inl refl)))))))))

file_listed : (file : List ℕ) → Of refusal_numbers (file_fault file)
unfolding file_fault
file_listed file =
    listed (13 ∷ 1 ∷ 13 ∷ 1 ∷ 2 ∷ 3 ∷ 4 ∷ 5 ∷ 6 ∷ 11 ∷ []) (n13, (n1, (n13, (n1, (n2, (n3, (n4, (n5, (n6, (n11, tt)))))))))) (first_of (header_kinds file ++ mesh_kinds (mesh_of file)))

files_listed : (files : List ℕ) → Of refusal_numbers (files_fault files)
unfolding files_fault
files_listed files = either_listed (file_listed (left_file files)) (file_listed (right_file files))

operation_listed : (bytes : List ℕ) → Of refusal_numbers (operation_fault bytes)
unfolding operation_fault
operation_listed bytes = listed (13 ∷ 13 ∷ []) (n13, (n13, tt)) (first_of ((13, ltb (length bytes) 4) ∷ (13, ltb 1 (word_at bytes 0)) ∷ []))

meshes_listed : (bytes : List ℕ) → Of refusal_numbers (meshes_fault bytes)
unfolding meshes_fault
meshes_listed bytes = either_listed (operation_listed bytes) (files_listed (drop 4 bytes))

result_listed : (t : Bool) (l r : Operand) → Of refusal_numbers (result_fault t l r)
unfolding result_fault
result_listed t l r =
    listed (10 ∷ 20 ∷ 20 ∷ []) (n10, (n20, (n20, tt)))
    (first_of ((10, off_range (bounds_list (result_bounds t l.bounds r.bounds))) ∷ (20, eqb (part_count l.starts) 0) ∷ (20, eqb (part_count r.starts) 0) ∷ []))

pub refused_by_number : RefusedByNumber
unfolding contours_fault
refused_by_number bytes = either_listed (meshes_listed bytes) (result_listed (reflected_of bytes) (left_operand (drop 4 bytes)) (right_operand (drop 4 bytes)))
