-- Parts to a table and back: laws of `starts_of`, `parts_of` and `flatten`.
-- In order: lengths; from parts to a table and back (`parts_starts`). Assumes nothing.
use mathlib.Core.Path.{◌≡◌, refl, ap}
use mathlib.Core.List.{List, [], ◌∷◌, ◌++◌, flatten, append_assoc}
use Prim.Native.Nat.{ℕ, suc, ◌+◌}
use lib.ListN.{length, drop, length-append}
use lib.Seq.{slice, take-append-add, take-append_seam, drop-append_seam}
use Rattle.plane.specs.Plane.{Pt}
use Rattle.table.specs.Table.{starts_from, starts_of, parts_of}

pub length-starts_from : (k : ℕ) (ps : List (List Pt)) → length (starts_from k ps) ≡ suc (length ps)
unfolding starts_from
length-starts_from k [] = refl
length-starts_from k (p ∷ ps) = ap suc (length-starts_from (k + length p) ps)

pub length_starts : (ps : List (List Pt)) → length (starts_of ps) ≡ suc (length ps)
unfolding starts_of
length_starts ps = length-starts_from 0 ps

pub length_parts : (a : ℕ) (s : List ℕ) (l : List Pt) → length (parts_of (a ∷ s) l) ≡ length s
unfolding parts_of
length_parts a [] l = refl
length_parts a (b ∷ s) l = ap suc (length_parts b s l)

-- the first of starts_from k ps is k
starts_from_cons : (k : ℕ) (ps : List (List Pt)) → starts_from k ps ≡ k ∷ drop 1 (starts_from k ps)
unfolding starts_from
starts_from_cons k [] = refl
starts_from_cons k (p ∷ ps) = refl

parts_of_cons : (a b : ℕ) (s : List ℕ) (l : List Pt) → parts_of (a ∷ b ∷ s) l ≡ slice a b l ∷ parts_of (b ∷ s) l
unfolding parts_of
parts_of_cons a b s l = refl

starts_from_step : (k : ℕ) (p : List Pt) (ps : List (List Pt)) → starts_from k (p ∷ ps) ≡ k ∷ starts_from (k + length p) ps
unfolding starts_from
starts_from_step k p ps = refl

parts_of_starts : (k : ℕ) (n : ℕ) (ps : List (List Pt)) (l : List Pt) → parts_of (k ∷ starts_from n ps) l ≡ slice k n l ∷ parts_of (starts_from n ps) l
parts_of_starts k n ps l = rw (starts_from_cons n ps) (parts_of_cons k n (drop 1 (starts_from n ps)) l)

no_parts : (k : ℕ) (l : List Pt) → parts_of (starts_from k []) l ≡ []
unfolding starts_from parts_of
no_parts k l = refl

-- the part between what stands before it and what stands behind it
middle : {A : Type 0} (front p rest : List A) → slice (length front) (length front + length p) (front ++ (p ++ rest)) ≡ p
middle front p rest = rw (take-append-add, take-append_seam, drop-append_seam)

-- the parts of ps, of points that stand behind others
pub parts_starts_from : (front : List Pt) (ps : List (List Pt)) → parts_of (starts_from (length front) ps) (front ++ flatten ps) ≡ ps
unfolding flatten
parts_starts_from front [] = no_parts (length front) (front ++ [])
parts_starts_from front (p ∷ ps) =
    rw (starts_from_step, parts_of_starts, middle)
    (ap (λ r. p ∷ r) (rw (← length-append, ← append_assoc) (parts_starts_from (front ++ p) ps)))

pub parts_starts : (ps : List (List Pt)) → parts_of (starts_of ps) (flatten ps) ≡ ps
unfolding starts_of
parts_starts ps = parts_starts_from [] ps
