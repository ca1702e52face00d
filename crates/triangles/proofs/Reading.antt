-- The rows that are read so far are those of the triangles so far. Assumes nothing.
use mathlib.Core.Path.{◌≡◌, refl, sym, ap, ◌∙◌}
use mathlib.Core.List.{List, [], ◌∷◌, ◌++◌, map}
use Prim.Native.Nat.{ℕ, suc, ◌+◌, ◌≤◌, ◌<◌}
use native.Mathlib.Omega.{arith}
use lib.ListN.{length, get_or, set, take}
use lib.Seq.{take-suc, take-suc-set, take_all}
use lib.IntN.{ℤ}
use Rattle.mesh.specs.Rows.{row_triangle, rows_mesh}
use Rattle.triangles.specs.declared.IntTriangle.{IntTriangle}
use Rattle.triangles.specs.Triangles.{no_struct, struct_triangle, triangles_mesh}

map_append : {X Y : Type 0} (f : X → Y) (xs ys : List X) → map f (xs ++ ys) ≡ map f xs ++ map f ys
map_append f [] ys = refl
map_append f (x ∷ xs) ys = ap (λ (t : List _). f x ∷ t) (map_append f xs ys)

pub none_read : (ys : List IntTriangle) (rows : List (List ℤ)) → rows_mesh (take 0 rows) ≡ triangles_mesh (take 0 ys)
unfolding rows_mesh triangles_mesh
none_read ys rows = refl

pub next_read : (ys : List IntTriangle) {i : ℕ} (rows : List (List ℤ)) (row : List ℤ) {t : IntTriangle} → i < length ys → i < length rows → t ≡ get_or ys i no_struct → row_triangle row ≡ struct_triangle t
    → rows_mesh (take i rows) ≡ triangles_mesh (take i ys) → rows_mesh (take (i + 1) (set rows i row)) ≡ triangles_mesh (take (i + 1) ys)
unfolding rows_mesh triangles_mesh
next_read ys {i} rows row h l e f so =
    let one : i + 1 ≡ suc i = omega arith in
    ap (λ (n : ℕ). map row_triangle (take n (set rows i row))) one ∙ ap (map row_triangle) (take-suc-set rows i row l) ∙ map_append row_triangle (take i rows) (row ∷ [])
    ∙ ap (λ (m : List _). m ++ (row_triangle row ∷ [])) so ∙ ap (λ (t : _). map struct_triangle (take i ys) ++ (t ∷ [])) (f ∙ ap struct_triangle e)
    ∙ sym (map_append struct_triangle (take i ys) (get_or ys i no_struct ∷ [])) ∙ sym (ap (map struct_triangle) (take-suc ys i no_struct h)) ∙ sym (ap (λ (n : ℕ). map struct_triangle (take n ys)) one)

pub all_read : (ys : List IntTriangle) {i : ℕ} (rows : List (List ℤ)) → i ≤ length ys → length ys ≤ i → rows_mesh (take i rows) ≡ triangles_mesh (take i ys) → rows_mesh (take (length ys) rows) ≡ triangles_mesh ys
all_read ys {i} rows h l so =
    let e : i ≡ length ys = omega (arith, h, l) in
    ap (λ (n : ℕ). rows_mesh (take n rows)) (sym e) ∙ so ∙ ap triangles_mesh (take_all i ys l)
