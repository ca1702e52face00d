-- Points as numbers: a number from its halves (`packs`); two numbers are one where their points are
-- (`packs_eq`); where a side that is none begins is not where it should (`none_apart`). Assumes
-- nothing.
use mathlib.Core.Path.{◌≡◌, sym, ◌∙◌, ap, subst}
use Prim.Native.Nat.{ℕ, ◌+◌, ◌*◌, ◌-◌, ◌<◌}
use native.Mathlib.Omega.{arith}
use borrow.Author.Tests.{eq-eqb, ne_eqb}
use lib.Dec.{eqb}
use mir.Syntax.{w32}
use mir.Val.{SFits}
use mir.ValLaws.{of_z_fits}
use Rattle.integers.specs.Word.{unsigned}
use Rattle.integers.proofs.Order.{by_test}
use Rattle.integers.proofs.Tests.{differ}
use Rattle.integers.proofs.Bits.{bits_eq}
use Rattle.plane.specs.Plane.{Pt, eq_pt}
use Rattle.plane.proofs.Vectors.{pt_eq}
use Rattle.plane.proofs.Edges.{eq_pt_true, eq_pt_refl}
use Rattle.mesh_clean.specs.Packed.{upper, packed, Packs}

-- i and j are the bits of x and y
pub packs : {p q : Pt} {i j : ℕ} → p ≡ q → SFits w32 p.x → SFits w32 p.y → i ≡ unsigned p.x → j ≡ unsigned p.y → Packs q (i + j * upper)
packs {i = i} {j = j} e f g h k = subst (λ z. Packs z (i + j * upper)) e (record { x_fits = f; y_fits = g; is = λ w. h w + k w * upper })

-- equal numbers have equal halves
halves : {i : ℕ} (j : ℕ) {k : ℕ} (l : ℕ) → i < 4294967296 → k < 4294967296 → i + j * upper ≡ k + l * upper → (i ≡ k) × (j ≡ l)
halves j l g h e = (omega arith, omega arith)

-- the lower half has 32 bits
lower : {p : Pt} {a : ℕ} → Packs p a → unsigned p.x < 4294967296
lower {p} h = (of_z_fits w32 p.x h.x_fits).fits

one_point : {p q : Pt} {a b : ℕ} → Packs p a → Packs q b → a ≡ b → p ≡ q
one_point {p} {q} g h e =
    let s = halves (unsigned p.y) (unsigned q.y) (lower g) (lower h) (sym g.is ∙ e ∙ h.is) in
    pt_eq (bits_eq g.x_fits h.x_fits s.0) (bits_eq g.y_fits h.y_fits s.1)

pub packs_eq : {p q : Pt} {a b : ℕ} → Packs p a → Packs q b → eqb a b ≡ eq_pt p q
packs_eq {p} {q} {a} {b} g h =
    by_test (eq_pt p q)
    (λ t. eq-eqb a b (g.is ∙ ap packed (eq_pt_true p q t) ∙ sym h.is) ∙ sym t)
    (λ t. ne_eqb a b (λ e. differ (sym t ∙ ap (eq_pt p) (sym (one_point g h e)) ∙ eq_pt_refl p)) ∙ sym t)

-- the sum of the two is odd
pub none_apart : {b : ℕ} → 18446744073709551615 - b ≡ b → ⊥
none_apart e = omega arith
