-- Words of 32 bits as bytes, the least first: laws of `bytes_of`, `word_of`, `words_of`,
-- `word_bytes`, `signed` and `unsigned` of `specs/Stored.antt`. In order: one word; lengths; round
-- trips; word k (`words_at`); sizes; signed numbers. Assumes nothing.
use mathlib.Core.Path.{◌≡◌, refl, sym, ◌∙◌, ap}
use mathlib.Core.List.{List, [], ◌∷◌, ◌++◌, map, flatten, append_assoc}
use Prim.Native.Nat.{ℕ, zero, suc, ◌+◌, ◌*◌, ◌/◌, ◌%◌, ◌<◌, ◌≤◌}
use native.Mathlib.Nat.{div-div-eq-div-mul, div-add-mod, mod-eq_of_lt}
use native.Mathlib.Omega.{arith}
use lib.ListN.{length, get_or}
use lib.IntN.{ℤ}
use mir.Syntax.{w32}
use mir.Val.{SFits}
use mir.ValLaws.{to_z-of_z, of_z-to_z}
use Rattle.integers.specs.Word.{unsigned}
use Rattle.integers.specs.Lists.{All}
use Rattle.table.specs.Stored.{bytes_of, word_of, words_of, word_bytes, signed}

-- a byte, and a word
abbrev pub Byte : ℕ → Type 0
Byte b = b < 256

abbrev pub Word : ℕ → Type 0
Word w = w < 4294967296

-- ---- one word

-- a + 256 m, taken apart
lowest : {a : ℕ} (m : ℕ) → Byte a → ((a + 256 * m) % 256 ≡ a) × ((a + 256 * m) / 256 ≡ m)
lowest m h = (omega arith, omega arith)

-- n / 256 / 256 = n / 65536, and so on
div_256 : (n : ℕ) → (n / 65536 ≡ n / 256 / 256) × (n / 16777216 ≡ n / 256 / 256 / 256)
div_256 n = (
  sym (div-div-eq-div-mul n 256 256),
  sym (ap (λ q. q / 256) (div-div-eq-div-mul n 256 256) ∙ div-div-eq-div-mul n 65536 256),
)

-- n = r₀ + 256 (r₁ + 256 (r₂ + 256 q))
joined : {n q₁ q₂ : ℕ} (q r₀ r₁ r₂ : ℕ) → 256 * q₁ + r₀ ≡ n → 256 * q₂ + r₁ ≡ q₁ → 256 * q + r₂ ≡ q₂ → r₀ + 256 * r₁ + 65536 * r₂ + 16777216 * q ≡ n
joined q r₀ r₁ r₂ e f g = omega arith

pub word_bytes_lem : {n : ℕ} → Word n → word_of (n % 256) (n / 256 % 256) (n / 65536 % 256) (n / 16777216 % 256) ≡ n
unfolding word_of
word_bytes_lem {n} h =
    let top : n / 16777216 < 256 = omega arith in
    rw (mod-eq_of_lt top, (div_256 n).1, (div_256 n).0)
    (joined (n / 256 / 256 / 256) (n % 256) (n / 256 % 256) (n / 256 / 256 % 256) (div-add-mod n 256) (div-add-mod (n / 256) 256) (div-add-mod (n / 256 / 256) 256))

pub bytes_word : {a b c d : ℕ} → Byte a → Byte b → Byte c → Byte d → bytes_of (word_of a b c d) ≡ a ∷ b ∷ c ∷ d ∷ []
unfolding bytes_of word_of
bytes_word {a} {b} {c} {d} ha hb hc hd =
    let n : a + 256 * b + 65536 * c + 16777216 * d ≡ a + 256 * (b + 256 * (c + 256 * d)) = omega arith in
    let l₀ = lowest (b + 256 * (c + 256 * d)) ha in
    let l₁ = lowest (c + 256 * d) hb in
    let l₂ = lowest d hc in
    rw (n, (div_256 (a + 256 * (b + 256 * (c + 256 * d)))).0, (div_256 (a + 256 * (b + 256 * (c + 256 * d)))).1, l₀.0, l₀.1, l₁.0, l₁.1, l₂.0, l₂.1, mod-eq_of_lt hd)

pub word_small : {a b c d : ℕ} → Byte a → Byte b → Byte c → Byte d → Word (word_of a b c d)
unfolding word_of
word_small ha hb hc hd = omega arith

-- ---- lengths

pub word_bytes_cons : (w : ℕ) (ws : List ℕ) → word_bytes (w ∷ ws) ≡ bytes_of w ++ word_bytes ws
unfolding word_bytes flatten
word_bytes_cons w ws = refl

pub word_bytes_append : (a b : List ℕ) → word_bytes (a ++ b) ≡ word_bytes a ++ word_bytes b
unfolding word_bytes flatten
word_bytes_append [] b = refl
word_bytes_append (w ∷ a) b = ap (λ r. bytes_of w ++ r) (word_bytes_append a b) ∙ sym (append_assoc (bytes_of w) (word_bytes a) (word_bytes b))

pub length-word_bytes : (ws : List ℕ) → length (word_bytes ws) ≡ 4 * length ws
unfolding word_bytes flatten bytes_of
length-word_bytes [] = refl
length-word_bytes (w ∷ ws) = omega (arith, length-word_bytes ws)

pub length_words : (bs : List ℕ) → length (words_of bs) ≡ length bs / 4
unfolding words_of
length_words [] = refl
length_words (a ∷ []) = refl
length_words (a ∷ b ∷ []) = refl
length_words (a ∷ b ∷ c ∷ []) = refl
length_words (a ∷ b ∷ c ∷ d ∷ bs) = omega (arith, length_words bs)

-- ---- round trips

pub words_word_bytes : {ws : List ℕ} → All Word ws → words_of (word_bytes ws) ≡ ws
unfolding words_of word_bytes flatten bytes_of
words_word_bytes {ws = []} h = refl
words_word_bytes {ws = w ∷ ws} h = λ i. word_bytes_lem h.0 i ∷ words_word_bytes {ws = ws} h.1 i

pub word_bytes_words : {bs : List ℕ} → length bs % 4 ≡ 0 → All Byte bs → word_bytes (words_of bs) ≡ bs
unfolding words_of word_bytes flatten
word_bytes_words {bs = []} e h = refl
word_bytes_words {bs = a ∷ []} e h = absurd (omega arith)
word_bytes_words {bs = a ∷ b ∷ []} e h = absurd (omega arith)
word_bytes_words {bs = a ∷ b ∷ c ∷ []} e h = absurd (omega arith)
word_bytes_words {bs = a ∷ b ∷ c ∷ d ∷ bs} e h =
    λ i. bytes_word h.0 h.1.0 h.1.1.0 h.1.1.1.0 i ++ word_bytes_words {bs = bs} (omega arith) h.1.1.1.1 i

-- ---- word k

quadruple : (k j : ℕ) → 4 * suc k + j ≡ suc (suc (suc (suc (4 * k + j))))
quadruple k j = omega arith

quadruple_0 : (k : ℕ) → 4 * suc k ≡ suc (suc (suc (suc (4 * k))))
quadruple_0 k = omega arith

-- from bytes 4 k to 4 k + 3
pub words_at : (bs : List ℕ) (k : ℕ) → 4 * k + 4 ≤ length bs → get_or (words_of bs) k 0 ≡ word_of (get_or bs (4 * k) 0) (get_or bs (4 * k + 1) 0) (get_or bs (4 * k + 2) 0) (get_or bs (4 * k + 3) 0)
unfolding words_of
words_at [] k h = absurd (omega arith)
words_at (a ∷ []) k h = absurd (omega arith)
words_at (a ∷ b ∷ []) k h = absurd (omega arith)
words_at (a ∷ b ∷ c ∷ []) k h = absurd (omega arith)
words_at (a ∷ b ∷ c ∷ d ∷ bs) zero h = refl
words_at (a ∷ b ∷ c ∷ d ∷ bs) (suc k) h = rw (quadruple k 1, quadruple k 2, quadruple k 3, quadruple_0 k) (words_at bs k (omega arith))

-- ---- sizes

pub words_small : (bs : List ℕ) → All Byte bs → All Word (words_of bs)
unfolding words_of
words_small [] h = tt
words_small (a ∷ []) h = tt
words_small (a ∷ b ∷ []) h = tt
words_small (a ∷ b ∷ c ∷ []) h = tt
words_small (a ∷ b ∷ c ∷ d ∷ bs) h = (word_small h.0 h.1.0 h.1.1.0 h.1.1.1.0, words_small bs h.1.1.1.1)

-- ---- signed numbers

pub signed_unsigned : {l : List ℤ} → All (SFits w32) l → map signed (map unsigned l) ≡ l
signed_unsigned {l = []} h = refl
signed_unsigned {l = z ∷ l} h = λ i. to_z-of_z w32 z h.0 i ∷ signed_unsigned {l = l} h.1 i

pub unsigned_signed : {l : List ℕ} → All Word l → map unsigned (map signed l) ≡ l
unsigned_signed {l = []} h = refl
unsigned_signed {l = w ∷ l} h = λ i. of_z-to_z w32 w (record { fits = h.0 }) i ∷ unsigned_signed {l = l} h.1 i
