-- A shard's bytes as code puts them. In order: words put are text put (`words_put`); the counts and
-- the starts behind the first five words (`counts_put`); a start less the first (`less-turn`); a
-- part of the bytes as the machine takes it; the whole (`shard_put`). Assumes nothing.
use mathlib.Core.Path.{◌≡◌, refl, sym, ◌∙◌, ap}
use mathlib.Core.List.{List, [], ◌∷◌, ◌++◌, map}
use Prim.Native.Nat.{ℕ, ◌+◌, ◌*◌, ◌-◌, ◌<◌, ◌≤◌}
use native.Mathlib.Omega.{arith}
use lib.ListN.{length, take, drop, get_or, length-append, length-map, length-drop, get_or-map}
use lib.Seq.{slice, length-take-le, length-slice, take_all, get_or-take, get_or-drop}
use Rattle.integers.specs.Lists.{overlay}
use Rattle.integers.proofs.Overlay.{overlay_eq}
use Rattle.table.specs.Stored.{words_of, word_bytes, word_at}
use Rattle.table.proofs.Words.{length_words, length-word_bytes}
use Rattle.table_words.specs.Place.{put_words}
use Rattle.table_words.proofs.Places.{put_put}
use Rattle.text.specs.Put.{put_at, PutText}
use Rattle.text.proofs.Puts.{put_after_lem, put_whole, put_length}
use Rattle.pairs_job.specs.Job.{table_words}
use Rattle.pairs_shard.specs.Shard.{past_part, first_part, start_at, corner_place, shard_counts, shard_bytes, shard_of, shard_fault}
use Rattle.pairs_shard.proofs.Known.{Known, known, asked}

-- ---- words put are text put

-- what they are
put_is : (k : ℕ) (ws old : List ℕ) → put_words k ws old ≡ take (4 * k) old ++ word_bytes ws ++ drop (4 * k + 4 * length ws) old
unfolding put_words
put_is k ws old = refl

put_at_lem : (at : ℕ) (t old : List ℕ) → put_at at t old ≡ overlay (take at old ++ t) old
unfolding put_at
put_at_lem at t old = refl

pub words_put : (k : ℕ) (ws old : List ℕ) {buf : List ℕ} → 4 * k ≤ length old → buf ≡ put_words k ws old → PutText (word_bytes ws) (4 * k) old buf (4 * k + 4 * length ws)
words_put k ws old h p =
    let n : length (take (4 * k) old ++ word_bytes ws) ≡ 4 * k + 4 * length ws = omega (arith, length-append (take (4 * k) old) (word_bytes ws), length-take-le (4 * k) old h, length-word_bytes ws) in
    record {
      after = omega (arith, length-word_bytes ws);
      bytes =
          p ∙ put_is k ws old ∙ ap (λ m. (take (4 * k) old ++ word_bytes ws) ++ drop m old) (sym n) ∙ sym (overlay_eq (take (4 * k) old ++ word_bytes ws) old) ∙ sym (put_at_lem (4 * k) (word_bytes ws) old);
    }

-- the head, two counts, the starts, one after another
pub counts_put : {head : List ℕ} {r : ℕ} {s : List ℕ} {o : List ℕ} {p q a b : ℕ} {s' o₁ o₂ o₃ o₄ : List ℕ} → length head ≡ 20 → 28 + 4 * length s ≤ length o → PutText head 0 o o₁ r
    → p ≡ a → q ≡ b → s' ≡ s → o₂ ≡ put_words 5 (p ∷ []) o₁ → o₃ ≡ put_words 6 (q ∷ []) o₂ → o₄ ≡ put_words 7 s' o₃
    → {n : ℕ} → n ≡ 28 + 4 * length s → PutText (head ++ word_bytes (a ∷ b ∷ s)) 0 o o₄ n
counts_put {head} {r} {s} {o} {p} {q} {a} {b} {s'} {o₁} {o₂} {o₃} {o₄} l room t e f g h₂ h₃ h₄ {n} z =
    let len : length o₁ ≡ length o = put_length t (omega arith) in
    let t₃ = h₃ ∙ ap (put_words 6 (q ∷ [])) h₂ ∙ put_put 5 (p ∷ []) o₁ (omega arith) (q ∷ []) in
    let t₄ : o₄ ≡ put_words 5 (a ∷ b ∷ s) o₁ = h₄ ∙ ap (λ v. put_words 7 v o₃) g ∙ ap (put_words 7 s) t₃ ∙ put_put 5 (p ∷ q ∷ []) o₁ (omega arith) s ∙ (λ i. put_words 5 (e i ∷ f i ∷ s) o₁) in
    let w = words_put 5 (a ∷ b ∷ s) o₁ (omega arith) t₄ in
    let m : r ≡ 20 = omega (arith, t.after) in
    put_after_lem (omega arith) t (record { after = omega (arith, w.after, z, m, length-word_bytes (a ∷ b ∷ s)); bytes = w.bytes ∙ ap (λ k. put_at k (word_bytes (a ∷ b ∷ s)) o₁) (sym m) })

-- ---- a start less the first

abbrev pub less_words : ℕ → ℕ → ℕ → List ℕ → List ℕ
less_words base from count bytes = map (λ s. s - base) (take count (drop from (words_of bytes)))

pub length_less : (base from count : ℕ) (bytes : List ℕ) → 4 * (from + count) ≤ length bytes → length (less_words base from count bytes) ≡ count
length_less base from count bytes h =
    length-map (take count (drop from (words_of bytes))) (λ s. s - base)
    ∙ length-take-le count (drop from (words_of bytes)) (omega (arith, length-drop from (words_of bytes), length_words bytes))

pub less_at : (base from count : ℕ) (bytes : List ℕ) (i : ℕ) → i < count → {w : ℕ} → w ≡ word_at bytes (from + i) → w - base ≡ get_or (less_words base from count bytes) i 0
less_at base from count bytes i h e =
    let z : 0 - base ≡ 0 = omega arith in
    ap (λ n. n - base) (e ∙ sym (get_or-take count (drop from (words_of bytes)) i 0 h ∙ get_or-drop from (words_of bytes) i 0))
    ∙ sym (ap (get_or (less_words base from count bytes) i) (sym z) ∙ get_or-map (λ s. s - base) (take count (drop from (words_of bytes))) i 0)

-- ---- a part of the bytes, as the machine takes it

pub length_taken : (a e : ℕ) (l : List ℕ) → e ≤ length l → length (take (e - a) (drop a l)) ≡ e - a
length_taken a e l h = length-take-le (e - a) (drop a l) (omega (arith, length-drop a l))

pub rest_taken : (a : ℕ) (l : List ℕ) → take (length l - a) (drop a l) ≡ drop a l
rest_taken a l = take_all (length l - a) (drop a l) (omega (arith, length-drop a l))

-- ---- the whole

pub length_counts : {f e : ℕ} {bytes : List ℕ} → Known f e bytes → length (take 20 bytes ++ word_bytes (shard_counts f e bytes)) ≡ 32 + 4 * (e - f)
length_counts {f} {e} {bytes} k =
    omega (
      arith,
      length-append (take 20 bytes) (word_bytes (shard_counts f e bytes)),
      length-take-le 20 bytes (omega (arith, k.inside)),
      length-word_bytes (shard_counts f e bytes),
      length_less (start_at bytes f) (7 + f) (e - f + 1) bytes (omega (arith, k.inside, k.past, k.order)),
    )

pub length_cut : {f e : ℕ} {bytes : List ℕ} → Known f e bytes
    → length (shard_bytes f e bytes) ≡ 32 + 4 * (e - f) + (8 * (start_at bytes e - start_at bytes f) + (length bytes - 4 * (5 + table_words bytes 5)))
unfolding shard_bytes
length_cut {f} {e} {bytes} k =
    let p = take 20 bytes ++ word_bytes (shard_counts f e bytes) in
    let q = slice (4 * corner_place bytes f) (4 * corner_place bytes e) bytes in
    let r = drop (4 * (5 + table_words bytes 5)) bytes in
    omega (
      arith,
      length-append p (q ++ r),
      length-append q r,
      length_counts k,
      length-slice (4 * corner_place bytes f) (4 * corner_place bytes e) bytes (omega arith),
      length-drop (4 * (5 + table_words bytes 5)) bytes,
    )

-- no shard is longer than the longest good job
pub shard_fits : (i j : ℕ) (bytes : List ℕ) → shard_fault bytes ≡ 0 → length (shard_of i j bytes) ≤ 147516
unfolding shard_of
shard_fits i j bytes z =
    let k = known (first_part i j bytes) (past_part j bytes) bytes (asked i j z) in
    omega (arith, length_cut k)

shard_as : (i j : ℕ) (bytes : List ℕ) {f e : ℕ} → f ≡ first_part i j bytes → e ≡ past_part j bytes → shard_bytes f e bytes ≡ shard_of i j bytes
unfolding shard_of
shard_as i j bytes p q = λ k. shard_bytes (p k) (q k) bytes

pub shard_put :
    (i j : ℕ) (bytes : List ℕ) {o o₁ o₂ : List ℕ} {f e m n : ℕ} → f ≡ first_part i j bytes → e ≡ past_part j bytes
    → PutText (take 20 bytes ++ word_bytes (shard_counts f e bytes)) 0 o o₁ m
    → PutText (slice (4 * corner_place bytes f) (4 * corner_place bytes e) bytes ++ drop (4 * (5 + table_words bytes 5)) bytes) m o₁ o₂ n
    → (n ≡ length (shard_of i j bytes)) × (o₂ ≡ overlay (shard_of i j bytes) o)
unfolding shard_bytes
shard_put i j bytes {o} p q s t =
    let w = put_whole (put_after_lem (omega arith) s t) in
    let z = shard_as i j bytes p q in
    (w.0 ∙ ap length z, w.1 ∙ ap (λ l. overlay l o) z)
