-- An operand as code puts it: four bounds, and the table behind them (`operand_put`). Assumes
-- nothing.
use mathlib.Core.Path.{◌≡◌, ◌∙◌, ap}
use mathlib.Core.List.{List}
use Prim.Native.Nat.{ℕ, ◌+◌, ◌*◌, ◌-◌, ◌≤◌}
use native.Mathlib.Omega.{arith}
use lib.ListN.{length, take, drop, length-append, length-drop}
use lib.Seq.{length-take-le}
use Rattle.table.specs.Stored.{word_bytes, word_at}
use Rattle.table.proofs.Words.{length-word_bytes}
use Rattle.table_words.specs.Place.{put_words}
use Rattle.text.specs.Put.{PutText}
use Rattle.text.proofs.Puts.{put_after_lem, put_as}
use Rattle.pairs_job.specs.Job.{table_words, table_bytes}
use Rattle.pairs_shard.proofs.Putting.{words_put}
use Rattle.tables_job.specs.Tables.{bounds_words, operand_bytes, Writable}

module _ {bytes : List ℕ} {k at : ℕ} {out o₁ o₂ : List ℕ} {p n r : ℕ} (w : Writable bytes k out at) (e : p ≡ word_at bytes k) (d : n ≡ word_at bytes (k + 1)) where
  pub operand_put : o₁ ≡ put_words at (bounds_words bytes (k + 3 + p) n) out
      → PutText (take (4 * (k + 3 + p + 2 * n) - 4 * k) (drop (4 * k) bytes)) (4 * (at + 4)) o₁ o₂ r → PutText (operand_bytes bytes k) (4 * at) out o₂ r
  unfolding operand_bytes
  operand_put h t =
      let z : 4 * (k + 3 + p + 2 * n) - 4 * k ≡ 4 * table_words bytes k = omega arith in
      let b = words_put at (bounds_words bytes (k + 3 + word_at bytes k) (word_at bytes (k + 1))) out (omega (arith, w.room)) (h ∙ (λ i. put_words at (bounds_words bytes (k + 3 + e i) (d i)) out)) in
      let m : 4 * at + 4 * 4 ≡ 4 * (at + 4) = omega arith in
      put_after_lem (omega (arith, w.room)) (rw m at b) (put_as (ap (λ l. take l (drop (4 * k) bytes)) z) t)

pub length_operand : (bytes : List ℕ) (k : ℕ) → 4 * (k + table_words bytes k) ≤ length bytes → length (operand_bytes bytes k) ≡ 16 + 4 * table_words bytes k
unfolding operand_bytes
length_operand bytes k h =
    let ws = bounds_words bytes (k + 3 + word_at bytes k) (word_at bytes (k + 1)) in
    omega (arith, length-append (word_bytes ws) (table_bytes bytes k), length-word_bytes ws, length-take-le (4 * table_words bytes k) (drop (4 * k) bytes) (omega (arith, length-drop (4 * k) bytes)))
