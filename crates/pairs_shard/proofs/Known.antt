-- What is known of a job that is cut at the parts f up to e: where its left table lies, its counts,
-- its starts (`known`). Assumes nothing.
use mathlib.Core.Path.{◌≡◌, ◌∙◌, ap, subst}
use mathlib.Core.List.{List}
use Prim.Native.Nat.{ℕ, zero, suc, ◌+◌, ◌*◌, ◌-◌, ◌<◌, ◌≤◌, min}
use native.Mathlib.Omega.{arith}
use borrow.Author.Tests.{lt-ltb, le-ltb, ltb-true, ltb-false}
use lib.Dec.{ltb}
use lib.ListN.{length, drop, get_or}
use lib.Seq.{get_or-take, get_or-drop}
use Rattle.integers.proofs.Order.{by_test}
use Rattle.table.specs.Stored.{words_of, word_at}
use Rattle.table.proofs.Rules.{Sound, sound}
use Rattle.pairs_job.specs.Job.{starts_at, corners_at, table_words}
use Rattle.pairs_job.proofs.Sizes.{sized, place, count_starts, count_numbers}
use Rattle.pairs_job.proofs.Shape.{shaped, left_inside}
use Rattle.pairs_shard.specs.Shard.{least_of, past_part, first_part, start_at, shard_fault, Cuts, AtLeast}
use Rattle.pairs_shard.proofs.Faults.{cuttable}

-- ---- the lesser of two numbers

pub least_right : {a b : ℕ} → b < a → b ≡ least_of a b
least_right {a} {b} h = rw (lt-ltb b a h)

pub least_left : {a b : ℕ} → a ≤ b → a ≡ least_of a b
least_left {a} {b} h = rw (le-ltb b a h)

pub least_is : (a b : ℕ) {m : ℕ} → m ≡ min a b → m ≡ least_of a b
least_is a b e = by_test (ltb b a) (λ t. omega (arith, e, ltb-true b a t) ∙ least_right (ltb-true b a t)) (λ t. omega (arith, e, ltb-false b a t) ∙ least_left (ltb-false b a t))

pub least_of_lem : (a b : ℕ) → (least_of a b ≤ a) × (least_of a b ≤ b)
least_of_lem a b =
    by_test (ltb b a)
    (λ t. let h = ltb-true b a t in let e = least_right h in (omega (arith, h, e), omega (arith, e)))
    (λ t. let h = ltb-false b a t in let e = least_left h in (omega (arith, e), omega (arith, h, e)))

-- ---- the left table's starts

pub start_word : (bytes : List ℕ) {k : ℕ} → k ≤ word_at bytes 5 → get_or (starts_at bytes 5) k 0 ≡ start_at bytes k
start_word bytes {k} h = get_or-take (word_at bytes 5 + 1) (drop 7 (words_of bytes)) k 0 (omega arith) ∙ get_or-drop 7 (words_of bytes) k 0

-- starts rise
ascend : (s : List ℕ) → ((k : ℕ) → suc k < length s → get_or s k 0 ≤ get_or s (suc k) 0) → (d f : ℕ) → f + d < length s → get_or s f 0 ≤ get_or s (f + d) 0
ascend s r zero f h = let e : f + 0 ≡ f = omega arith in rw e (omega arith)
ascend s r (suc d) f h =
    let e : f + suc d ≡ suc (f + d) = omega arith in
    rw e (omega (arith, ascend s r d f (omega arith), r (f + d) (omega arith)))

pub record Known (f e : ℕ) (bytes : List ℕ) : Type 0 where
  pub inside : 4 * (5 + table_words bytes 5) + 28 ≤ length bytes
  pub outside : length bytes ≤ 4 * (5 + table_words bytes 5) + 73756
  pub few_parts : word_at bytes 5 ≤ 2048
  pub few_corners : word_at bytes 6 ≤ 8192
  pub order : f ≤ e
  pub past : e ≤ word_at bytes 5
  pub rises : start_at bytes f ≤ start_at bytes e
  pub bounded : start_at bytes e ≤ word_at bytes 6

module _ (f e : ℕ) (bytes : List ℕ) (c : Cuts f e bytes) where
  pub table_sound : Sound (starts_at bytes 5) (corners_at bytes 5)
  table_sound = sound _ _ (cuttable bytes c.fault).rules

  pub many : length (starts_at bytes 5) ≡ word_at bytes 5 + 1
  many = count_starts bytes 5 (left_inside bytes (shaped bytes (cuttable bytes c.fault).shape).right_length)

  pub rising : (g d : ℕ) → g + d ≤ word_at bytes 5 → start_at bytes g ≤ start_at bytes (g + d)
  rising g d h =
      omega (arith, ascend (starts_at bytes 5) table_sound.rises d g (omega (arith, many)), start_word bytes {k = g} (omega arith), start_word bytes h)

  -- no start is past the corner count
  pub each_bounded : {k : ℕ} → k ≤ word_at bytes 5 → start_at bytes k ≤ word_at bytes 6
  each_bounded {k} h =
      let s = shaped bytes (cuttable bytes c.fault).shape in
      omega (arith, table_sound.bounded k (omega (arith, many)), count_numbers bytes 5 (left_inside bytes s.right_length), start_word bytes h)

  pub known : Known f e bytes
  known =
      let s = shaped bytes (cuttable bytes c.fault).shape in
      let n = sized bytes s.right_length in
      let z : f + (e - f) ≡ e = omega (arith, c.parts) in
      record {
        inside = omega (arith, n, place bytes);
        outside = omega (arith, n, place bytes, s.right_parts, s.right_corners);
        few_parts = s.left_parts;
        few_corners = s.left_corners;
        order = c.parts;
        past = c.past;
        rises = subst (λ k. start_at bytes f ≤ start_at bytes k) z (rising f (e - f) (omega (arith, c.parts, c.past)));
        bounded = each_bounded c.past;
      }

  -- no start is below the first
  pub at_least : {b : ℕ} → b ≡ start_at bytes f → AtLeast b (7 + f) (e - f + 1) bytes
  at_least {b} q k h =
      let z : 7 + (f + k) ≡ 7 + f + k = omega arith in
      omega (arith, q, rising f k (omega (arith, h, c.parts, c.past)), ap (word_at bytes) z)

-- the parts that are asked for
pub asked : (i j : ℕ) {bytes : List ℕ} → shard_fault bytes ≡ 0 → Cuts (first_part i j bytes) (past_part j bytes) bytes
asked i j {bytes} z = record { fault = z; parts = (least_of_lem i (past_part j bytes)).1; past = (least_of_lem j (word_at bytes 5)).1 }

pub asked_as : (i j : ℕ) {bytes : List ℕ} → shard_fault bytes ≡ 0 → {f e : ℕ} → f ≡ first_part i j bytes → e ≡ past_part j bytes → Cuts f e bytes
asked_as i j {bytes} z p q = let a = asked i j {bytes = bytes} z in rw (p, q) a
