-- A text put piece by piece: `Putting` says that what was put and the pieces left make the whole.
-- In order: pieces joined (`joined`); at the start (`putting_start`), room for the next piece
-- (`putting_room`), that piece put (`putting_step`), at the end (`putting_end`); the length is kept
-- (`putting_length`). Assumes nothing.
use mathlib.Core.Path.{◌≡◌, sym, ◌∙◌, ap}
use mathlib.Core.List.{List, [], ◌∷◌, ◌++◌, append_assoc, append-nil, flatten}
use Prim.Native.Nat.{ℕ, ◌+◌, ◌≤◌}
use native.Mathlib.Omega.{arith}
use lib.ListN.{length, length-append}
use Rattle.text.specs.Put.{PutText}
use Rattle.text.proofs.Puts.{put_none, put_after_lem, put_length, put_as}

-- pieces as `◌++◌` joins them, from the left
abbrev pub joined_left : List ℕ → List (List ℕ) → List ℕ
joined_left a [] = a
joined_left a (b ∷ ps) = joined_left (a ++ b) ps

pub joined : (a : List ℕ) (ps : List (List ℕ)) → flatten (a ∷ ps) ≡ joined_left a ps
unfolding flatten
joined a [] = append-nil a
joined a (b ∷ ps) = sym (append_assoc a b (flatten ps)) ∙ joined (a ++ b) ps

-- of `whole`, from place `at` of out₀ on, all but `rest` is put, up to place m of out
pub record Putting (whole : List ℕ) (at : ℕ) (out₀ : List ℕ) (rest : List (List ℕ)) (out : List ℕ) (m : ℕ) : Type 0 where
  pub done : List ℕ
  pub makes : done ++ flatten rest ≡ whole
  pub room : at + length whole ≤ length out₀
  pub put : PutText done at out₀ out m

pub putting_start : {pieces : List (List ℕ)} {whole : List ℕ} {at : ℕ} {out : List ℕ} → flatten pieces ≡ whole → at + length whole ≤ length out → Putting whole at out pieces out at
putting_start {at = at} {out = out} e h = record { done = []; makes = e; room = h; put = put_none out (omega arith) }

module _ {whole : List ℕ} {at : ℕ} {out₀ : List ℕ} where
  pub putting_length : {rest : List (List ℕ)} {out : List ℕ} {m : ℕ} → Putting whole at out₀ rest out m → length out ≡ length out₀
  putting_length {rest} g = put_length g.put (omega (arith, g.room, ap length g.makes, length-append g.done (flatten rest)))

  pub putting_room : {t : List ℕ} {rest : List (List ℕ)} {out : List ℕ} {m : ℕ} → Putting whole at out₀ (t ∷ rest) out m → m + length t ≤ length out
  unfolding flatten
  putting_room {t} {rest} g = omega (arith, g.room, g.put.after, putting_length g, ap length g.makes, length-append g.done (t ++ flatten rest), length-append t (flatten rest))

  pub putting_step : {t : List ℕ} {rest : List (List ℕ)} {out out' : List ℕ} {m n : ℕ} → Putting whole at out₀ (t ∷ rest) out m → PutText t m out out' n → Putting whole at out₀ rest out' n
  unfolding flatten
  putting_step {t} {rest} g p = record {
    done = g.done ++ t;
    makes = append_assoc g.done t (flatten rest) ∙ g.makes;
    room = g.room;
    put = put_after_lem (omega (arith, g.room)) g.put p;
  }

  pub putting_end : {out : List ℕ} {m : ℕ} → Putting whole at out₀ [] out m → PutText whole at out₀ out m
  unfolding flatten
  putting_end g = put_as (sym (append-nil g.done) ∙ g.makes) g.put
