-- A line found by its number (`Sought`): what the loop keeps (`Seeking`), and how it begins, goes
-- on and ends. Assumes nothing.
use mathlib.Core.Path.{◌≡◌, sym, ◌∙◌, ap}
use mathlib.Core.Bool.{true, false, cond}
use mathlib.Core.List.{List}
use Prim.Native.Nat.{ℕ, ◌+◌, ◌-◌, ◌≤◌, ◌<◌}
use native.Mathlib.Omega.{arith}
use borrow.Author.Tests.{lt-ltb, le-ltb}
use lib.Dec.{ltb}
use lib.ListN.{length, take, drop, drop_of_length-le}
use Rattle.fields.specs.Fields.{run_length, in_run, lines_of}
use Rattle.fields.specs.declared.Run.TheVariants as run
use Rattle.fields.proofs.Lines.{lines_none}
use Rattle.mesh_text.specs.Text.{mark_end, lines_in}
use Rattle.mesh_text.proofs.Gatherings.{lines_at}
use Rattle.mesh_told.specs.Told.{said_of, says, said_at}
use Rattle.mesh_told.specs.Search.{Sought}

-- what holds where the lines before place `from` are passed, of which `count` say something
pub record Seeking (text : List ℕ) (n from left count : ℕ) : Type 0 where
  pub said : said_at n 0 (lines_in text) ≡ said_at left count (lines_of (drop from text))
  pub near : count ≤ from
  pub within : from ≤ length text + 1

pub seeking_begins : {text : List ℕ} (n : ℕ) {from : ℕ} → from ≡ mark_end text → from ≤ length text → Seeking text n from n 0
seeking_begins {text} n e h = record { said = ap (λ m. said_at n 0 (lines_of (drop m text))) (sym e); near = omega arith; within = omega arith }

module _ {text : List ℕ} {n from left count : ℕ} (g : Seeking text n from left count) where
  module _ {e : ℕ} (h : from < length text) (q : e ≡ from + run_length (in_run run.Line) (drop from text)) (u : e ≤ length text) where
    abbrev line : List ℕ
    line = take (e - from) (drop from text)

    line_said : said_at n 0 (lines_in text) ≡ cond (ltb left 2) (said_of count line) (said_at (left - 1) (count + says line) (lines_of (drop (e + 1) text)))
    unfolding said_at
    line_said = g.said ∙ ap (said_at left count) (lines_at text h q)

    pub found : left < 2 → Sought text n (record { there = true; from = from; end = e; count = count })
    found f =
        record {
          said = line_said ∙ ap (λ b. cond b (said_of count line) (said_at (left - 1) (count + says line) (lines_of (drop (e + 1) text)))) (lt-ltb left 2 f);
          before = omega arith;
          within = u;
        }

    pub seeking_on : {s : ℕ} → 2 ≤ left → s ≡ says line → s ≤ 1 → Seeking text n (e + 1) (left - 1) (count + s)
    seeking_on {s} f p b =
        record {
          said = line_said ∙ ap (λ b. cond b (said_of count line) (said_at (left - 1) (count + says line) (lines_of (drop (e + 1) text)))) (le-ltb left 2 f)
              ∙ ap (λ m. said_at (left - 1) (count + m) (lines_of (drop (e + 1) text))) (sym p);
          near = omega (arith, g.near);
          within = omega arith;
        }

  pub not_found : length text ≤ from → Sought text n (record { there = false; from = 0; end = 0; count = 0 })
  unfolding said_at
  not_found h =
      record {
        said = g.said ∙ ap (said_at left count) (ap lines_of (drop_of_length-le text h) ∙ lines_none);
        before = omega arith;
        within = omega arith;
      }
