-- What is gathered of a text line by line, as the inner functions promise it. Assumes nothing.
use Rattle.std.specs.Prelude.{◌≡◌, true, cond, List, [], ◌∷◌, ◌++◌, ℕ, ◌+◌, ◌*◌, ◌-◌, ◌≤◌, length, take}
use Rattle.mesh.specs.Rows.{row_width}
use Rattle.mesh_lines.specs.Lines.{is_passed_over}
use Rattle.mesh_text.specs.declared.Step.{Step}
use Rattle.mesh_text.specs.declared.Reading.{Reading}
use Rattle.mesh_text.specs.Text.{max_written, max_telling, lines_in, wrong_from, wrong_line, telling, line_words}

-- the words of the longest text: two of the first line and nine a triangle
abbrev pub gather_room : ℕ
gather_room = row_width * max_written + 2

-- how many words fewer the first line gives than a triangle's
abbrev pub fewer : ℕ
fewer = row_width - 2

-- the words of lines behind k that said something
unfoldable pub words_from : ℕ → List (List ℕ) → List ℕ
words_from k [] = []
words_from k (l ∷ ls) = cond (is_passed_over l) (words_from k ls) (line_words k l ++ words_from (k + 1) ls)

-- what taking line l does, whatever lines ls follow: behind k lines row_width * k - fewer words are
-- gathered
pub record Taken (l : List ℕ) (k : ℕ) (old new : List ℕ) (r : Step) : Type 0 where
  pub judged : (n : ℕ) (ls : List (List ℕ)) → wrong_from k n (l ∷ ls) ≡ cond r.right (wrong_from r.count (n + 1) ls) (n + 1)
  pub words : r.right ≡ true → (ls : List (List ℕ)) → take (row_width * k - fewer) old ++ words_from k (l ∷ ls) ≡ take (row_width * r.count - fewer) new ++ words_from r.count ls
  pub lines : r.right ≡ true → (ls : List (List ℕ)) → k + length (telling (l ∷ ls)) ≡ r.count + length (telling ls)
  pub few : r.right ≡ true → r.count ≤ max_telling
  pub as_many : length new ≡ length old

-- what is gathered of a whole text
pub record Gathered (text old new : List ℕ) (r : Reading) : Type 0 where
  pub judged : r.wrong ≡ wrong_line text
  pub lines : r.wrong ≡ 0 → r.count ≡ length (telling (lines_in text))
  pub words : r.wrong ≡ 0 → take (row_width * r.count - fewer) new ≡ words_from 0 (lines_in text)
  pub some : r.wrong ≡ 0 → 1 ≤ r.count
  pub few : r.wrong ≡ 0 → r.count ≤ max_telling
  pub as_many : length new ≡ length old
