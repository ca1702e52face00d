-- A line found by its number. Assumes nothing.
use Rattle.std.specs.Prelude.{◌≡◌, cond, List, ℕ, ◌-◌, ◌≤◌, length, take, drop}
use Rattle.mesh_text.specs.Text.{lines_in}
use Rattle.mesh_told.specs.declared.Found.{Found}
use Rattle.mesh_told.specs.Told.{said_of, said_at, text_ends_word}

-- what finding line n tells: what is said of it
pub record Sought (text : List ℕ) (n : ℕ) (r : Found) : Type 0 where
  pub said : said_at n 0 (lines_in text) ≡ cond r.there (said_of r.count (take (r.end - r.from) (drop r.from text))) text_ends_word
  pub before : r.from ≤ r.end
  pub within : r.end ≤ length text
