-- What turning a text into a mesh file answers, and what the lent bytes hold as it returns. Assumes
-- nothing.
use Rattle.std.specs.Prelude.{Bool, cond, List, ℕ, eqb, ltb, length}
use Rattle.integers.specs.Lists.{overlay}
use Rattle.mesh_text.specs.declared.NotConverted.{NotConverted}
use Rattle.std.specs.Prelude.{Result, Ok, Err}
use Rattle.mesh_text.specs.declared.NotConverted.TheVariants as not_converted
use Rattle.mesh_text.specs.Text.{wrong_line, file_of_text}

-- a text of more bytes is not read; the most triangles, written with no byte to spare, take less
-- than half of it
abbrev pub max_text : ℕ
max_text = 262144

abbrev pub too_long : List ℕ → Bool
too_long text = ltb max_text (length text)

unfoldable pub conversion : List ℕ → Result ℕ NotConverted
conversion text =
    cond (too_long text) (Err not_converted.TooLong) (cond (eqb (wrong_line text) 0) (Ok (length (file_of_text text))) (Err (not_converted.Wrong (wrong_line text))))

-- a refusal changes nothing
unfoldable pub bytes_converted : List ℕ → List ℕ → List ℕ
bytes_converted text old = cond (too_long text) old (cond (eqb (wrong_line text) 0) (overlay (file_of_text text) old) old)
