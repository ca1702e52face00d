-- Words written into lent bytes from word k on. Assumes nothing.
use Rattle.std.specs.Prelude.{List, ◌++◌, ℕ, ◌+◌, ◌*◌, length, take, drop}
use Rattle.table.specs.Stored.{word_bytes}

-- the words' bytes from byte 4 k on; before them and past them what was held
unfoldable pub put_words : ℕ → List ℕ → List ℕ → List ℕ
put_words k ws old = take (4 * k) old ++ word_bytes ws ++ drop (4 * k + 4 * length ws) old
