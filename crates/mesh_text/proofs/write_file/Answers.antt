-- `mesh_text::write_file` meets its contract. Assumes nothing.
use native.Mathlib.Omega.{arith}
use Rattle.mesh_text.proofs.Writing.{put_file}
use Rattle.mesh_text.proofs.write_file.Goals as goal

pub returns-clause-bytes : goal.returns-clause-bytes
returns-clause-bytes c = let s = c.args in put_file _ _ _ s.gathered.now s.out.now (omega (arith, c.requires)) c.put_word.ensures c.put_word-2.ensures
    c.put_word-3.ensures c.write_words.ensures
