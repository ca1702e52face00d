-- The byte-order mark, by the tests that the code makes. Assumes nothing.
use mathlib.Core.Path.{◌≡◌}
use mathlib.Core.List.{List}
use Prim.Native.Nat.{ℕ, ◌≤◌, ◌<◌}
use borrow.Author.Tests.{eq-eqb, ne_eqb, lt-ltb, le-ltb}
use lib.ListN.{length, get_or}
use Rattle.mesh_text.specs.Text.{mark_end}

module _ (text : List ℕ) where
  pub mark_short : length text < 3 → 0 ≡ mark_end text
  unfolding mark_end
  mark_short h = rw (lt-ltb (length text) 3 h)

  module _ (h : 3 ≤ length text) where
    pub first_other : (get_or text 0 0 ≡ 239 → ⊥) → 0 ≡ mark_end text
    unfolding mark_end
    first_other a = rw (le-ltb (length text) 3 h, ne_eqb (get_or text 0 0) 239 a)

    module _ (a : get_or text 0 0 ≡ 239) where
      pub second_other : (get_or text 1 0 ≡ 187 → ⊥) → 0 ≡ mark_end text
      unfolding mark_end
      second_other b = rw (le-ltb (length text) 3 h, eq-eqb (get_or text 0 0) 239 a, ne_eqb (get_or text 1 0) 187 b)

      module _ (b : get_or text 1 0 ≡ 187) where
        pub third_other : (get_or text 2 0 ≡ 191 → ⊥) → 0 ≡ mark_end text
        unfolding mark_end
        third_other d = rw (le-ltb (length text) 3 h, eq-eqb (get_or text 0 0) 239 a, eq-eqb (get_or text 1 0) 187 b, ne_eqb (get_or text 2 0) 191 d)

        pub marked : get_or text 2 0 ≡ 191 → 3 ≡ mark_end text
        unfolding mark_end
        marked d = rw (le-ltb (length text) 3 h, eq-eqb (get_or text 0 0) 239 a, eq-eqb (get_or text 1 0) 187 b, eq-eqb (get_or text 2 0) 191 d)
