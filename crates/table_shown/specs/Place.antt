-- Where the part shown lies (document 01: "gets those corners themselves, not a copy"): a place is
-- a block of memory and the bytes before it in that block, as a lent slice's is. Assumes nothing.
use Rattle.std.specs.Prelude.{Bool, cond, List, ℕ, ◌+◌, ◌*◌, eqb, get_or}

-- part k of corners that lie at a place: in their block, from its first corner on; a corner is two
-- numbers of four bytes
unfoldable pub part_place : List ℕ → ℕ × ℕ → ℕ → ℕ × ℕ
part_place starts corners k = (corners.0, corners.1 + 8 * get_or starts k 0)

-- part k of the operand asked for, by the fault told: a refusal's empty part lies at the left
-- corners' own place
unfoldable pub shown_place : ℕ → List ℕ → ℕ × ℕ → List ℕ → ℕ × ℕ → Bool → ℕ → ℕ × ℕ
shown_place fault ls lc rs rc right k = cond (eqb fault 0) (part_place (cond right rs ls) (cond right rc lc) k) lc
