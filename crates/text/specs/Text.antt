-- Numbers and corners as text, the words that the programs' listings share (document 01, "The file
-- and its listing"). Assumes nothing.
use Rattle.std.specs.Prelude.{cond, ℕ, zero, suc, ◌+◌, ◌/◌, ◌%◌, ltb, ℤ, pos, negsuc}
use mathlib.Core.List.{List, [], ◌∷◌, ◌++◌, map, flatten}
use Rattle.plane.specs.Plane.{Pt}

-- ---- numbers

-- the digits of n before the text t; k is how many there are at the most
unfoldable pub digits : ℕ → ℕ → List ℕ → List ℕ
digits zero n t = t
digits (suc k) n t = cond (ltb n 10) ((48 + n) ∷ t) (digits k (n / 10) ((48 + n % 10) ∷ t))

-- every number that is printed is below 2^64, so 20 digits are enough (proofs/Digits.antt)
abbrev pub decimal : ℕ → List ℕ
decimal n = digits 20 n []

-- a minus before a negative number
unfoldable pub signed_decimal : ℤ → List ℕ
signed_decimal (pos n) = decimal n
signed_decimal (negsuc n) = 45 ∷ decimal (suc n)

-- ---- words and signs

abbrev pub space : List ℕ
space = 32 ∷ []

abbrev pub newline : List ℕ
newline = 10 ∷ []

-- " corners ", "refused "
abbrev pub corners_word : List ℕ
corners_word = 32 ∷ 99 ∷ 111 ∷ 114 ∷ 110 ∷ 101 ∷ 114 ∷ 115 ∷ 32 ∷ []

abbrev pub refused_word : List ℕ
refused_word = 114 ∷ 101 ∷ 102 ∷ 117 ∷ 115 ∷ 101 ∷ 100 ∷ 32 ∷ []

-- ---- corners

-- " (x,y)"
unfoldable pub corner_text : Pt → List ℕ
corner_text p = (32 ∷ 40 ∷ signed_decimal p.x) ++ (44 ∷ signed_decimal p.y) ++ (41 ∷ [])

-- the corners of a contour, one after another
unfoldable pub corners_text : List Pt → List ℕ
corners_text p = flatten (map corner_text p)

-- ---- refusals

-- "A refusal prints `refused` and the number."
unfoldable pub refusal : ℕ → List ℕ
refusal f = refused_word ++ decimal f ++ newline
