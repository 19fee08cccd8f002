-- Text as bytes: a quoted text, a number in decimal, the fields of a line. Assumes nothing.
use Rattle.std.specs.Prelude.{cond, List, [], ◌∷◌, ◌++◌, ℕ, zero, suc, ◌+◌, ◌/◌, ◌%◌, ltb}
use Prim.Native.Char.{code}
use Prim.Native.String.{String, [] as nothing, ◌∷◌ as ◌before◌}

-- the codes of a quoted text's characters
unfoldable pub text : (s : String) → List ℕ
text nothing = []
text (c before s) = code c ∷ text s

-- a digit: 48 is the code of `0`
unfoldable pub digit : (d : ℕ) → List ℕ
digit d = (48 + d) ∷ []

-- n in decimal with no zeros in front, if it has at most one digit more than `most`: its digit where it is below 10, else the tenth
-- part in decimal, then the last digit
unfoldable pub decimal_to : (most n : ℕ) → List ℕ
decimal_to zero n = digit n
decimal_to (suc most) n = cond (ltb n 10) (digit n) (decimal_to most (n / 10) ++ digit (n % 10))

-- n in decimal: it has at most n + 1 digits
unfoldable pub decimal : (n : ℕ) → List ℕ
decimal n = decimal_to n n

-- a line: its fields, separated by single spaces, and the line's end
unfoldable pub line : (fields : List (List ℕ)) → List ℕ
line [] = text "\n"
line (field ∷ []) = field ++ text "\n"
line (field ∷ next ∷ more) = field ++ (text " " ++ line (next ∷ more))
