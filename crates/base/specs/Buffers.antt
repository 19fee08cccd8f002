-- What lent places hold at the end. Assumes nothing.
use Rattle.std.specs.Prelude.{List, [], ◌∷◌, ◌++◌, ℕ, zero, suc, length, drop, replicate}

-- g 0, g 1, .., n of them
unfoldable pub build : (g : ℕ → ℕ) (n : ℕ) → List ℕ
build g zero = []
build g (suc n) = build g n ++ (g n ∷ [])

-- the first places hold the new values; places beyond them are as they were
unfoldable pub written : (new old : List ℕ) → List ℕ
written new old = new ++ drop (length new) old

-- n times 0
unfoldable pub zeros : (n : ℕ) → List ℕ
zeros n = replicate n 0
